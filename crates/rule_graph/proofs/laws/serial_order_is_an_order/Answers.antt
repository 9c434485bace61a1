use Rattle.rule_graph.proofs.OrderLaws.{serial_order_of_valid, nothing_left_over, valid_leaves_nothing}
use Rattle.rule_graph.proofs.laws.serial_order_is_an_order.Goals as goal

pub returns-clause-order : goal.returns-clause-order
returns-clause-order c = serial_order_of_valid

pub returns-clause-whole : goal.returns-clause-whole
returns-clause-whole c = nothing_left_over

pub returns-clause-valid : goal.returns-clause-valid
returns-clause-valid c = valid_leaves_nothing
