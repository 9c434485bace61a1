use Rattle.rule_graph.proofs.LoopLaws.{none_named_where_all_are_taken, computed_is_named, named_is_computed, named_is_loop}
use Rattle.rule_graph.proofs.LoopsLeftOver.{loops_left_over, none_named_where_none_is, valid_is_numbered}
use Rattle.rule_graph.proofs.cycle.the_named_loop.Goals as goal

pub returns-clause-taken : goal.returns-clause-taken
returns-clause-taken c = none_named_where_all_are_taken

pub returns-clause-none : goal.returns-clause-none
returns-clause-none c = none_named_where_none_is

pub returns-clause-a_loop : goal.returns-clause-a_loop
returns-clause-a_loop c = named_is_loop

pub returns-clause-the_loop : goal.returns-clause-the_loop
returns-clause-the_loop c P loop numbered = (computed_is_named P loop numbered, named_is_computed P loop numbered)

pub returns-clause-left_over : goal.returns-clause-left_over
returns-clause-left_over c = loops_left_over

pub returns-clause-valid : goal.returns-clause-valid
returns-clause-valid c = valid_is_numbered
