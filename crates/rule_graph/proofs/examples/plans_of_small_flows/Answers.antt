use Rattle.std.proofs.Common.{refl}
use Rattle.std.specs.Str.{is_utf8, chars}
use lib.Utf8.{encode}
use Rattle.rule_graph.proofs.examples.plans_of_small_flows.Goals as goal

pub returns-clause-two_rules : goal.returns-clause-two_rules
unfolding is_utf8 chars encode
returns-clause-two_rules c = refl

pub returns-clause-one_copy : goal.returns-clause-one_copy
unfolding is_utf8 chars encode
returns-clause-one_copy c = refl

pub returns-clause-folder : goal.returns-clause-folder
unfolding is_utf8 chars encode
returns-clause-folder c = refl
