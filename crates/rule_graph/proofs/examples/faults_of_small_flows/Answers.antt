use Rattle.std.proofs.Common.{refl}
use Rattle.std.specs.Str.{is_utf8, chars}
use lib.Utf8.{encode}
use Rattle.rule_graph.proofs.examples.faults_of_small_flows.Goals as goal

pub returns-clause-two_makers : goal.returns-clause-two_makers
unfolding is_utf8 chars encode
returns-clause-two_makers c = refl

pub returns-clause-cycle : goal.returns-clause-cycle
unfolding is_utf8 chars encode
returns-clause-cycle c = refl

pub returns-clause-own_input : goal.returns-clause-own_input
unfolding is_utf8 chars encode
returns-clause-own_input c = refl

pub returns-clause-same_name : goal.returns-clause-same_name
unfolding is_utf8 chars encode
returns-clause-same_name c = refl

pub returns-clause-bad_name : goal.returns-clause-bad_name
unfolding is_utf8 chars encode
returns-clause-bad_name c = refl

pub returns-clause-nested : goal.returns-clause-nested
unfolding is_utf8 chars encode
returns-clause-nested c = refl

pub returns-clause-least_first : goal.returns-clause-least_first
unfolding is_utf8 chars encode
returns-clause-least_first c = refl
