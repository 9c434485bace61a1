use Rattle.std.proofs.Common.{take}
use Rattle.flow_types.specs.Plans.{files_of}
use Rattle.rule_graph.specs.Walking.{IsLeastOf, is_never_made, file_number}
use Rattle.rule_graph.proofs.cycle.least_input.Given as goal

abbrev pub invariant-loop-port : goal.invariant-loop-port
invariant-loop-port l = IsLeastOf (is_never_made l.plan) (files_of (take l.port-index l.port-items)) (file_number l.least)
