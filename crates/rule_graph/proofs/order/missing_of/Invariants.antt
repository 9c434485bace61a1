use Rattle.std.proofs.Common.{◌≡◌, ◌≤◌, take}
use Rattle.flow_types.specs.Plans.{files_of}
use Rattle.rule_graph.specs.Progress.{unmade}
use Rattle.rule_graph.proofs.order.missing_of.Given as goal

abbrev pub invariant-loop-port : goal.invariant-loop-port
invariant-loop-port l = record { count : l.missing ≡ unmade l.made (files_of (take l.port-index l.port-items)); few : l.missing ≤ l.port-index }
