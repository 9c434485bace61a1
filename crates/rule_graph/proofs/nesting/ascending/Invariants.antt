use Rattle.std.proofs.Common.{◌≡◌, map, take}
use Rattle.rule_graph.specs.Checked.{ascending}
use Rattle.rule_graph.proofs.Ports.{bytes_of}
use Rattle.rule_graph.proofs.nesting.ascending.Given as goal

abbrev pub invariant-loop-name : goal.invariant-loop-name
invariant-loop-name l = map bytes_of l.sorted.keys ≡ ascending (take l.name-index l.names)
