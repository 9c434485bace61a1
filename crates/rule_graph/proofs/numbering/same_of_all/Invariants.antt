use Rattle.std.proofs.Common.{◌≡◌, map, take}
use Rattle.rule_graph.proofs.numbering.same_of_all.Given as goal

abbrev pub invariant-loop-name : goal.invariant-loop-name
invariant-loop-name g l = l.table.items ≡ map (λ name. l.value) (take l._name-index l.names)
