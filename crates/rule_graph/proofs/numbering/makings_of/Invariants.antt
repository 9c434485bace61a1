use Rattle.std.proofs.Common.{◌≡◌, take}
use Rattle.std.specs.Prelude.{flat_map}
use Rattle.std.specs.List.{enumerate_from}
use Rattle.rule_graph.proofs.Makings.{makings_by}
use Rattle.rule_graph.proofs.numbering.makings_of.Given as goal

-- the makings of the rules so far
abbrev pub invariant-rules : goal.invariant-rules
invariant-rules l = l.all.items ≡ flat_map makings_by (enumerate_from 0 (take l.rule l.flow.rules))
