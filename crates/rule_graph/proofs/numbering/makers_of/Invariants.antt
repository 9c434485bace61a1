use Rattle.std.proofs.Common.{◌≡◌, ◌≤◌, length, map, drop}
use Rattle.rule_graph.specs.Faults.{second_maker}
use Rattle.rule_graph.specs.Numbering.{first_maker}
use Rattle.rule_graph.proofs.numbering.makers_of.Given as goal

-- what is said of the makings from `left` on
abbrev pub invariant-makings : goal.invariant-makings
invariant-makings l = record {
  inside : l.left ≤ length l.makings;
  fault : l.makers.fault ≡ second_maker (drop l.left l.makings);
  first : l.makers.first.items ≡ map (first_maker (drop l.left l.makings)) l.names;
}

abbrev pub decreases-makings : goal.decreases-makings
decreases-makings l = l.left
