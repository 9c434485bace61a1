use Rattle.std.proofs.Common.{ℕ, ◌<◌, ◌≤◌, get_or, length}
use Rattle.rule_graph.specs.Walking.{numbers_of}
use Rattle.rule_graph.proofs.cycle.place_of_least.Given as goal

abbrev pub invariant-places : goal.invariant-places
invariant-places l = record {
  so_far : l.least ≤ l.place;
  inside : l.least < length l.rules;
  least : (k : ℕ) → k < l.place → get_or (numbers_of l.rules) l.least 0 ≤ get_or (numbers_of l.rules) k 0;
}
