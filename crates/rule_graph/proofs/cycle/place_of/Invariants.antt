use Rattle.std.proofs.Common.{◌≡◌, ℕ, ◌<◌, true, not, get_or}
use Rattle.std.specs.Prelude.{◌==◌}
use Rattle.rule_graph.specs.Walking.{numbers_of}
use Rattle.rule_graph.proofs.cycle.place_of.Given as goal

abbrev pub invariant-places : goal.invariant-places
invariant-places l = (k : ℕ) → k < l.place → not (get_or (numbers_of l.rules) k 0 == l.rule.0) ≡ true
