use Rattle.std.proofs.Common.{◌-◌, ◌≡◌, ℕ, [], ◌<◌, ◌≤◌, length, get_or}
use Rattle.std.specs.Cmp.Lexicographic.{slice_cmp}
use Rattle.std.specs.Ordering.{nat_cmp}
use Rattle.std.specs.declared.cmp.Ordering.TheVariants.{Less, Greater}
use Rattle.rule_graph.proofs.numbering.place_of.Given as goal

-- the names below `low` stand before the name, those from `high` on behind it
abbrev pub invariant-search : goal.invariant-search
invariant-search l = record {
  inside : l.high ≤ length l.names;
  below : (k : ℕ) → k < l.low → slice_cmp nat_cmp (get_or l.names k []) l.name ≡ Less;
  above : (k : ℕ) → l.high ≤ k → k < length l.names → slice_cmp nat_cmp (get_or l.names k []) l.name ≡ Greater;
}

abbrev pub decreases-search : goal.decreases-search
decreases-search l = l.high - l.low
