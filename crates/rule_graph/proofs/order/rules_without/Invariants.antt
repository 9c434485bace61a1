use Rattle.std.proofs.Common.{◌≡◌, ℕ, ◌&&◌}
use Rattle.std.specs.Prelude.{nat_lt, ◌==◌, slice_index}
use Rattle.std.specs.Ordering.{nat_cmp}
use Rattle.std.specs.BTreeSet.{contains}
use Rattle.rule_graph.proofs.order.rules_without.Given as goal

abbrev pub invariant-rules : goal.invariant-rules
invariant-rules l = (t : ℕ) → contains nat_cmp l.ready t ≡ (nat_lt t l.rule && (slice_index l.missing t == 0))
