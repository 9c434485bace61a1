use Rattle.std.proofs.Common.{◌≡◌, ◌<◌, ℕ, length}
use Rattle.std.specs.Prelude.{slice_index_or}
use Rattle.safe_storage.proofs.counting.set_back.Given as goal

abbrev pub invariant-loop-at : goal.invariant-loop-at
invariant-loop-at l = record {
  same : length l.counts.items ≡ length l.fn.counts.items;
  zero : (f : ℕ) → f < l.at → slice_index_or l.counts.items f 0 ≡ 0;
}
