use Rattle.std.proofs.Common.{◌≡◌, ◌<◌, ℕ, length}
use Rattle.safe_storage.specs.Counters.{is_complete_phase, is_marked, phase_at}
use Rattle.safe_storage.proofs.counting.mark_complete.Given as goal

abbrev pub invariant-loop-at : goal.invariant-loop-at
invariant-loop-at l = record {
  same : length l.over.items ≡ length l.phases;
  marks : (r : ℕ) → r < l.at → is_marked l.over.items r ≡ is_complete_phase (phase_at l.phases r);
}
