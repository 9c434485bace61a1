use Rattle.std.proofs.Common.{◌≡◌, ◌≤◌, length}
use Rattle.jx_values.proofs.parts.char_at.Given as goal

abbrev pub invariant-loop-c : goal.invariant-loop-c
invariant-loop-c l = record {
  counted : l.at ≡ length l.yielded;
  ahead : l.at ≤ l.wanted;
}
