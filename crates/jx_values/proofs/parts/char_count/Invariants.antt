use Rattle.std.proofs.Common.{◌≡◌, length}
use Rattle.jx_values.proofs.parts.char_count.Given as goal

abbrev pub invariant-loop-c : goal.invariant-loop-c
invariant-loop-c l = l.count ≡ length l.yielded
