use Rattle.std.proofs.Common.{◌≡◌, ◌+◌, List, ℕ, length, sum_by, take}
use Rattle.mem_outside.proofs.fitting.is_within.Given as goal

abbrev pub invariant-loop-content : goal.invariant-loop-content
invariant-loop-content l = l.left + sum_by (λ (content : List ℕ). length content) (take l.content-index l.contents) ≡ 67108864
