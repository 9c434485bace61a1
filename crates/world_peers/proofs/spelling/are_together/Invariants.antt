use Rattle.std.proofs.Common.{◌≡◌, ◌+◌, length, take, sum_by}
use Rattle.world_peers.proofs.spelling.are_together.Given as goal

-- so many bytes are left beside those below the next one
abbrev pub invariant-loop-content : goal.invariant-loop-content
invariant-loop-content l = l.left + sum_by (λ c. length c) (take l.content-index l.contents) ≡ 67108864
