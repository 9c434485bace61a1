use Rattle.std.proofs.Common.{◌≡◌}
use Rattle.world_peers.specs.Company.{cut_if, is_under}
use Rattle.world_peers.proofs.Loops.{mapped_below}
use Rattle.world_peers.proofs.company.cut_under.Given as goal

-- the peers below the next one are done
abbrev pub invariant-loop-at : goal.invariant-loop-at
invariant-loop-at l = l.peers.items ≡ mapped_below (cut_if (is_under l.foreman)) l.at l.initial.peers.items
