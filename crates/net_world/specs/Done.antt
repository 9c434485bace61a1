-- The world once what a step of a peer asks for is done.
use Rattle.std.specs.Prelude.{ℕ, map, slice_get}
use Rattle.world_peers.specs.declared.doing.Doing.{Doing}
use Rattle.world_peers.specs.declared.doing.Doing.TheVariants as doings
use Rattle.world_peers.specs.declared.doing.Parting.{Parting}
use Rattle.world_peers.specs.declared.doing.Parting.TheVariants as partings
use Rattle.world_peers.specs.Peers.{told_to}
use Rattle.world_laws.specs.Worlds.{World, carried, loses_below, sent_more, with_peers}
use Rattle.world_peers.specs.Company.{cut_where, is_under}

-- what a peer's step asks for is done
abbrev pub done : World → ℕ → Doing → World
done w p doings.Nothing = w
done w p (doings.Tells to sent) = sent_more w (map (told_to to p) sent)
done w p (doings.Carries acts) = carried w p acts

-- the world once that is done
abbrev pub parted_from : World → ℕ → Parting → World
parted_from w p partings.Nothing = w
parted_from w p (partings.Below f k) = loses_below w f k (slice_get w.peers f)
parted_from w p partings.Lead = with_peers w (cut_where (is_under p) w.peers)
