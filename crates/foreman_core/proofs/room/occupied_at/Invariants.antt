use Rattle.std.proofs.Common.{◌≡◌, ◌≤◌, take, length}
use Rattle.resource_pack.specs.Occupancy.{occupancy_of}
use Rattle.foreman_core.specs.Foremen.{loads_among}
use Rattle.foreman_core.proofs.room.occupied_at.Given as goal

abbrev pub invariant-loop-u : goal.invariant-loop-u
invariant-loop-u l =
    (l.occupied ≡ occupancy_of l.b.link.0 l.b.total (loads_among l.cache.rows l.b.link (take l.u-index l.attempts)))
    × (l.tasks ≡ length (loads_among l.cache.rows l.b.link (take l.u-index l.attempts)))
    × (l.tasks ≤ 64)
