use Rattle.std.proofs.Common.{◌≡◌, ◌+◌}
use Rattle.worker_cache.specs.Caches.{bytes_of, make_room}
use Rattle.worker_cache.proofs.leaving.bytes_left.Given as goal

abbrev pub invariant-loop-held : goal.invariant-loop-held
invariant-loop-held l =
    l.total + bytes_of (make_room l.left l.held-iterator) ≡ bytes_of l.held-iterator + bytes_of (make_room l.excess l.rows.entries)
