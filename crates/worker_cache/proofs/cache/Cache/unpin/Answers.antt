use Rattle.std.proofs.Common.{ap, arith}
use Rattle.worker_cache.specs.Caches.{bytes_of, all_pinned}
use Rattle.worker_cache.proofs.Pins.{releases_bytes, releases_pins}
use Rattle.worker_cache.proofs.cache.Cache.unpin.Goals as goal

pub invariant_of-self : goal.invariant_of-self
invariant_of-self c =
    let rows = c.self.inside.rows in
    let bytes = releases_bytes c.args.key rows in
    let pins = releases_pins c.args.key rows in
    let all = ap bytes_of c.release.ensures in
    let kept = ap all_pinned c.release.ensures in
    record {
      all = omega (arith, c.saturating_sub-self-inside-2.ensures, c.gone.ensures, c.self.invariant.all, bytes, all);
      pins = omega (arith, c.saturating_sub-self-inside.ensures, c.freed.ensures, c.self.invariant.pins, pins, kept);
      fits = omega (arith, c.saturating_sub-self-inside-2.ensures, c.self.invariant.fits);
    }
