use Rattle.std.proofs.Common.{ap, sym, ◌∙◌, arith}
use Rattle.worker_cache.specs.Caches.{bytes_of, all_pinned}
use Rattle.worker_cache.proofs.Pins.{leaves_bytes, leaves_pins}
use Rattle.worker_cache.proofs.cache.Cache.unlink.Goals as goal

pub invariant_of-self : goal.invariant_of-self
invariant_of-self c =
    let rows = c.self.inside.rows in
    let bytes = leaves_bytes c.args.key rows in
    let all = ap bytes_of c.leave.ensures in
    let pins = ap all_pinned c.leave.ensures ∙ leaves_pins c.args.key rows in
    record {
      all = omega (arith, c.saturating_sub-self-inside.ensures, c.loose.ensures, c.self.invariant.all, bytes, all);
      pins = c.self.invariant.pins ∙ sym pins;
      fits = omega (arith, c.saturating_sub-self-inside.ensures, c.self.invariant.fits);
    }
