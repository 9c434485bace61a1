use Rattle.std.proofs.Common.{◌≡◌, ap, sym, ◌∙◌, arith}
use Rattle.worker_cache.specs.Caches.{bytes_of, all_pinned}
use Rattle.worker_cache.proofs.Counts.{pinned_le}
use Rattle.worker_cache.proofs.Pins.{pins_bytes, pins_pins}
use Rattle.worker_cache.proofs.cache.Cache.pin.Goals as goal

pub invariant_of-self : goal.invariant_of-self
invariant_of-self c =
    let rows = c.self.inside.rows in
    let new = c.add_pin.new.self in
    let bytes : bytes_of new ≡ bytes_of rows = ap bytes_of c.add_pin.ensures ∙ pins_bytes c.args.key rows in
    let pins = ap all_pinned c.add_pin.ensures ∙ pins_pins c.args.key rows in
    record {
      all = c.self.invariant.all ∙ sym bytes;
      pins = omega (arith, c.saturating_add-self-inside.ensures, c.loose.ensures, c.self.ranges, c.self.invariant.all, c.self.invariant.pins, c.self.invariant.fits, pins, bytes, pinned_le new);
      fits = c.self.invariant.fits;
    }
