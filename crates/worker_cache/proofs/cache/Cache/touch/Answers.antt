use Rattle.std.proofs.Common.{ap, sym, ◌∙◌}
use Rattle.worker_cache.specs.Caches.{bytes_in, pinned_in, bytes_of, all_pinned}
use Rattle.worker_cache.proofs.Weights.{of_newest}
use Rattle.worker_cache.proofs.cache.Cache.touch.Goals as goal

pub invariant_of-self : goal.invariant_of-self
invariant_of-self c =
    let rows = c.self.inside.rows in
    record {
      all = c.self.invariant.all ∙ sym (of_newest bytes_in c.args.key rows) ∙ sym (ap bytes_of c.make_newest.ensures);
      pins = c.self.invariant.pins ∙ sym (of_newest pinned_in c.args.key rows) ∙ sym (ap all_pinned c.make_newest.ensures);
      fits = c.self.invariant.fits;
    }
