use Rattle.std.proofs.Common.{ap, ◌∙◌}
use Rattle.worker_cache.specs.Caches.{place, without}
use Rattle.worker_cache.proofs.Tables.{removed_is}
use Rattle.worker_cache.proofs.table.Table.remove.Goals as goal

pub returns : goal.returns
returns c =
    let key = c.args.key in
    c.shift_remove.ensures.entries ∙ removed_is key c.self.inside.rows.entries ∙ ap (λ rows. without (place key rows) rows) c.self.view_is
