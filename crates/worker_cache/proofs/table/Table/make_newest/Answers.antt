use Rattle.std.proofs.Common.{◌-◌, sym, ap, ◌∙◌}
use Rattle.worker_cache.specs.Caches.{newest}
use Rattle.worker_cache.proofs.Tables.{moved_is}
use Rattle.worker_cache.proofs.table.Table.make_newest.Goals as goal

pub returns-in-Some : goal.returns-in-Some
returns-in-Some c =
    let key = c.args.key in
    c.move_index.ensures.entries
    ∙ moved_is key c.self.inside.rows.entries c.in-Some.at (c.len-last.result - 1) (sym c.get_index_of.ensures.index ∙ c.in-Some.is) (ap (λ n. n - 1) c.len-last.ensures.len)
    ∙ ap (newest key) c.self.view_is
