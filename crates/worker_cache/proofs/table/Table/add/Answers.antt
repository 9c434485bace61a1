use Rattle.std.proofs.Common.{[], ◌∷◌, ◌++◌, ap, ◌∙◌}
use Rattle.indexmap.proofs.CallerLemmas.{insert_entry-new}
use Rattle.worker_cache.specs.Caches.{same_key, place}
use Rattle.worker_cache.proofs.Tables.{none_held}
use Rattle.worker_cache.proofs.table.Table.add.Goals as goal

pub returns-in-Ok-clause-ok : goal.returns-in-Ok-clause-ok
returns-in-Ok-clause-ok c =
    let key = c.args.key in
    let map = c.self.inside.rows in
    let none = none_held key map.entries (ap (place key) c.self.view_is ∙ c.requires) in
    c.in-Ok.ensures.entries ∙ insert_entry-new same_key map key c.args.held none
    ∙ ap (λ rows. rows ++ (key, c.args.held) ∷ []) c.self.view_is
