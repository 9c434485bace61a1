use Rattle.std.proofs.Common.{ap, ◌∙◌}
use Rattle.worker_cache.specs.Caches.{held_of}
use Rattle.worker_cache.proofs.Tables.{held_is}
use Rattle.worker_cache.proofs.table.Table.get.Goals as goal

pub returns : goal.returns
returns c = c.get.ensures.value ∙ held_is c.args.key c.self.inside.rows.entries ∙ ap (held_of c.args.key) c.self.view_is
