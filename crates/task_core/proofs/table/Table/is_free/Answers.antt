use Rattle.std.proofs.Common.{◌∙◌}
use Rattle.task_core.proofs.Accounting.{free-known}
use Rattle.task_core.proofs.table.Table.is_free.Goals as goal

pub returns : goal.returns
returns c = c.is_free.ensures ∙ free-known _ _ c.self.view_is c.self.inside.counts c.args.file.0 c.self.invariant.1
