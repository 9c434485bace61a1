use Rattle.std.proofs.Common.{◌∙◌}
use Rattle.task_core.specs.States.{known_in}
use Rattle.task_core.proofs.Lending.{ready-all, ready-moves}
use Rattle.task_core.proofs.table.Table.ready.Goals as goal

pub returns-clause-known : goal.returns-clause-known
returns-clause-known c = c.ready.ensures ∙ ready-all (known_in c.args.self.now) c.progress.result.now c.progress.ensures.known

pub returns-clause-rules : goal.returns-clause-rules
returns-clause-rules c moves stands =
    c.ready.ensures ∙ ready-all (known_in c.args.self.now) c.progress.result.now c.progress.ensures.known ∙ ready-moves c.args.self.now moves stands
