use Rattle.std.proofs.Common.{◌∙◌, ap}
use Rattle.std.specs.Prelude.{filter}
use Rattle.task_core.specs.Known.{Known, is_on, running}
use Rattle.task_core.proofs.Standing.{knows}
use Rattle.task_core.proofs.table.Table.running_on.Goals as goal

pub returns-clause-rules : goal.returns-clause-rules
returns-clause-rules c moves stands = c.tasks_on.ensures.rules ∙ ap (λ (K : Known). filter (is_on K c.args.link.0) (running K)) (knows c.args.self.now moves stands)
