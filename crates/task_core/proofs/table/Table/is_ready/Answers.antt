use Rattle.std.proofs.Common.{◌∙◌, arith}
use Rattle.task_core.specs.States.{known_in}
use Rattle.task_core.proofs.Telling.{ready-is}
use Rattle.task_core.proofs.table.Table.is_ready.Goals as goal

pub is_ready-requires : goal.is_ready-requires
is_ready-requires c = omega (arith, c.requires, c.progress.ensures.known.rules.rules)

pub returns : goal.returns
returns c = c.is_ready.ensures ∙ ready-is (known_in c.args.self.now) c.progress.result.now c.args.rule.0 c.requires c.progress.ensures.known
