use Rattle.std.proofs.Common.{◌∙◌, ap}
use Rattle.task_core.specs.Known.{Known}
use Rattle.task_core.proofs.Standing.{knows}
use Rattle.task_core.proofs.table.Table.rule_state.Goals as goal

pub returns : goal.returns
returns c moves stands = c.state.ensures ∙ ap (λ (K : Known). K.rules c.args.rule.0) (knows c.args.self.now moves stands)
