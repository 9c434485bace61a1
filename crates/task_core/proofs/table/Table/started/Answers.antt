use Rattle.std.proofs.Common.{◌∙◌, ap}
use Rattle.task_core.specs.declared.rows.RuleRow.{RuleRow}
use Rattle.task_core.proofs.table.Table.started.Goals as goal

pub returns : goal.returns
returns c moves stands = ap (λ (w : RuleRow). w.started) c.row.ensures ∙ (stands.rules c.args.rule.0).started
