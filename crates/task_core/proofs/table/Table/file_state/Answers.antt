use Rattle.std.proofs.Common.{◌∙◌}
use Rattle.task_core.proofs.table.Table.file_state.Goals as goal

pub returns : goal.returns
returns c moves stands = c.file.ensures.state ∙ stands.files c.args.file.0
