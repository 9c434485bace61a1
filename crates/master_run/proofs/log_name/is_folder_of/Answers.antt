use Rattle.std.proofs.Common.{◌∙◌, sym}
use Rattle.master_run.proofs.Folders.{else_below, then_below}
use Rattle.master_run.proofs.log_name.is_folder_of.Goals as goal

pub returns-then-starts_with : goal.returns-then-starts_with
returns-then-starts_with c = then_below c.args.folder.now c.args.name.now c.starts_with-then-starts_with.result (sym c.starts_with.ensures.value ∙ c.if-starts_with.true) c.starts_with-then-starts_with.ensures.value

pub returns-else-starts_with : goal.returns-else-starts_with
returns-else-starts_with c = else_below c.args.folder.now c.args.name.now c.starts_with.result c.starts_with.ensures.value c.if-starts_with.false
