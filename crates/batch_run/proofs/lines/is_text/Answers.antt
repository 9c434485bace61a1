use Rattle.std.proofs.Common.{sym}
use Rattle.std.proofs.lemmas.Str.{is_utf8-from_IsUtf8}
use Rattle.flow_types.proofs.Joins.{is_utf8-none}
use Rattle.batch_run.proofs.lines.is_text.Goals as goal

pub returns-in-Ok : goal.returns-in-Ok
returns-in-Ok c = sym (is_utf8-from_IsUtf8 _ c.in-Ok.ensures.cases.1)

pub returns-in_default : goal.returns-in_default
returns-in_default c = sym (is_utf8-none _ c.in_default.ensures.cases.0)
