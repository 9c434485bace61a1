use Rattle.jx_syntax.proofs.Unique.{one_reason}
use Rattle.jx_syntax.proofs.laws.a_refusal_has_one_reason.Goals as goal

pub returns : goal.returns
returns c = one_reason
