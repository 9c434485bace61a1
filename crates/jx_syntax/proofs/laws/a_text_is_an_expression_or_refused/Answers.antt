use Rattle.jx_syntax.proofs.Decided.{decided}
use Rattle.jx_syntax.proofs.laws.a_text_is_an_expression_or_refused.Goals as goal

pub returns : goal.returns
returns c = decided
