use Rattle.jx_syntax.proofs.Unique.{not_both}
use Rattle.jx_syntax.proofs.laws.no_text_is_both.Goals as goal

pub returns : goal.returns
returns c = not_both
