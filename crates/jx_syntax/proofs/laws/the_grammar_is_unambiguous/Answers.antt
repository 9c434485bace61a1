use Rattle.jx_syntax.proofs.Complete.{unambiguous}
use Rattle.jx_syntax.proofs.laws.the_grammar_is_unambiguous.Goals as goal

pub returns : goal.returns
returns c = unambiguous
