use Rattle.jx_syntax.proofs.ReadsBack.{texts-read_back}
use Rattle.jx_syntax.proofs.laws.texts_read_back.Goals as goal

pub returns : goal.returns
returns c = texts-read_back
