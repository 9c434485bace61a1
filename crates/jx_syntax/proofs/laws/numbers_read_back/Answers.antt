use Rattle.jx_syntax.proofs.Numbers.{numbers-read_back}
use Rattle.jx_syntax.proofs.laws.numbers_read_back.Goals as goal

pub returns : goal.returns
returns c = numbers-read_back
