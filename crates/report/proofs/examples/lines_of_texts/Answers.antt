-- The printed numbers are computed.
use Rattle.std.proofs.Common.{refl}
use Rattle.std.specs.Fmt.{digits}
use Rattle.report.proofs.examples.lines_of_texts.Goals as goal

pub returns-clause-utf8 : goal.returns-clause-utf8
unfolding digits
returns-clause-utf8 c = refl

pub returns-clause-name : goal.returns-clause-name
unfolding digits
returns-clause-name c = refl

pub returns-clause-colon : goal.returns-clause-colon
unfolding digits
returns-clause-colon c = refl
