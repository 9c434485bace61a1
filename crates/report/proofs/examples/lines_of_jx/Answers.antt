-- The printed numbers are computed.
use Rattle.std.proofs.Common.{refl}
use Rattle.std.specs.Fmt.{digits}
use Rattle.report.proofs.examples.lines_of_jx.Goals as goal

pub returns-clause-syntax : goal.returns-clause-syntax
unfolding digits
returns-clause-syntax c = refl

pub returns-clause-value : goal.returns-clause-value
unfolding digits
returns-clause-value c = refl
