-- The printed numbers are computed.
use Rattle.std.proofs.Common.{refl}
use Rattle.std.specs.Fmt.{digits}
use Rattle.report.proofs.examples.lines_of_refusals.Goals as goal

pub returns-clause-needs : goal.returns-clause-needs
unfolding digits
returns-clause-needs c = refl
