-- The printed numbers are computed.
use Rattle.std.proofs.Common.{refl}
use Rattle.std.specs.Fmt.{digits}
use Rattle.report.proofs.examples.lines_of_rules.Goals as goal

pub returns-clause-name : goal.returns-clause-name
unfolding digits
returns-clause-name c = refl

pub returns-clause-makers : goal.returns-clause-makers
unfolding digits
returns-clause-makers c = refl

pub returns-clause-cycle : goal.returns-clause-cycle
unfolding digits
returns-clause-cycle c = refl
