-- The printed numbers are computed.
use Rattle.std.proofs.Common.{refl}
use Rattle.std.specs.Fmt.{digits}
use Rattle.report.proofs.examples.lines_of_logs.Goals as goal

pub returns-clause-damaged : goal.returns-clause-damaged
unfolding digits
returns-clause-damaged c = refl

pub returns-clause-not_legal : goal.returns-clause-not_legal
unfolding digits
returns-clause-not_legal c = refl

pub returns-clause-stored : goal.returns-clause-stored
unfolding digits
returns-clause-stored c = refl

pub returns-clause-cleaned : goal.returns-clause-cleaned
unfolding digits
returns-clause-cleaned c = refl
