-- The printed numbers are computed.
use Rattle.std.proofs.Common.{refl}
use Rattle.std.specs.Fmt.{digits}
use Rattle.report.proofs.examples.lines_of_a_run.Goals as goal

pub returns-clause-complete : goal.returns-clause-complete
unfolding digits
returns-clause-complete c = refl

pub returns-clause-collected : goal.returns-clause-collected
unfolding digits
returns-clause-collected c = refl

pub returns-clause-status : goal.returns-clause-status
unfolding digits
returns-clause-status c = refl

pub returns-clause-signed : goal.returns-clause-signed
unfolding digits
returns-clause-signed c = refl

pub returns-clause-missing : goal.returns-clause-missing
unfolding digits
returns-clause-missing c = refl

pub returns-clause-too_long : goal.returns-clause-too_long
unfolding digits
returns-clause-too_long c = refl

pub returns-clause-too_large : goal.returns-clause-too_large
unfolding digits
returns-clause-too_large c = refl

pub returns-clause-waited : goal.returns-clause-waited
unfolding digits
returns-clause-waited c = refl

pub returns-clause-no_room : goal.returns-clause-no_room
unfolding digits
returns-clause-no_room c = refl
