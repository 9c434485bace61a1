use Rattle.std.proofs.Common.{refl}
use Rattle.std.specs.Fmt.{digits}
use Rattle.log_text.proofs.examples.two_parts_are_printed.Goals as goal

pub returns-clause-legal : goal.returns-clause-legal
returns-clause-legal c = refl

pub returns-clause-printed : goal.returns-clause-printed
unfolding digits
returns-clause-printed c = refl
