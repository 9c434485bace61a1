use Rattle.links.proofs.Asking.{answered_due}
use Rattle.links.proofs.laws.answers_are_due.Goals as goal

pub returns : goal.returns
returns g c = answered_due g.F.Commands.gives g.F.Commands.may_fail
