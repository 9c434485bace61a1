use Rattle.world_laws.proofs.Reached.{compose, lead_on}
use Rattle.world_laws.proofs.laws.events_lead_on.Goals as goal

pub returns-clause-compose : goal.returns-clause-compose
returns-clause-compose g c = compose g.F.Commands.gives g.F.Commands.may_fail

pub returns-clause-lead : goal.returns-clause-lead
returns-clause-lead g c = lead_on g.F.Commands.gives g.F.Commands.may_fail
