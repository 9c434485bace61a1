use Rattle.world_laws.proofs.Reached.{every_world}
use Rattle.world_laws.proofs.laws.every_world_is_true.Goals as goal

pub returns : goal.returns
returns g c = every_world g.F.Commands.gives g.F.Commands.may_fail
