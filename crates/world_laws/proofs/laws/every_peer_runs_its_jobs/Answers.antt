use Rattle.world_laws.proofs.Reached.{every_peer}
use Rattle.world_laws.proofs.laws.every_peer_runs_its_jobs.Goals as goal

pub returns : goal.returns
returns g c = every_peer g.F.Commands.gives g.F.Commands.may_fail
