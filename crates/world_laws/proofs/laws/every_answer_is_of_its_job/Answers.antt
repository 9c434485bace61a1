use Rattle.world_laws.proofs.Reached.{every_answer}
use Rattle.world_laws.proofs.laws.every_answer_is_of_its_job.Goals as goal

pub returns : goal.returns
returns g c = every_answer g.F.Commands.gives g.F.Commands.may_fail
