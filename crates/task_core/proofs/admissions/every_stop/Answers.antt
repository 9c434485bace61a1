use Rattle.task_core.proofs.Permits.{stop-all}
use Rattle.task_core.proofs.admissions.every_stop.Goals as goal

pub returns : goal.returns
returns c = stop-all
