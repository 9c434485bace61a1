use Rattle.task_core.proofs.Permits.{claim-claimable}
use Rattle.task_core.proofs.admissions.claims_claimable.Goals as goal

pub returns : goal.returns
returns c = claim-claimable
