use Rattle.run_history.proofs.Limits.{limit-legal}
use Rattle.run_history.proofs.laws.storage_stays_within_its_limit.Goals as goal

pub returns : goal.returns
returns c = limit-legal
