use Rattle.safe_walks.proofs.Courses.{run-safe}
use Rattle.safe_walks.proofs.laws.run_stays_safe.Goals as goal

pub returns : goal.returns
returns c = run-safe
