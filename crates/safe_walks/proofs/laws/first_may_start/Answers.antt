use Rattle.safe_walks.proofs.Admits.{first-may_start}
use Rattle.safe_walks.proofs.laws.first_may_start.Goals as goal

pub returns : goal.returns
returns c = first-may_start
