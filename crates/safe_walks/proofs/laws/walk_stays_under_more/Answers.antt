use Rattle.safe_walks.proofs.Walks.{within-more}
use Rattle.safe_walks.specs.Walk.{standing}
use Rattle.safe_walks.proofs.laws.walk_stays_under_more.Goals as goal

pub returns : goal.returns
returns c P H limit more le within = within-more P (standing P H) limit more le within
