use Rattle.safe_walks.specs.Walk.{standing}
use Rattle.safe_walks.proofs.Backs.{claim-back}
use Rattle.safe_walks.proofs.laws.claim_may_go.Goals as goal

pub returns : goal.returns
returns c P H limit r inside within = claim-back P (standing P H) r limit inside within
