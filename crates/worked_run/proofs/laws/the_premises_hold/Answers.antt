use Rattle.worked_run.proofs.Premises.{premises_hold, runs_complete}
use Rattle.worked_run.proofs.laws.the_premises_hold.Goals as goal

pub returns-clause-premises : goal.returns-clause-premises
returns-clause-premises c = premises_hold

pub returns-clause-complete : goal.returns-clause-complete
returns-clause-complete c = runs_complete
