use Rattle.safe_walks.proofs.Admits.{safe-has_rule}
use Rattle.safe_walks.proofs.laws.safe_run_has_a_rule.Goals as goal

pub returns : goal.returns
returns c = safe-has_rule
