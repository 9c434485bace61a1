use Rattle.run_history.proofs.Claims.{claim-follows, end-follows}
use Rattle.run_history.proofs.laws.answers_may_follow.Goals as goal

pub returns-clause-claim : goal.returns-clause-claim
returns-clause-claim c = claim-follows

pub returns-clause-end : goal.returns-clause-end
returns-clause-end c = end-follows
