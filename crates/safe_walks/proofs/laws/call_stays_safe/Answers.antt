use Rattle.safe_walks.proofs.Calls.{call-safe}
use Rattle.safe_walks.proofs.laws.call_stays_safe.Goals as goal

pub returns : goal.returns
returns c = call-safe
