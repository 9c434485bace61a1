use Rattle.peers.proofs.Serving.{stays_due}
use Rattle.peers.proofs.laws.what_is_due_stays_due.Goals as goal

pub returns : goal.returns
returns c = stays_due
