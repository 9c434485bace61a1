use Rattle.safe_storage.proofs.Told.{claimed-is}
use Rattle.safe_storage.proofs.laws.claimed_is_started.Goals as goal

pub returns : goal.returns
returns c = claimed-is
