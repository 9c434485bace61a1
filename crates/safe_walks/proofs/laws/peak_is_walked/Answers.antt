use Rattle.safe_walks.proofs.Peaks.{peak-walked}
use Rattle.safe_walks.proofs.laws.peak_is_walked.Goals as goal

pub returns : goal.returns
returns c = peak-walked
