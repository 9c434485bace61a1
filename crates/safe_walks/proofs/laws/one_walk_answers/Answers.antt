use Rattle.safe_walks.proofs.Passes.{one-pass}
use Rattle.safe_walks.proofs.laws.one_walk_answers.Goals as goal

pub returns : goal.returns
returns c = one-pass
