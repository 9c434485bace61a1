use Rattle.safe_walks.proofs.Keeps.{record-keeps}
use Rattle.safe_walks.proofs.laws.record_keeps_the_walk.Goals as goal

pub returns : goal.returns
returns c P digest H x limit allowed more none safe =
    record-keeps P digest H x limit more none allowed safe
