use Rattle.peers.proofs.Owing.{went_and_came}
use Rattle.peers.proofs.laws.what_is_said_went_out.Goals as goal

pub returns : goal.returns
returns g c = went_and_came g.F.Commands.gives g.F.Commands.may_fail
