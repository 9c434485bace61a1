use Rattle.std.proofs.Common.{◌≡◌, None, Some, sym, subst}
use Rattle.link_session.specs.Sessions.{State, started}
use Rattle.peers.specs.Serves.{Serves}
use Rattle.peers.proofs.Serving.{at_ok, opens, same_peer}
use Rattle.peers.proofs.peer.Peer.open.Goals as goal

pub returns-clause-serves : goal.returns-clause-serves
returns-clause-serves g c =
    at_ok (c.start.new.self ≡ started c.self.inside.session c.args.task.now) _ c.start.result
    (λ is said heard tells serves new.
    let gives = g.F.Commands.gives in
    let may_fail = g.F.Commands.may_fail in
    let history = g.L.Link.history in
    let way = c.self.inside.way in
    let feed = c.self.inside.feeder in
    let session = c.self.inside.session in
    let s = same_peer gives may_fail history c.args.self.now (record { way = way; feed = feed; session = session }) said heard None c.self.view_is serves in
    subst (λ (x : State). Serves gives may_fail (history way) feed x said heard (Some c.args.task.now)) (sym is) (opens gives may_fail (history way) feed session said heard c.args.task.now s new)) c.start.ensures.ok
