use Rattle.std.proofs.Common.{[], ap, refl}
use Rattle.links.specs.Passings.{received_in}
use Rattle.peers.proofs.Serving.{rests, same_peer}
use Rattle.peers.proofs.Receiving.{kept_by, none_came}
use Rattle.peers.proofs.peer.Peer.flush.Goals as goal

pub returns-clause-serves : goal.returns-clause-serves
returns-clause-serves g c = λ said heard waiting tells serves.
    let gives = g.F.Commands.gives in
    let may_fail = g.F.Commands.may_fail in
    let history = g.L.Link.history in
    let way = c.self.inside.way in
    let feed = c.self.inside.feeder in
    let session = c.self.inside.session in
    let s = same_peer gives may_fail history c.args.self.now (record { way = way; feed = feed; session = session }) said heard waiting c.self.view_is serves in
    rests gives may_fail (history way) (history c.flush.new.self) feed feed session session said heard waiting (c.flush.ensures.history tells) refl refl s

pub returns-clause-kept : goal.returns-clause-kept
returns-clause-kept g c = λ tells.
    kept_by g.L.Link.history (record { way = c.self.inside.way; feed = c.self.inside.feeder; session = c.self.inside.session }) c.args.self.now (g.L.Link.history c.flush.new.self) c.self.view_is
    (none_came (g.L.Link.history c.self.inside.way) (g.L.Link.history c.flush.new.self) (ap received_in (c.flush.ensures.history tells)) ([], c.flush.ensures.history tells))
