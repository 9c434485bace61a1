use Rattle.std.proofs.Common.{rules, ◌≡◌, true, Ok, Err, Result}
use Rattle.link_session.specs.Sessions.{is_open}
use Rattle.peers.specs.declared.leave.Leave.{Leave}
use Rattle.peers.proofs.Sending.{says_cancel}
use Rattle.peers.proofs.Serving.{same_peer}
use Rattle.peers.proofs.Receiving.{kept_by, none_came}
use Rattle.peers.proofs.peer.Peer.cancel.Goals as goal

pub returns-in-Ok-clause-serves : goal.returns-in-Ok-clause-serves
returns-in-Ok-clause-serves g c = λ said heard waiting tells serves.
    let gives = g.F.Commands.gives in
    let may_fail = g.F.Commands.may_fail in
    let history = g.L.Link.history in
    let way = c.self.inside.way in
    let feed = c.self.inside.feeder in
    let session = c.self.inside.session in
    let s = same_peer gives may_fail history c.args.self.now (record { way = way; feed = feed; session = session }) said heard waiting c.self.view_is serves in
    let attempt = c.args.attempt in
    let was : is_open attempt session.attempts ≡ true = search rules in
    says_cancel gives may_fail (let r : Result (Unit {0}) Leave = Ok tt in r) (history way) (history c.say.new.way) feed session c.cancel.new.self said heard waiting attempt (c.in-Ok.ensures.sends tells) c.cancel.ensures.state was c.cancel.ensures.closed s

pub returns-clause-serves : goal.returns-clause-serves
returns-clause-serves g c = λ said heard waiting tells serves.
    let gives = g.F.Commands.gives in
    let may_fail = g.F.Commands.may_fail in
    let history = g.L.Link.history in
    let way = c.self.inside.way in
    let feed = c.self.inside.feeder in
    let session = c.self.inside.session in
    let s = same_peer gives may_fail history c.args.self.now (record { way = way; feed = feed; session = session }) said heard waiting c.self.view_is serves in
    let attempt = c.args.attempt in
    let was : is_open attempt session.attempts ≡ true = search rules in
    says_cancel gives may_fail (let r : Result (Unit {0}) Leave = Err c.in-Err.leave in r) (history way) (history c.say.new.way) feed session c.cancel.new.self said heard waiting attempt (c.in-Err.ensures.sends tells) c.cancel.ensures.state was c.cancel.ensures.closed s

pub returns-in-Ok-clause-kept : goal.returns-in-Ok-clause-kept
returns-in-Ok-clause-kept g c = λ tells.
    kept_by g.L.Link.history (record { way = c.self.inside.way; feed = c.self.inside.feeder; session = c.self.inside.session }) c.args.self.now (g.L.Link.history c.say.new.way) c.self.view_is
    (none_came (g.L.Link.history c.self.inside.way) (g.L.Link.history c.say.new.way) (c.say.ensures.sends tells).nothing_came (c.say.ensures.sends tells).further)

pub returns-clause-kept : goal.returns-clause-kept
returns-clause-kept g c = λ tells.
    kept_by g.L.Link.history (record { way = c.self.inside.way; feed = c.self.inside.feeder; session = c.self.inside.session }) c.args.self.now (g.L.Link.history c.say.new.way) c.self.view_is
    (none_came (g.L.Link.history c.self.inside.way) (g.L.Link.history c.say.new.way) (c.say.ensures.sends tells).nothing_came (c.say.ensures.sends tells).further)
