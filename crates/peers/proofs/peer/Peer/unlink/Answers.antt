use Rattle.std.proofs.Common.{rules, ◌≡◌, ℕ, Ok, Err, Result, ap, subst}
use Rattle.flow_types.specs.declared.messages.Message.TheVariants as messages
use Rattle.link_session.specs.Keys.{key_of}
use Rattle.link_session.specs.Sessions.{State}
use Rattle.peers.specs.declared.leave.Leave.{Leave}
use Rattle.peers.specs.Sends.{Sends}
use Rattle.peers.proofs.Sending.{says_plain, unlink_plain}
use Rattle.peers.proofs.Serving.{same_peer}
use Rattle.peers.proofs.Receiving.{kept_by, none_came}
use Rattle.peers.proofs.peer.Peer.unlink.Goals as goal

pub returns-in-Ok-clause-serves : goal.returns-in-Ok-clause-serves
returns-in-Ok-clause-serves g c = λ said heard waiting tells serves.
    let gives = g.F.Commands.gives in
    let may_fail = g.F.Commands.may_fail in
    let history = g.L.Link.history in
    let way = c.self.inside.way in
    let feed = c.self.inside.feeder in
    let session = c.self.inside.session in
    let s = same_peer gives may_fail history c.args.self.now (record { way = way; feed = feed; session = session }) said heard waiting c.self.view_is serves in
    let now = c.args.self.now in
    let file = c.args.file in
    let key = key_of now.session.run file in
    let run : c.run.result ≡ now.session.run = search rules in
    let r : Result (Unit {0}) Leave = Ok tt in
    let sends : Sends r (messages.Unlink key) (history way) (history c.say.new.way) =
    subst (λ (n : ℕ). Sends r (messages.Unlink (key_of n file)) (history way) (history c.say.new.way)) run (c.in-Ok.ensures.sends tells) in
    says_plain gives may_fail r (history way) (history c.say.new.way) feed session c.dropped.new.self said heard waiting (messages.Unlink key) (unlink_plain key) sends
    (ap (λ (x : State). x.stage) c.dropped.ensures.state) (ap (λ (x : State). x.attempts) c.dropped.ensures.state) s

pub returns-clause-serves : goal.returns-clause-serves
returns-clause-serves g c = λ said heard waiting tells serves.
    let gives = g.F.Commands.gives in
    let may_fail = g.F.Commands.may_fail in
    let history = g.L.Link.history in
    let way = c.self.inside.way in
    let feed = c.self.inside.feeder in
    let session = c.self.inside.session in
    let s = same_peer gives may_fail history c.args.self.now (record { way = way; feed = feed; session = session }) said heard waiting c.self.view_is serves in
    let now = c.args.self.now in
    let file = c.args.file in
    let key = key_of now.session.run file in
    let run : c.run.result ≡ now.session.run = search rules in
    let r : Result (Unit {0}) Leave = Err c.in-Err.leave in
    let sends : Sends r (messages.Unlink key) (history way) (history c.say.new.way) =
    subst (λ (n : ℕ). Sends r (messages.Unlink (key_of n file)) (history way) (history c.say.new.way)) run (c.in-Err.ensures.sends tells) in
    says_plain gives may_fail r (history way) (history c.say.new.way) feed session c.dropped.new.self said heard waiting (messages.Unlink key) (unlink_plain key) sends
    (ap (λ (x : State). x.stage) c.dropped.ensures.state) (ap (λ (x : State). x.attempts) c.dropped.ensures.state) s

pub returns-in-Ok-clause-kept : goal.returns-in-Ok-clause-kept
returns-in-Ok-clause-kept g c = λ tells.
    kept_by g.L.Link.history (record { way = c.self.inside.way; feed = c.self.inside.feeder; session = c.self.inside.session }) c.args.self.now (g.L.Link.history c.say.new.way) c.self.view_is
    (none_came (g.L.Link.history c.self.inside.way) (g.L.Link.history c.say.new.way) (c.say.ensures.sends tells).nothing_came (c.say.ensures.sends tells).further)

pub returns-clause-kept : goal.returns-clause-kept
returns-clause-kept g c = λ tells.
    kept_by g.L.Link.history (record { way = c.self.inside.way; feed = c.self.inside.feeder; session = c.self.inside.session }) c.args.self.now (g.L.Link.history c.say.new.way) c.self.view_is
    (none_came (g.L.Link.history c.self.inside.way) (g.L.Link.history c.say.new.way) (c.say.ensures.sends tells).nothing_came (c.say.ensures.sends tells).further)
