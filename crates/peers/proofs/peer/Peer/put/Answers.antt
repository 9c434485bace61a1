use Rattle.std.proofs.Common.{refl}
use Rattle.flow_types.specs.declared.messages.Message.TheVariants as messages
use Rattle.peers.proofs.Sending.{put_plain, says_plain}
use Rattle.peers.proofs.Serving.{same_peer}
use Rattle.peers.proofs.Receiving.{kept_by, none_came}
use Rattle.peers.proofs.peer.Peer.put.Goals as goal

pub returns-clause-serves : goal.returns-clause-serves
returns-clause-serves g c = λ said heard waiting tells serves.
    let gives = g.F.Commands.gives in
    let may_fail = g.F.Commands.may_fail in
    let history = g.L.Link.history in
    let way = c.self.inside.way in
    let feed = c.self.inside.feeder in
    let session = c.self.inside.session in
    let s = same_peer gives may_fail history c.args.self.now (record { way = way; feed = feed; session = session }) said heard waiting c.self.view_is serves in
    let key = c.args.key in
    let content = c.args.content in
    says_plain gives may_fail c.say_put.result (history way) (history c.say_put.new.way) feed session session said heard waiting (messages.Put key content) (put_plain key content)
    (c.say_put.ensures.sends tells) refl refl s

pub returns-clause-kept : goal.returns-clause-kept
returns-clause-kept g c = λ tells.
    kept_by g.L.Link.history (record { way = c.self.inside.way; feed = c.self.inside.feeder; session = c.self.inside.session }) c.args.self.now (g.L.Link.history c.say_put.new.way) c.self.view_is
    (none_came (g.L.Link.history c.self.inside.way) (g.L.Link.history c.say_put.new.way) (c.say_put.ensures.sends tells).nothing_came (c.say_put.ensures.sends tells).further)
