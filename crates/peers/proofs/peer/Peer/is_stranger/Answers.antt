use Rattle.std.proofs.Common.{rules, ◌≡◌, ◌∙◌, sym}
use Rattle.links.specs.Passings.{received_in, sent_in}
use Rattle.peers.specs.Strangers.{is_stranger}
use Rattle.peers.proofs.Strangers.{in_order, misspeaks}
use Rattle.peers.proofs.peer.Peer.is_stranger.Goals as goal

pub returns-clause-stranger : goal.returns-clause-stranger
returns-clause-stranger g c = λ said heard tells serves is.
    let now = c.args.self.now in
    let same : c.is_strange.result ≡ is_stranger now.session.stage now.feed.rest = search rules in
    misspeaks (sent_in (g.L.Link.history now.way)) (received_in (g.L.Link.history now.way)) now.feed.rest heard now.session.stage serves.greeted serves.came (sym same ∙ is)

pub returns-clause-sure : goal.returns-clause-sure
returns-clause-sure g c = λ said heard tells serves orderly.
    let now = c.args.self.now in
    let same : c.is_strange.result ≡ is_stranger now.session.stage now.feed.rest = search rules in
    same ∙ in_order (sent_in (g.L.Link.history now.way)) (received_in (g.L.Link.history now.way)) now.feed.rest heard now.session.stage serves.greeted serves.came orderly
