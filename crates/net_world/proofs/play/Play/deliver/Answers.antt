use Rattle.std.proofs.Common.{sym, ap, ◌∙◌}
use Rattle.std.specs.Prelude.{slice_get}
use Rattle.std.proofs.lemmas.Result.{on_ok_weaker}
use Rattle.world_peers.specs.declared.sent.Party.TheVariants.{Master, Peer}
use Rattle.net_world.proofs.HearShows.{delivered_shown}
use Rattle.net_world.proofs.PeerShows.{item_at}
use Rattle.net_world.proofs.play.Play.deliver.Goals as goal

pub returns-in-Master-to : goal.returns-in-Master-to
returns-in-Master-to c P O w shown =
    delivered_shown P O w c.args.self.now _ c.args.at c.in-Some.sent.now Master Master c.in_ok-message.message
    (ap (λ bag. slice_get bag c.args.at) (sym c.deref.ensures.value) ∙ item_at c.deref.result.now c.args.at c.in-Some.sent.now c.in-Some.ensures.lookup.3)
    c.in-Master.is c.in-Master-to.is c.in_ok-message.ensures shown shown

pub returns-in-Peer-to : goal.returns-in-Peer-to
returns-in-Peer-to c = on_ok_weaker c.to_peer.result (λ turns P O w shown.
    delivered_shown P O w c.args.self.now c.to_peer.new.self c.args.at c.in-Some.sent.now Master (Peer c.in-Peer-to.peer) c.in_ok-message.message
    (ap (λ bag. slice_get bag c.args.at) (sym c.deref.ensures.value) ∙ item_at c.deref.result.now c.args.at c.in-Some.sent.now c.in-Some.ensures.lookup.3)
    c.in-Master.is c.in-Peer-to.is c.in_ok-message.ensures shown (turns P O w shown))
    c.to_peer.ensures

pub returns-in-Master-to-2 : goal.returns-in-Master-to-2
returns-in-Master-to-2 c = on_ok_weaker c.to_master.result (λ turns P O w shown.
    delivered_shown P O w c.args.self.now c.to_master.new.self c.args.at c.in-Some.sent.now (Peer c.in-Peer.peer) Master c.in_ok-message.message
    (ap (λ bag. slice_get bag c.args.at) (sym c.deref.ensures.value) ∙ item_at c.deref.result.now c.args.at c.in-Some.sent.now c.in-Some.ensures.lookup.3)
    c.in-Peer.is c.in-Master-to-2.is c.in_ok-message.ensures shown (turns P O w shown))
    c.to_master.ensures

pub returns-in-Peer-to-2 : goal.returns-in-Peer-to-2
returns-in-Peer-to-2 c = on_ok_weaker c.to_other.result (λ turns P O w shown.
    delivered_shown P O w c.args.self.now c.to_other.new.self c.args.at c.in-Some.sent.now (Peer c.in-Peer.peer) (Peer c.in-Peer-to-2.to) c.in_ok-message.message
    (ap (λ bag. slice_get bag c.args.at) (sym c.deref.ensures.value) ∙ item_at c.deref.result.now c.args.at c.in-Some.sent.now c.in-Some.ensures.lookup.3)
    c.in-Peer.is c.in-Peer-to-2.is c.in_ok-message.ensures shown (turns P O w shown))
    c.to_other.ensures
