use Rattle.std.proofs.Common.{refl, sym, ap, ◌∙◌}
use Rattle.std.specs.Prelude.{slice_get}
use Rattle.std.proofs.lemmas.Result.{on_ok_weaker}
use Rattle.world_peers.specs.declared.sent.Party.TheVariants.{Master, Peer}
use Rattle.net_world.proofs.HearShows.{delivery_shown}
use Rattle.net_world.proofs.PeerShows.{item_at}
use Rattle.net_world.proofs.play.Play.log_delivery.Goals as goal

pub returns-in-Master : goal.returns-in-Master
returns-in-Master c P O w shown =
    delivery_shown P O w c.args.self.now _ c.args.at c.in-Some.sent.now Master c.in-Some.sent.now.to c.in_ok-message.message
    (ap (λ bag. slice_get bag c.args.at) (sym c.deref.ensures.value) ∙ item_at c.deref.result.now c.args.at c.in-Some.sent.now c.in-Some.ensures.lookup.3)
    c.in-Master.is refl c.in_ok-message.ensures shown shown

pub returns-in-Master-to : goal.returns-in-Master-to
returns-in-Master-to c = on_ok_weaker c.log_message.result (λ turns P O w shown.
    delivery_shown P O w c.args.self.now c.log_message.new.self c.args.at c.in-Some.sent.now (Peer c.in-Peer.peer) Master c.in_ok-message.message
    (ap (λ bag. slice_get bag c.args.at) (sym c.deref.ensures.value) ∙ item_at c.deref.result.now c.args.at c.in-Some.sent.now c.in-Some.ensures.lookup.3)
    c.in-Peer.is c.in-Master-to.is c.in_ok-message.ensures shown (turns P O w shown))
    c.log_message.ensures

pub returns : goal.returns
returns c P O w shown =
    delivery_shown P O w c.args.self.now _ c.args.at c.in-Some.sent.now (Peer c.in-Peer.peer) (Peer c.in-Peer-to.field-0) c.in_ok-message.message
    (ap (λ bag. slice_get bag c.args.at) (sym c.deref.ensures.value) ∙ item_at c.deref.result.now c.args.at c.in-Some.sent.now c.in-Some.ensures.lookup.3)
    c.in-Peer.is c.in-Peer-to.is c.in_ok-message.ensures shown shown
