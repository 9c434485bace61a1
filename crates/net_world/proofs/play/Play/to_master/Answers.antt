use Rattle.std.proofs.Common.{rules, ◌≡◌, None, refl, sym, ap, ◌∙◌}
use Rattle.std.specs.Prelude.{position, slice_set}
use Rattle.std.proofs.lemmas.Result.{on_ok_weaker}
use Rattle.link_session.specs.Sessions.{told}
use Rattle.wq_messages.specs.Reading.{message_of}
use Rattle.net_world.specs.Hearings.{word_in}
use Rattle.world_laws.specs.Worlds.{Connection, at_peer}
use Rattle.net_world.proofs.HearShows.{master_heard, none_heard, same_message, unexpected_shown}
use Rattle.net_world.proofs.PeerShows.{item_at}
use Rattle.net_world.proofs.play.Play.to_master.Goals as goal

pub returns-in_default : goal.returns-in_default
returns-in_default c P O w shown =
    let none : c.line_of.result ≡ None = search rules in
    none_heard P O w _ c.args.peer c.args.message.now (sym none ∙ c.line_of.ensures.place ∙ ap (position (at_peer c.args.peer)) c.deref.ensures.value) shown

pub returns-in-Some-2 : goal.returns-in-Some-2
returns-in-Some-2 c =
    let line : Connection = c.in-Some-get_mut.line.now in
    let seen : c.in-Ok.view ≡ c.args.message.now = same_message c.as_slice.result.now c.in-Ok.view c.args.message.now c.in-Ok.ensures.answer (ap message_of c.as_slice.ensures ∙ c.in_ok-body.ensures) in
    on_ok_weaker c.follow.result (λ follows P O w shown.
    master_heard P O w c.args.self.now _ _ c.follow.new.self c.args.peer c.in-Some.at c.args.message.now line c.in-Some-2.word
    (c.in-Some.ensures.place ∙ ap (position (at_peer c.args.peer)) c.deref.ensures.value)
    (item_at c.args.self.now.lines.items c.in-Some.at line c.in-Some-get_mut.ensures.item.3)
    (sym c.in-Some-2.is ∙ c.in_ok-word.ensures.word ∙ ap (λ m. word_in (told line.session m).answer) seen) shown
    (ap (slice_set c.args.self.now.lines.items c.in-Some.at) (c.in_ok-word.ensures.line ∙ ap (λ m. let set : Connection = record line { session = (told line.session m).state } in set) seen))
    (record { table = refl; records = refl; contents = refl; peers = refl; bag = refl; up = refl })
    (λ v was fit. c.in_ok-log_end-in-Some-2.ensures P O v was fit)
    (λ v was peer there. follows P O v line was (ap (λ l. l.link) (sym c.line.view_is)) peer (there.0, there.1 ∙ ap (λ l. l.link) (sym c.line.view_is), there.2)))
    c.follow.ensures

pub returns : goal.returns
returns c P O w shown =
    let line : Connection = c.in-Some-get_mut.line.now in
    let seen : c.in-Ok.view ≡ c.args.message.now = same_message c.as_slice.result.now c.in-Ok.view c.args.message.now c.in-Ok.ensures.answer (ap message_of c.as_slice.ensures ∙ c.in_ok-body.ensures) in
    unexpected_shown P O w c.args.self.now _ c.args.peer c.in-Some.at c.args.message.now line
    (c.in-Some.ensures.place ∙ ap (position (at_peer c.args.peer)) c.deref.ensures.value)
    (item_at c.args.self.now.lines.items c.in-Some.at line c.in-Some-get_mut.ensures.item.3)
    (sym c.in-None.is ∙ c.in_ok-word.ensures.word ∙ ap (λ m. word_in (told line.session m).answer) seen) shown
    (ap (slice_set c.args.self.now.lines.items c.in-Some.at) (c.in_ok-word.ensures.line ∙ ap (λ m. let set : Connection = record line { session = (told line.session m).state } in set) seen))
    (record { table = refl; records = refl; contents = refl; peers = refl; bag = refl; up = refl })
