use Rattle.std.proofs.Common.{rules, ◌≡◌, None, sym, ap, ◌∙◌}
use Rattle.std.specs.Prelude.{position, slice_get}
use Rattle.std.proofs.lemmas.Result.{on_ok_weaker}
use Rattle.link_session.specs.Sessions.{told}
use Rattle.wq_messages.specs.Reading.{message_of}
use Rattle.net_world.specs.Hearings.{word_in}
use Rattle.world_laws.specs.Worlds.{Connection, at_peer}
use Rattle.net_world.proofs.HearShows.{none_logged, same_message, unexpected_logged, word_logged}
use Rattle.net_world.proofs.PeerShows.{item_at}
use Rattle.net_world.proofs.play.Play.log_message.Goals as goal

pub returns-in_default : goal.returns-in_default
returns-in_default c P O w shown =
    let none : c.line_of.result ≡ None = search rules in
    none_logged P O w _ c.args.peer c.args.message.now (sym none ∙ c.line_of.ensures.place ∙ ap (position (at_peer c.args.peer)) c.deref.ensures.value) shown

pub returns-in-Some-2 : goal.returns-in-Some-2
returns-in-Some-2 c =
    let line : Connection = c.in-Some-get.line.now in
    let seen : c.in-Ok.view ≡ c.args.message.now = same_message c.as_slice.result.now c.in-Ok.view c.args.message.now c.in-Ok.ensures.answer (ap message_of c.as_slice.ensures ∙ c.in_ok-body.ensures) in
    on_ok_weaker c.log_end.result (λ ends P O w shown.
    word_logged P O w c.args.self.now c.log_end.new.self c.args.peer c.in-Some.at c.args.message.now line c.in-Some-2.word
    (c.in-Some.ensures.place ∙ ap (position (at_peer c.args.peer)) c.deref.ensures.value)
    (ap (λ lines. slice_get lines c.in-Some.at) (sym c.deref-2.ensures.value) ∙ item_at c.deref-2.result.now c.in-Some.at line c.in-Some-get.ensures.lookup.3)
    (sym c.in-Some-2.is ∙ c.in_ok-word.ensures.word ∙ ap (λ s. word_in (told s c.in-Ok.view).answer) c.in_ok-session.ensures ∙ ap (λ l. word_in (told l.session c.in-Ok.view).answer) c.line.view_is
    ∙ ap (λ m. word_in (told line.session m).answer) seen) shown (λ fit. ends P O w shown fit))
    c.log_end.ensures

pub returns : goal.returns
returns c P O w shown =
    let line : Connection = c.in-Some-get.line.now in
    let seen : c.in-Ok.view ≡ c.args.message.now = same_message c.as_slice.result.now c.in-Ok.view c.args.message.now c.in-Ok.ensures.answer (ap message_of c.as_slice.ensures ∙ c.in_ok-body.ensures) in
    unexpected_logged P O w _ c.args.peer c.in-Some.at c.args.message.now line
    (c.in-Some.ensures.place ∙ ap (position (at_peer c.args.peer)) c.deref.ensures.value)
    (ap (λ lines. slice_get lines c.in-Some.at) (sym c.deref-2.ensures.value) ∙ item_at c.deref-2.result.now c.in-Some.at line c.in-Some-get.ensures.lookup.3)
    (sym c.in-None.is ∙ c.in_ok-word.ensures.word ∙ ap (λ s. word_in (told s c.in-Ok.view).answer) c.in_ok-session.ensures ∙ ap (λ l. word_in (told l.session c.in-Ok.view).answer) c.line.view_is
    ∙ ap (λ m. word_in (told line.session m).answer) seen) shown
