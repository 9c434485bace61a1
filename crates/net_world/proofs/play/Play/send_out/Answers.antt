use Rattle.std.proofs.Common.{rules, ◌≡◌, ◌<◌, length, None, ap, sym, ◌∙◌, subst}
use Rattle.std.specs.Prelude.{position}
use Rattle.std.proofs.lemmas.Result.{on_ok_weaker}
use Rattle.world_laws.specs.Worlds.{at_link}
use Rattle.net_world.proofs.ClaimShows.{no_task_sent, none_sent, sent_shown}
use Rattle.net_world.proofs.play.Play.send_out.Goals as goal

pub returns-in_default : goal.returns-in_default
returns-in_default c P O w shown new =
    let none : c.place_of.result ≡ None = search rules in
    none_sent P O w _ c.args.link.0 c.args.attempt (sym none ∙ c.place_of.ensures.place ∙ ap (position (at_link c.args.link.0)) c.deref.ensures.value) shown

pub returns-in-Some-2 : goal.returns-in-Some-2
returns-in-Some-2 c = on_ok_weaker c.dispatch.result (λ sends P O w shown new.
    sent_shown P O w c.args.self.now c.dispatch.new.self c.args.link.0 c.in-Some.at c.args.attempt c.in-Some-2.task
    (c.in-Some.ensures.place ∙ ap (position (at_link c.args.link.0)) c.deref.ensures.value)
    (subst (λ lines. c.in-Some.at < length lines) c.deref.ensures.value c.in-Some.ensures.within)
    (sym c.in-Some-2.is ∙ c.in_ok-task.ensures P O w shown) shown new (λ d at fresh ours. sends P O w d shown at fresh ours))
    c.dispatch.ensures

pub returns-in-None : goal.returns-in-None
returns-in-None c P O w shown new = no_task_sent P O w _ c.args.link.0 c.args.attempt (sym c.in-None.is ∙ c.in_ok-task.ensures P O w shown) shown
