use Rattle.std.proofs.Common.{refl, ap, sym, ◌∙◌, subst}
use Rattle.std.specs.Prelude.{slice_set}
use Rattle.std.proofs.lemmas.Result.{on_ok_weaker}
use Rattle.link_session.specs.Sessions.{is_open}
use Rattle.world_laws.specs.Worlds.{puts_and_task, sent_more}
use Rattle.net_world.specs.Plays.{IsShown}
use Rattle.net_world.proofs.ClaimShows.{dispatched_shown, new_there}
use Rattle.net_world.proofs.PeerShows.{item_at}
use Rattle.net_world.proofs.play.Play.dispatch.Goals as goal

pub returns-then-has : goal.returns-then-has
returns-then-has c P O w d shown at new ours =
    absurd (new_there P O w c.args.self.now c.args.task.attempt c.args.at c.in-Some.line.now shown new
    (item_at c.args.self.now.lines.items c.args.at c.in-Some.line.now c.in-Some.ensures.item.3) (ap (λ l. is_open c.args.task.attempt l.session.attempts) (sym c.line.view_is) ∙ sym c.has.ensures ∙ c.if-has.true))

pub returns : goal.returns
returns c = on_ok_weaker c.send_task.result (λ turns P O w d shown at new ours.
    dispatched_shown P O w c.args.self.now _ c.send_task.new.self c.args.at d c.in-Some.line.now c.args.task c.as_slice.result.now shown at
    (item_at c.args.self.now.lines.items c.args.at c.in-Some.line.now c.in-Some.ensures.item.3) ours (c.as_slice.ensures ∙ c.in_ok-files.ensures.files)
    (ap (slice_set c.args.self.now.lines.items c.args.at) c.in_ok-files.ensures.line)
    (record { table = refl; records = refl; contents = refl; peers = refl; bag = refl; up = refl }) (λ v was.
    subst (λ l. IsShown P O (sent_more v (puts_and_task v l.peer c.as_slice.result.now c.args.task)) c.send_task.new.self) (c.line-2.view_is ∙ c.in_ok-files.ensures.line) (turns P O v was)))
    c.send_task.ensures
