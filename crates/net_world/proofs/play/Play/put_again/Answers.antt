use Rattle.std.proofs.Common.{sym, ◌∙◌}
use Rattle.std.proofs.lemmas.Result.{on_ok_weaker}
use Rattle.net_world.proofs.HearShows.{put_again_shown}
use Rattle.net_world.proofs.play.Play.put_again.Goals as goal

pub returns-in-Some : goal.returns-in-Some
returns-in-Some c = on_ok_weaker c.send_task.result (λ turns link P O w d shown at peer there.
    put_again_shown P O w c.send_task.new.self d c.args.peer c.args.files.now c.in-Some.task c.args.attempt (sym c.in-Some.is ∙ c.in_ok-task.ensures P O w shown) peer (turns P O w shown))
    c.send_task.ensures
