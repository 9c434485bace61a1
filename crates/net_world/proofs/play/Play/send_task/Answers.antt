use Rattle.std.proofs.Common.{◌++◌, refl, ap, ◌∙◌, map}
use Rattle.std.specs.Prelude.{filter_map}
use Rattle.std.proofs.lemmas.Result.{on_ok_weaker}
use Rattle.world_contents.specs.Holdings.{held_in}
use Rattle.world_peers.specs.Peers.{down_to}
use Rattle.world_laws.specs.Worlds.{put_of}
use Rattle.net_world.proofs.SendShows.{task_shown}
use Rattle.net_world.proofs.play.Play.send_task.Goals as goal

pub returns : goal.returns
returns c = on_ok_weaker c.send_down.result (λ sent P O w shown.
    task_shown P O w c.args.self.now _ c.args.peer c.args.files.now c.args.task c.put_all.new.bag.items shown
    (record { table = refl; records = refl; contents = refl; lines = refl; up = refl }) refl
    (c.in_ok-put_all.ensures
    ∙ ap (λ contents. c.args.self.now.bag.items ++ map (down_to c.args.peer) (filter_map (put_of (held_in contents) c.args.task.run) c.args.files.now)) c.as_slice-contents.ensures.value)
    sent)
    c.send_down.ensures
