use Rattle.world_contents.specs.Holdings.{held_in}
use Rattle.world_peers.specs.Peers.{down_to}
use Rattle.world_laws.specs.Worlds.{put_of}
use Rattle.net_world.proofs.SendShows.{puts_more}
use Rattle.net_world.proofs.play.sending.put_all.Goals as goal

pub loop-file-preserved : goal.loop-file-preserved
loop-file-preserved c =
    puts_more (put_of (held_in c.args.contents.now) c.args.run) (down_to c.args.peer) c.args.files.now c.loop-file.file-index _ c.args.bag.now.items c.loop-file.bag.items c.put.new.bag.items
    c.loop-file-test.true c.loop-file.invariant c.in_ok-put.ensures
