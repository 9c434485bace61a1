use Rattle.std.proofs.Common.{◌≡◌, ◌++◌, map, take}
use Rattle.std.specs.Prelude.{filter_map}
use Rattle.world_contents.specs.Holdings.{held_in}
use Rattle.world_peers.specs.Peers.{down_to}
use Rattle.world_laws.specs.Worlds.{put_of}
use Rattle.net_world.proofs.play.sending.put_all.Given as goal

-- those below the next one are put
abbrev pub invariant-loop-file : goal.invariant-loop-file
invariant-loop-file l =
    l.bag.items ≡ l.fn.bag.items ++ map (down_to l.peer) (filter_map (put_of (held_in l.contents) l.run) (take l.file-index l.files))
