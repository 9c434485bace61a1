use Rattle.std.proofs.Common.{◌≡◌, ◌++◌, map, take}
use Rattle.std.specs.Prelude.{filter}
use Rattle.world_laws.specs.Worlds.{knows, unlink_on}
use Rattle.net_world.proofs.CollectShows.{forgotten_below}
use Rattle.net_world.proofs.play.collects.unlink_on_lines.Given as goal

-- the lines below the next one are done
abbrev pub invariant-loop-at : goal.invariant-loop-at
invariant-loop-at l = record {
  lines : l.lines.items ≡ forgotten_below l.file l.at l.initial.lines.items;
  sent : l.bag.items ≡ l.initial.bag.items ++ map (unlink_on l.file) (filter (knows l.file) (take l.at l.initial.lines.items));
}
