use Rattle.std.proofs.Common.{◌≡◌, drop}
use Rattle.std.specs.Prelude.{find}
use Rattle.world_laws.specs.Worlds.{at_peer}
use Rattle.net_world.proofs.play.evictions.link_of.Given as goal

-- what is left decides
abbrev pub invariant-loop-line : goal.invariant-loop-line
invariant-loop-line l = find (at_peer l.peer) (drop l.line-index l.lines) ≡ find (at_peer l.peer) l.lines
