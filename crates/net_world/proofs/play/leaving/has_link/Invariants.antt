use Rattle.std.proofs.Common.{◌≡◌, drop}
use Rattle.std.specs.Prelude.{find}
use Rattle.world_laws.specs.Worlds.{at_link}
use Rattle.net_world.proofs.play.leaving.has_link.Given as goal

-- what is left decides
abbrev pub invariant-loop-line : goal.invariant-loop-line
invariant-loop-line l = find (at_link l.link.0) (drop l.line-index l.lines) ≡ find (at_link l.link.0) l.lines
