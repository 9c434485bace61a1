use Rattle.std.proofs.Common.{◌≡◌, map, take}
use Rattle.world_laws.specs.Worlds.{row_for}
use Rattle.world_contents.proofs.rows.rows_for.Given as goal

abbrev pub invariant-loop-content : goal.invariant-loop-content
invariant-loop-content l = l.rows.items ≡ map row_for (take l.content-index l.contents)
