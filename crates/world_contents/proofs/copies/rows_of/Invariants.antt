use Rattle.std.proofs.Common.{◌≡◌, take}
use Rattle.world_contents.proofs.copies.rows_of.Given as goal

-- those below the next one are copied
abbrev pub invariant-loop-row : goal.invariant-loop-row
invariant-loop-row g l = l.copies ≡ take l.row-index l.row-items
