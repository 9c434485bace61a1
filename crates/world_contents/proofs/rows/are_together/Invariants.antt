use Rattle.std.proofs.Common.{◌≡◌, drop}
use Rattle.std.specs.Prelude.{nat_le, sum_by}
use Rattle.world_contents.proofs.rows.are_together.Given as goal

-- what is left decides
abbrev pub invariant-loop-row : goal.invariant-loop-row
invariant-loop-row l = nat_le (sum_by (λ row. row.size) (drop l.row-index l.rows)) l.left ≡ nat_le (sum_by (λ row. row.size) l.rows) l.fn.most
