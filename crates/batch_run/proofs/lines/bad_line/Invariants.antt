use Rattle.std.proofs.Common.{◌≡◌, ◌+◌, drop, map}
use Rattle.batch_run.specs.Batch.{bad_line_from}
use Rattle.batch_run.proofs.lines.bad_line.Given as goal

-- what is left decides
abbrev pub invariant-loop-number : goal.invariant-loop-number
invariant-loop-number l = bad_line_from (l.number + 1) (map (λ line. line.now) (drop l.number l.lines)) ≡ bad_line_from 1 (map (λ line. line.now) l.lines)
