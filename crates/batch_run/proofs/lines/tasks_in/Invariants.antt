use Rattle.std.proofs.Common.{◌≡◌, take}
use Rattle.std.specs.List.{flat_map}
use Rattle.batch_run.specs.Batch.{line_tasks}
use Rattle.batch_run.proofs.lines.tasks_in.Given as goal

abbrev pub invariant-loop-line : goal.invariant-loop-line
invariant-loop-line l = l.tasks.items ≡ flat_map (λ line. line_tasks line.now) (take l.line-index l.lines)
