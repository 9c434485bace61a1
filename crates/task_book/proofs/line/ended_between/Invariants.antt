use Rattle.task_book.specs.Kept.{is_end}
use Rattle.task_book.specs.Lines.{NoneBefore}
use Rattle.task_book.proofs.line.ended_between.Given as goal

abbrev pub invariant-loop-at : goal.invariant-loop-at
invariant-loop-at l = NoneBefore is_end l.at l.tasks.items
