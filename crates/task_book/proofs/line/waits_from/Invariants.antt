use Rattle.task_book.specs.Lines.{is_waiting}
use Rattle.task_book.specs.Lines.{NoneBefore}
use Rattle.task_book.proofs.line.waits_from.Given as goal

abbrev pub invariant-loop-at : goal.invariant-loop-at
invariant-loop-at l = NoneBefore is_waiting l.at l.tasks.items
