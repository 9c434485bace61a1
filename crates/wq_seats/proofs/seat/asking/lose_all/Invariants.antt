use Rattle.std.proofs.Common.{drop}
use Rattle.flow_types.specs.declared.numbers.AttemptNo.{AttemptNo}
use Rattle.task_book.specs.declared.task.TaskId.{TaskId}
use Rattle.task_book.specs.Stages.{EndsOn, RunsAs}
use Rattle.wq_seats.specs.Works.{GoesOnAs}
use Rattle.wq_seats.specs.Seats.{HasRun}
use Rattle.wq_seats.proofs.seat.asking.lose_all.Given as goal

-- what of these runs still runs is left
abbrev pub invariant-loop-run : goal.invariant-loop-run
invariant-loop-run l = record {
  goes : GoesOnAs l.fn.book l.book;
  ends : EndsOn l.fn.book.held l.book.held;
  stops : (id : TaskId) (attempt : AttemptNo) → RunsAs l.book.held id attempt → RunsAs l.fn.book.held id attempt × (HasRun id attempt l.runs → HasRun id attempt (drop l.run-index l.runs));
}
