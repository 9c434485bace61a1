use Rattle.std.proofs.Common.{◌≡◌, drop, length}
use Rattle.flow_types.specs.declared.numbers.Amounts.{Amounts}
use Rattle.task_book.specs.Stages.{EndsOn}
use Rattle.wq_submit.specs.Queues.{IsStaffed, IsTrusted}
use Rattle.batch_run.specs.Ends.{AreFit, AreOf}
use Rattle.batch_run.proofs.running.submit_all.Given as goal

abbrev pub invariant-loop-task : goal.invariant-loop-task
invariant-loop-task g l = record {
  left : drop (length l.queue.kept.submitted) l.fn.tasks.items ≡ l.task-iterator.rest.items;
  of : AreOf l.fn.tasks.items l.queue.kept;
  ends : EndsOn l.fn.queue.kept.held l.queue.kept.held;
  files : l.queue.files ≡ l.fn.queue.files;
  trusted : IsTrusted g.H.Way.Link.tells g.F.Commands.gives g.F.Commands.may_fail g.H.Way.Link.honest l.fn.queue
      → IsTrusted g.H.Way.Link.tells g.F.Commands.gives g.F.Commands.may_fail g.H.Way.Link.honest l.queue;
  staffed : (least : Amounts) (hall : g.row.H.Denot) → AreFit least l.fn.tasks.items → IsStaffed g.H.Way.Link.sure g.H.Way.Link.offers g.H.Hall.manned g.H.Hall.staffed least hall l.fn.queue
      → IsStaffed g.H.Way.Link.sure g.H.Way.Link.offers g.H.Hall.manned g.H.Hall.staffed least hall l.queue × AreFit least l.task-iterator.rest.items;
}
