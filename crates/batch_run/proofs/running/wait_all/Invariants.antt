use Rattle.std.proofs.Common.{◌≡◌, ◌≤◌, ◌<◌, List, []}
use Rattle.flow_types.specs.declared.numbers.Amounts.{Amounts}
use Rattle.task_book.specs.declared.task.Submission.{Submission}
use Rattle.wq_submit.specs.Queues.{IsStaffed, IsTrusted}
use Rattle.batch_run.specs.Ends.{AreOf, AreShown, IsBrought, MayEndSo, WasIdle}
use Rattle.batch_run.proofs.running.wait_all.Given as goal

abbrev pub invariant-loop : goal.invariant-loop
invariant-loop g l = record {
  listens : g.H.Hall.listens l.hall;
  files : l.queue.files ≡ [];
  of : (tasks : List Submission) → AreOf tasks l.fn.queue.kept → AreOf tasks l.queue.kept;
  shown : g.H.Way.Link.tells → AreShown g.H.Way.Link.history l.fn.queue.kept.held → AreShown g.H.Way.Link.history l.queue.kept.held;
  ends : (tasks : List Submission) → AreOf tasks l.fn.queue.kept → (g.H.Way.Link.tells → AreShown g.H.Way.Link.history l.fn.queue.kept.held)
      → MayEndSo (IsBrought g.H.Way.Link.tells (g.H.Hall.honest l.fn.hall × IsTrusted g.H.Way.Link.tells g.F.Commands.gives g.F.Commands.may_fail g.H.Way.Link.honest l.fn.queue) g.F.Commands.gives g.F.Commands.may_fail g.H.Way.Link.history) tasks l.fn.ends.items
      → MayEndSo (IsBrought g.H.Way.Link.tells (g.H.Hall.honest l.fn.hall × IsTrusted g.H.Way.Link.tells g.F.Commands.gives g.F.Commands.may_fail g.H.Way.Link.honest l.fn.queue) g.F.Commands.gives g.F.Commands.may_fail g.H.Way.Link.history) tasks l.ends.items;
  trusted : g.H.Hall.honest l.fn.hall → IsTrusted g.H.Way.Link.tells g.F.Commands.gives g.F.Commands.may_fail g.H.Way.Link.honest l.fn.queue
      → IsTrusted g.H.Way.Link.tells g.F.Commands.gives g.F.Commands.may_fail g.H.Way.Link.honest l.queue × g.H.Hall.honest l.hall;
  rises : g.H.Hall.count l.fn.hall ≤ g.H.Hall.count l.hall;
  idles : WasIdle g.H.Way.Link.idle_count (g.H.Hall.idle_count l.fn.hall) (g.H.Hall.idle_count l.hall) l.idles;
  few : l.idles < 1000000;
  staffed : (least : Amounts) → IsStaffed g.H.Way.Link.sure g.H.Way.Link.offers g.H.Hall.manned g.H.Hall.staffed least l.fn.hall l.fn.queue → IsStaffed g.H.Way.Link.sure g.H.Way.Link.offers g.H.Hall.manned g.H.Hall.staffed least l.hall l.queue;
}
