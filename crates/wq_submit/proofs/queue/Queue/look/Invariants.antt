use Rattle.std.proofs.Common.{◌≡◌, ◌≤◌}
use Rattle.flow_types.specs.declared.numbers.Amounts.{Amounts}
use Rattle.wq_submit.specs.Queues.{IsStaffed, IsTrusted, IsUnder}
use Rattle.wq_submit.proofs.queue.Queue.look.Given as goal

abbrev pub invariant-loop : goal.invariant-loop
invariant-loop g l = record {
  listens : g.H.Hall.listens l.hall;
  under : IsUnder l.fn.self.kept l.self.kept;
  trusted : g.H.Hall.honest l.fn.hall → IsTrusted g.H.Way.Link.tells g.F.Commands.gives g.F.Commands.may_fail g.H.Way.Link.honest l.fn.self
      → IsTrusted g.H.Way.Link.tells g.F.Commands.gives g.F.Commands.may_fail g.H.Way.Link.honest l.self × g.H.Hall.honest l.hall;
  staffed : (least : Amounts) → IsStaffed g.H.Way.Link.sure g.H.Way.Link.offers g.H.Hall.manned g.H.Hall.staffed least l.fn.hall l.fn.self → IsStaffed g.H.Way.Link.sure g.H.Way.Link.offers g.H.Hall.manned g.H.Hall.staffed least l.hall l.self;
  files : l.self.files ≡ l.fn.self.files;
  low : g.H.Hall.count l.fn.hall ≤ l.before;
  high : l.before ≤ g.H.Hall.count l.hall;
  later : g.H.Hall.idle_count l.fn.hall ≤ g.H.Hall.idle_count l.hall;
}
