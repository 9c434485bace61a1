use Rattle.std.proofs.Common.{◌≡◌, ℕ, List}
use Rattle.std.specs.List.{AllByRecursion}
use Rattle.flow_types.specs.declared.numbers.Amounts.{Amounts}
use Rattle.task_book.specs.declared.task.Held.{Held}
use Rattle.wq_company.specs.Companies.{AreRun, AreServed, live_of, ways_of}
use Rattle.wq_company.proofs.meeting.part.Given as goal

abbrev pub invariant-loop : goal.invariant-loop
invariant-loop g l = record {
  listens : g.H.Hall.listens l.fn.hall → g.H.Hall.listens l.hall;
  honest : g.H.Hall.honest l.fn.hall → g.H.Hall.honest l.hall;
  faults : g.H.Hall.count l.hall ≡ g.H.Hall.count l.fn.hall;
  idles : g.H.Hall.idle_count l.hall ≡ g.H.Hall.idle_count l.fn.hall;
  run : (held : List Held) → AreRun held l.fn.company.seats → AreRun held l.company.seats;
  live : live_of l.company.seats ≡ live_of l.fn.company.seats;
  manned : (least : Amounts) → g.H.Hall.manned l.fn.hall least → g.H.Hall.manned l.hall least;
  staffed : (least : Amounts) → g.H.Hall.staffed l.fn.hall least → g.H.Hall.staffed l.hall least;
  next : l.company.next ≡ l.fn.company.next;
  links : AllByRecursion g.H.Way.Link.honest (ways_of l.fn.company.seats) → AllByRecursion g.H.Way.Link.honest (ways_of l.company.seats);
  served : (files : List (List ℕ)) (held : List Held) → g.H.Way.Link.tells
      → AreServed g.F.Commands.gives g.F.Commands.may_fail g.H.Way.Link.history files held l.fn.company.next l.fn.company.seats
      → AreServed g.F.Commands.gives g.F.Commands.may_fail g.H.Way.Link.history files held l.company.next l.company.seats;
}
