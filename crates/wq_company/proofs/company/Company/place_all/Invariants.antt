use Rattle.std.proofs.Common.{◌≡◌, ◌<◌, None, length, map}
use Rattle.std.specs.List.{AllByRecursion}
use Rattle.flow_types.specs.declared.numbers.Amounts.{Amounts}
use Rattle.task_book.specs.Lines.{NoneBefore, is_waiting}
use Rattle.task_book.specs.Stages.{EndsOn}
use Rattle.wq_company.specs.Companies.{AreKnown, AreWithin, RunBefore, AreReady, AreRun, AreServed, AreSure, StaySure, live_of, ways_of}
use Rattle.wq_seats.specs.Works.{IsSameWork, work_of}
use Rattle.wq_company.proofs.company.Company.place_all.Given as goal

abbrev pub invariant-loop-at : goal.invariant-loop-at
invariant-loop-at g l = record {
  work : IsSameWork l.fn.book l.book;
  ends : EndsOn l.fn.book.held l.book.held;
  before : RunBefore l.fn.self.next l.fn.book.held → RunBefore l.self.next l.book.held;
  served : g.L.Link.tells → RunBefore l.fn.self.next l.fn.book.held
      → AreServed g.F.Commands.gives g.F.Commands.may_fail g.L.Link.history l.files l.fn.book.held l.fn.self.next l.fn.self.seats
      → AreServed g.F.Commands.gives g.F.Commands.may_fail g.L.Link.history l.files l.book.held l.self.next l.self.seats;
  honest : AllByRecursion g.L.Link.honest (ways_of l.fn.self.seats) → AllByRecursion g.L.Link.honest (ways_of l.self.seats);
  run : RunBefore l.fn.self.next l.fn.book.held → AreRun l.fn.book.held l.fn.self.seats → AreRun l.book.held l.self.seats;
  calm : (most : Amounts) → RunBefore l.fn.self.next l.fn.book.held → AreKnown l.files (map work_of l.fn.book.held)
      → (g.L.Link.tells → AreServed g.F.Commands.gives g.F.Commands.may_fail g.L.Link.history l.files l.fn.book.held l.fn.self.next l.fn.self.seats)
      → AreSure g.L.Link.sure g.L.Link.offers most l.fn.self.seats → StaySure g.L.Link.sure g.L.Link.offers most l.fn.self.seats l.self.seats;
  placed : (most : Amounts) → RunBefore l.fn.self.next l.fn.book.held → AreKnown l.files (map work_of l.fn.book.held) → AreWithin most (map work_of l.fn.book.held)
      → (g.L.Link.tells → AreServed g.F.Commands.gives g.F.Commands.may_fail g.L.Link.history l.files l.fn.book.held l.fn.self.next l.fn.self.seats)
      → AreSure g.L.Link.sure g.L.Link.offers most l.fn.self.seats → 0 < length (live_of l.self.seats) → AreReady most l.self.seats
      → NoneBefore is_waiting l.at l.book.held × (l.refused ≡ None);
}
