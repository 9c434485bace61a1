use Rattle.std.proofs.Common.{◌≡◌, ℕ, length}
use Rattle.std.specs.List.{AllByRecursion}
use Rattle.flow_types.specs.declared.numbers.Amounts.{Amounts}
use Rattle.task_book.specs.Stages.{EndsOn}
use Rattle.wq_company.specs.Companies.{AreRun, AreServed, AreSure, StaySure, ways_of}
use Rattle.wq_seats.specs.Works.{GoesOnAs}
use Rattle.wq_company.proofs.company.tell_seats.Given as goal

abbrev pub invariant-loop-at : goal.invariant-loop-at
invariant-loop-at g l = record {
  many : length l.seats.items ≡ length l.fn.seats.items;
  goes : GoesOnAs l.fn.book l.book;
  ends : EndsOn l.fn.book.held l.book.held;
  served : (next : ℕ) → g.L.Link.tells
      → AreServed g.F.Commands.gives g.F.Commands.may_fail g.L.Link.history l.files l.fn.book.held next l.fn.seats.items
      → AreServed g.F.Commands.gives g.F.Commands.may_fail g.L.Link.history l.files l.book.held next l.seats.items;
  honest : AllByRecursion g.L.Link.honest (ways_of l.fn.seats.items) → AllByRecursion g.L.Link.honest (ways_of l.seats.items);
  run : AreRun l.fn.book.held l.fn.seats.items → AreRun l.book.held l.seats.items;
  calm : (next : ℕ) (least : Amounts) → (g.L.Link.tells → AreServed g.F.Commands.gives g.F.Commands.may_fail g.L.Link.history l.files l.fn.book.held next l.fn.seats.items)
      → AreSure g.L.Link.sure g.L.Link.offers least l.fn.seats.items → StaySure g.L.Link.sure g.L.Link.offers least l.fn.seats.items l.seats.items;
}
