use Rattle.std.proofs.Common.{◌≡◌, ◌≤◌, ℕ, List, length, take, true}
use Rattle.std.specs.Prelude.{slice_get}
use Rattle.std.specs.List.{AllByRecursion}
use Rattle.flow_types.specs.declared.numbers.Amounts.{Amounts}
use Rattle.wq_company.specs.Companies.{AreReady, AreRun, AreServed, AreSure, StaySure, ways_of}
use Rattle.wq_seats.specs.Shown.{EndsRight, ShowsEnds}
use Rattle.wq_seats.specs.Works.{GoesOnAs}
use Rattle.wq_seats.specs.Turns.{IsQuiet}
use Rattle.wq_company.proofs.company.read_seats.Given as goal

abbrev pub invariant-loop-at : goal.invariant-loop-at
invariant-loop-at g l = record {
  many : length l.seats.items ≡ length l.fn.seats.items;
  goes : GoesOnAs l.fn.book l.book;
  served : (files : List (List ℕ)) (next : ℕ) → g.L.Link.tells
      → AreServed g.F.Commands.gives g.F.Commands.may_fail g.L.Link.history files l.fn.book.held next l.fn.seats.items
      → AreServed g.F.Commands.gives g.F.Commands.may_fail g.L.Link.history files l.book.held next l.seats.items;
  shows : (files : List (List ℕ)) (next : ℕ) → g.L.Link.tells
      → AreServed g.F.Commands.gives g.F.Commands.may_fail g.L.Link.history files l.fn.book.held next l.fn.seats.items
      → ShowsEnds g.L.Link.history l.fn.book.held l.book.held (ways_of (take l.at l.seats.items));
  right : (files : List (List ℕ)) (next : ℕ) → g.L.Link.tells → AllByRecursion g.L.Link.honest (ways_of l.fn.seats.items)
      → AreServed g.F.Commands.gives g.F.Commands.may_fail g.L.Link.history files l.fn.book.held next l.fn.seats.items
      → EndsRight g.F.Commands.gives g.F.Commands.may_fail files l.fn.book.held l.book.held;
  honest : AllByRecursion g.L.Link.honest (ways_of l.fn.seats.items) → AllByRecursion g.L.Link.honest (ways_of l.seats.items);
  run : AreRun l.fn.book.held l.fn.seats.items → AreRun l.book.held l.seats.items;
  calm : (files : List (List ℕ)) (next : ℕ) (least : Amounts) → (g.L.Link.tells → AreServed g.F.Commands.gives g.F.Commands.may_fail g.L.Link.history files l.fn.book.held next l.fn.seats.items)
      → AreSure g.L.Link.sure g.L.Link.offers least l.fn.seats.items → StaySure g.L.Link.sure g.L.Link.offers least l.fn.seats.items l.seats.items;
  rest : (k : ℕ) → l.at ≤ k → slice_get l.seats.items k ≡ slice_get l.fn.seats.items k;
  ready : (files : List (List ℕ)) (next : ℕ) (least : Amounts) → (g.L.Link.tells → AreServed g.F.Commands.gives g.F.Commands.may_fail g.L.Link.history files l.fn.book.held next l.fn.seats.items)
      → AreSure g.L.Link.sure g.L.Link.offers least l.fn.seats.items → l.look.was_idle ≡ true → AreReady least (take l.at l.fn.seats.items) × (l.book ≡ l.fn.book);
  quiet : l.look.was_idle ≡ true → AllByRecursion (IsQuiet g.L.Link.idle_count) (take l.at l.seats.items);
}
