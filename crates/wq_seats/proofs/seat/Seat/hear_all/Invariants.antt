use Rattle.std.proofs.Common.{◌≡◌, ℕ, List}
use Rattle.wq_seats.specs.Shown.{EndsRight, ShowsOn}
use Rattle.wq_seats.specs.Works.{GoesOnAs}
use Rattle.wq_seats.specs.Seats.{IsAtWork, KeepsRuns}
use Rattle.wq_seats.proofs.seat.Seat.hear_all.Given as goal

abbrev pub invariant-loop-at : goal.invariant-loop-at
invariant-loop-at g l = record {
  way : l.self.peer.way ≡ l.fn.self.peer.way;
  gone : l.self.gone ≡ l.fn.self.gone;
  goes : GoesOnAs l.fn.book l.book;
  works : (files : List (List ℕ)) (next : ℕ) → g.L.Link.tells
      → IsAtWork g.F.Commands.gives g.F.Commands.may_fail g.L.Link.history files l.fn.book.held next l.fn.self
      → IsAtWork g.F.Commands.gives g.F.Commands.may_fail g.L.Link.history files l.book.held next l.self;
  shows : (files : List (List ℕ)) (next : ℕ) → g.L.Link.tells
      → IsAtWork g.F.Commands.gives g.F.Commands.may_fail g.L.Link.history files l.fn.book.held next l.fn.self
      → ShowsOn g.L.Link.history l.fn.book.held l.book.held l.fn.self.peer.way;
  right : (files : List (List ℕ)) (next : ℕ) → g.L.Link.tells → g.L.Link.honest l.fn.self.peer.way
      → IsAtWork g.F.Commands.gives g.F.Commands.may_fail g.L.Link.history files l.fn.book.held next l.fn.self
      → EndsRight g.F.Commands.gives g.F.Commands.may_fail files l.fn.book.held l.book.held;
  keeps : KeepsRuns l.fn.book.held l.book.held l.fn.self l.self;
  first : l.at ≡ 0 → (l.self ≡ l.fn.self) × (l.book ≡ l.fn.book);
}
