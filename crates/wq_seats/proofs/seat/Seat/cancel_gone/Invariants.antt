use Rattle.std.proofs.Common.{◌≡◌, ℕ, List}
use Rattle.peers.specs.States.{GoesOn}
use Rattle.wq_seats.specs.Seats.{IsAtWork, KeepsRuns}
use Rattle.wq_seats.proofs.seat.Seat.cancel_gone.Given as goal

abbrev pub invariant-loop : goal.invariant-loop
invariant-loop g l = record {
  only : l.self ≡ record l.fn.self { peer = l.self.peer; runs = l.self.runs };
  works : (files : List (List ℕ)) (next : ℕ) → g.L.Link.tells
      → IsAtWork g.F.Commands.gives g.F.Commands.may_fail g.L.Link.history files l.book.held next l.fn.self
      → IsAtWork g.F.Commands.gives g.F.Commands.may_fail g.L.Link.history files l.book.held next l.self;
  on : GoesOn g.L.Link.honest g.L.Link.sure g.L.Link.offers l.fn.self.peer.way l.self.peer.way;
  keeps : KeepsRuns l.book.held l.book.held l.fn.self l.self;
}
