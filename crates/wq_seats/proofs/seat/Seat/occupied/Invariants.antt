use Rattle.std.proofs.Common.{◌≡◌}
use Rattle.wq_seats.proofs.seat.Seat.occupied.Given as goal

-- as many tasks as runs so far
abbrev pub invariant-loop-run : goal.invariant-loop-run
invariant-loop-run g l = l.occupied.tasks ≡ l.run-index
