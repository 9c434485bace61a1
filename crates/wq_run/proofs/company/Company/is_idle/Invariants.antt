use Rattle.std.proofs.Common.{◌≡◌, [], drop}
use Rattle.wq_run.specs.Seats.{gathered}
use Rattle.wq_run.proofs.company.Company.is_idle.Given as goal

-- what is left decides
abbrev pub invariant-loop-seat : goal.invariant-loop-seat
invariant-loop-seat g l = gathered (drop l.seat-index l.self.seats) ≡ [] → gathered l.self.seats ≡ []
