use Rattle.std.proofs.Common.{◌≡◌, ◌≤◌, ◌+◌, drop, length}
use Rattle.wq_company.specs.Companies.{live_of}
use Rattle.wq_company.proofs.company.live_in.Given as goal

-- what is left decides
abbrev pub invariant-loop-seat : goal.invariant-loop-seat
invariant-loop-seat g l = (l.live ≤ l.seat-index) × (l.live + length (live_of (drop l.seat-index l.seats)) ≡ length (live_of l.seats))
