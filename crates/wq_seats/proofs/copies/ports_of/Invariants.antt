use Rattle.std.proofs.Common.{◌≡◌, take}
use Rattle.wq_seats.proofs.copies.ports_of.Given as goal

abbrev pub invariant-loop-port : goal.invariant-loop-port
invariant-loop-port l = l.copies ≡ take l.port-index l.ports
