use Rattle.std.proofs.Common.{◌≡◌, take}
use Rattle.wq_seats.proofs.copies.wants_of.Given as goal

abbrev pub invariant-loop-want : goal.invariant-loop-want
invariant-loop-want l = l.copies ≡ take l.want-index l.wants
