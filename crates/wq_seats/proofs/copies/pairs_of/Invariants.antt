use Rattle.std.proofs.Common.{◌≡◌, take}
use Rattle.wq_seats.proofs.copies.pairs_of.Given as goal

abbrev pub invariant-loop-pair : goal.invariant-loop-pair
invariant-loop-pair l = l.copies ≡ take l.pair-index l.pairs
