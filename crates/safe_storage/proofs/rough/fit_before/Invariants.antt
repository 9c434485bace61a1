use Rattle.safe_storage.specs.Counters.{numbers_of, told}
use Rattle.safe_storage.proofs.Rooms.{IsRough}
use Rattle.safe_storage.proofs.rough.fit_before.Given as goal

abbrev pub invariant-loop-at : goal.invariant-loop-at
invariant-loop-at l =
    IsRough l.plan (told l.stand) l.rule.0 (numbers_of l.order) l.at l.left l.fn.room
