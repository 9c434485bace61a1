use Rattle.safe_storage.specs.Counters.{numbers_of, told}
use Rattle.safe_storage.proofs.Orders.{IsOnWay}
use Rattle.safe_storage.proofs.passing.pass_before.Given as goal

abbrev pub invariant-loop-at : goal.invariant-loop-at
invariant-loop-at l =
    IsOnWay l.plan (told l.stand) (numbers_of l.order) l.rule.0 l.at l.counters l.greatest
