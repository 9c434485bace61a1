use Rattle.safe_storage.specs.Counters.{numbers_of, told}
use Rattle.safe_storage.proofs.Orders.{IsBehind}
use Rattle.safe_storage.proofs.passing.pass_rest.Given as goal

abbrev pub invariant-loop-at : goal.invariant-loop-at
invariant-loop-at l =
    IsBehind l.plan (told l.stand) (numbers_of l.order) l.at l.counters l.greatest l.fn.from.at
    l.fn.from.greatest
