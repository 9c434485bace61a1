use Rattle.std.proofs.Common.{ℕ, ◌<◌, List, arith, subst, length}
use Rattle.std.specs.Prelude.{slice_index_or}
use Rattle.safe_storage.specs.Counters.{numbers_of, told}
use Rattle.safe_storage.proofs.Orders.{at-places, behind-end, behind-first, behind-least}
use Rattle.safe_storage.proofs.Orders.{behind-next}
use Rattle.safe_storage.proofs.Orders.{fresh-mark, inside-at, number-at, numbers-length}
use Rattle.safe_storage.proofs.passing.pass_rest.Goals as goal

pub loop-at-init : goal.loop-at-init
loop-at-init c = behind-first c.args.plan.now (told c.args.stand.now)
    (numbers_of c.args.order.now) c.args.from.at c.args.counters.now c.args.from.greatest
    c.requires.at

pub returns-then-greatest-limit-clause-beyond : goal.returns-then-greatest-limit-clause-beyond
returns-then-greatest-limit-clause-beyond c above =
    let least = behind-least c.args.plan.now (told c.args.stand.now)
    (numbers_of c.args.order.now) c.loop-at.at c.loop-at.counters c.loop-at.greatest
    c.args.from.at c.args.from.greatest c.loop-at.invariant in
    omega (arith, above, least)

pub step-greatest-requires-clause-inside : goal.step-greatest-requires-clause-inside
step-greatest-requires-clause-inside c =
    let order : List ℕ = numbers_of c.args.order.now in
    let inside : c.loop-at.at < length order =
    omega (arith, c.loop-at-test.true, numbers-length c.args.order.now) in
    subst (λ n. n < length c.args.plan.now.rules) (number-at c.args.order.now c.loop-at.at)
    (inside-at c.args.plan.now order c.loop-at.at c.requires.order inside)

pub step-greatest-requires-clause-walk : goal.step-greatest-requires-clause-walk
step-greatest-requires-clause-walk c = c.loop-at.invariant.at.walk

pub step-greatest-requires-clause-fresh : goal.step-greatest-requires-clause-fresh
step-greatest-requires-clause-fresh c undone =
    let order : List ℕ = numbers_of c.args.order.now in
    let inside : c.loop-at.at < length order =
    omega (arith, c.loop-at-test.true, numbers-length c.args.order.now) in
    fresh-mark c.args.plan.now (told c.args.stand.now) order c.loop-at.at
    (slice_index_or c.args.order.now c.loop-at.at (record { 0 = 0 })).0 c.loop-at.counters
    c.requires.order inside (number-at c.args.order.now c.loop-at.at) c.loop-at.invariant.at undone

pub loop-at-preserved : goal.loop-at-preserved
loop-at-preserved c =
    let order : List ℕ = numbers_of c.args.order.now in
    let inside : c.loop-at.at < length order =
    omega (arith, c.loop-at-test.true, numbers-length c.args.order.now) in
    behind-next c.args.plan.now (told c.args.stand.now) order c.loop-at.at
    (slice_index_or c.args.order.now c.loop-at.at (record { 0 = 0 })).0 c.loop-at.counters
    c.step-greatest.new.counters c.loop-at.greatest c.step-greatest.result c.args.from.at
    c.args.from.greatest inside (number-at c.args.order.now c.loop-at.at)
    c.step-greatest.ensures.walk c.step-greatest.ensures.over c.step-greatest.ensures.greatest
    c.loop-at.invariant

pub returns-clause-exact : goal.returns-clause-exact
returns-clause-exact c le =
    behind-end c.args.plan.now (told c.args.stand.now) (numbers_of c.args.order.now) c.loop-at.at
    c.loop-at.counters c.loop-at.greatest c.args.from.at c.args.from.greatest
    (omega (arith, c.loop-at-test.false, numbers-length c.args.order.now)) c.loop-at.invariant

pub returns-clause-beyond : goal.returns-clause-beyond
returns-clause-beyond c above =
    let least = behind-least c.args.plan.now (told c.args.stand.now)
    (numbers_of c.args.order.now) c.loop-at.at c.loop-at.counters c.loop-at.greatest
    c.args.from.at c.args.from.greatest c.loop-at.invariant in
    omega (arith, above, least)

pub returns-then-greatest-limit-clause-places : goal.returns-then-greatest-limit-clause-places
returns-then-greatest-limit-clause-places c =
    at-places c.args.plan.now (told c.args.stand.now) (numbers_of c.args.order.now) c.loop-at.at
    c.loop-at.counters c.loop-at.invariant.at

pub returns-clause-places : goal.returns-clause-places
returns-clause-places c =
    at-places c.args.plan.now (told c.args.stand.now) (numbers_of c.args.order.now) c.loop-at.at
    c.loop-at.counters c.loop-at.invariant.at
