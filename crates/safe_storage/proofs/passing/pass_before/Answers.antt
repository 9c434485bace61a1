use Rattle.std.proofs.Common.{ℕ, ◌<◌, List, arith, sym, subst, ◌∙◌, length}
use Rattle.std.specs.Prelude.{slice_index_or}
use Rattle.safe_storage.specs.Counters.{numbers_of, told}
use Rattle.safe_storage.proofs.Orders.{fresh-mark, inside-at, number-at, numbers-length, way-end}
use Rattle.safe_storage.proofs.Orders.{way-first, way-here, way-next}
use Rattle.safe_storage.proofs.passing.pass_before.Goals as goal

pub loop-at-init : goal.loop-at-init
loop-at-init c = way-first c.args.plan.now (told c.args.stand.now) (numbers_of c.args.order.now)
    c.args.rule.0 c.args.counters.now c.requires.order c.requires.start

pub returns-then-next-rule-clause-before : goal.returns-then-next-rule-clause-before
returns-then-next-rule-clause-before c le =
    let order : List ℕ = numbers_of c.args.order.now in
    let inside : c.loop-at.at < length order =
    omega (arith, c.loop-at-test.true, numbers-length c.args.order.now) in
    way-here c.args.plan.now (told c.args.stand.now) order c.args.rule.0 c.loop-at.at
    (slice_index_or order c.loop-at.at 0) c.loop-at.counters c.loop-at.greatest inside
    (number-at c.args.order.now c.loop-at.at
    ∙ sym (number-at c.args.order.now c.loop-at.at))
    (number-at c.args.order.now c.loop-at.at ∙ c.if-next-rule.true) c.loop-at.invariant

pub step-greatest-requires-clause-inside : goal.step-greatest-requires-clause-inside
step-greatest-requires-clause-inside c =
    let order : List ℕ = numbers_of c.args.order.now in
    let inside : c.loop-at.at < length order =
    omega (arith, c.loop-at-test.true, numbers-length c.args.order.now) in
    subst (λ n. n < length c.args.plan.now.rules) (number-at c.args.order.now c.loop-at.at)
    (inside-at c.args.plan.now order c.loop-at.at c.requires.order inside)

pub step-greatest-requires-clause-fresh : goal.step-greatest-requires-clause-fresh
step-greatest-requires-clause-fresh c undone =
    let order : List ℕ = numbers_of c.args.order.now in
    let inside : c.loop-at.at < length order =
    omega (arith, c.loop-at-test.true, numbers-length c.args.order.now) in
    fresh-mark c.args.plan.now (told c.args.stand.now) order c.loop-at.at
    (slice_index_or c.args.order.now c.loop-at.at (record { 0 = 0 })).0 c.loop-at.counters
    c.requires.order inside (number-at c.args.order.now c.loop-at.at) c.loop-at.invariant.at undone

pub loop-at-preserved : goal.loop-at-preserved
loop-at-preserved c =
    let order : List ℕ = numbers_of c.args.order.now in
    let inside : c.loop-at.at < length order =
    omega (arith, c.loop-at-test.true, numbers-length c.args.order.now) in
    way-next c.args.plan.now (told c.args.stand.now) order c.args.rule.0 c.loop-at.at
    (slice_index_or c.args.order.now c.loop-at.at (record { 0 = 0 })).0 c.loop-at.counters
    c.step-greatest.new.counters c.loop-at.greatest c.step-greatest.result inside
    (number-at c.args.order.now c.loop-at.at) c.if-next-rule.false c.step-greatest.ensures.walk
    c.step-greatest.ensures.over c.step-greatest.ensures.greatest c.loop-at.invariant

pub returns-clause-before : goal.returns-clause-before
returns-clause-before c le =
    let order : List ℕ = numbers_of c.args.order.now in
    way-end c.args.plan.now (told c.args.stand.now) order c.args.rule.0 c.loop-at.at
    c.loop-at.counters c.loop-at.greatest
    (omega (arith, c.loop-at-test.false, numbers-length c.args.order.now)) c.loop-at.invariant
