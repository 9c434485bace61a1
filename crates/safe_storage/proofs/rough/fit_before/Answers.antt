use Rattle.std.proofs.Common.{◌<◌, arith, length, subst}
use Rattle.std.specs.Prelude.{slice_index_or}
use Rattle.safe_storage.specs.Counters.{numbers_of, told}
use Rattle.safe_storage.proofs.Orders.{inside-at, number-at, numbers-length}
use Rattle.safe_storage.proofs.Rooms.{rough-end, rough-first, rough-here, rough-next}
use Rattle.safe_storage.proofs.rough.fit_before.Goals as goal

pub loop-at-init : goal.loop-at-init
loop-at-init c = rough-first c.args.plan.now (told c.args.stand.now) c.args.rule.0
    (numbers_of c.args.order.now) c.args.room

pub returns-then-next-rule : goal.returns-then-next-rule
returns-then-next-rule c is =
    rough-here c.args.plan.now (told c.args.stand.now) c.args.rule.0
    (numbers_of c.args.order.now) c.loop-at.at
    (slice_index_or c.args.order.now c.loop-at.at (record { 0 = 0 })).0 c.loop-at.left
    c.args.room (omega (arith, c.loop-at-test.true, numbers-length c.args.order.now))
    (number-at c.args.order.now c.loop-at.at) c.if-next-rule.true c.loop-at.invariant

pub addition-bound-requires-clause-inside : goal.addition-bound-requires-clause-inside
addition-bound-requires-clause-inside c =
    subst (λ n. n < length c.args.plan.now.rules) (number-at c.args.order.now c.loop-at.at)
    (inside-at c.args.plan.now (numbers_of c.args.order.now) c.loop-at.at c.requires.order
    (omega (arith, c.loop-at-test.true, numbers-length c.args.order.now)))

pub loop-at-preserved : goal.loop-at-preserved
loop-at-preserved c =
    rough-next c.args.plan.now (told c.args.stand.now) c.args.rule.0
    (numbers_of c.args.order.now) c.loop-at.at
    (slice_index_or c.args.order.now c.loop-at.at (record { 0 = 0 })).0 c.addition-bound.result
    c.loop-at.left c.args.room
    (omega (arith, c.loop-at-test.true, numbers-length c.args.order.now))
    (number-at c.args.order.now c.loop-at.at) c.if-next-rule.false c.addition-bound.ensures
    c.if-bound-left.false c.loop-at.invariant

pub returns : goal.returns
returns c is =
    rough-end c.args.plan.now (told c.args.stand.now) c.args.rule.0
    (numbers_of c.args.order.now) c.loop-at.at c.loop-at.left c.args.room
    (omega (arith, c.loop-at-test.false, numbers-length c.args.order.now)) c.loop-at.invariant
