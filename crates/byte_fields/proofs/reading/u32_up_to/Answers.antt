use Rattle.std.proofs.Common.{ℕ, ◌<◌, ◌≤◌, subst}
use Rattle.byte_fields.specs.Reading.{up_to_at}
use Rattle.byte_fields.proofs.Loops.{up_step, up_stops, up_ends}
use Rattle.byte_fields.proofs.reading.u32_up_to.Goals as goal

pub returns-then-begun_number-most : goal.returns-then-begun_number-most
returns-then-begun_number-most c =
    let high = subst (λ (n : ℕ). c.args.most < n) c.begun_number.ensures c.if-begun_number-most.true in
    rw c.saturating_sub.ensures (up_stops c.args.most c.loop-seen.seen c.args.bytes.now (up_to_at c.args.most c.args.bytes.now) c.loop-seen-test.true high c.loop-seen.invariant)

pub loop-seen-preserved : goal.loop-seen-preserved
loop-seen-preserved c =
    let low = subst (λ (n : ℕ). n ≤ c.args.most) c.begun_number.ensures c.if-begun_number-most.false in
    up_step c.args.most c.loop-seen.seen c.args.bytes.now (up_to_at c.args.most c.args.bytes.now) c.loop-seen-test.true low c.loop-seen.invariant

pub returns : goal.returns
returns c = rw (up_ends c.args.most c.loop-seen.seen c.args.bytes.now (up_to_at c.args.most c.args.bytes.now) c.loop-seen-test.false c.loop-seen.invariant) c.u32_field.ensures
