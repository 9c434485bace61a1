use Rattle.std.proofs.Common.{arith, cond}
use Rattle.std.specs.Prelude.{is_some}
use Rattle.flow_types.specs.Plans.{maker_of, most_bytes}
use Rattle.safe_storage.specs.Counters.{bytes_by, is_left_by, told}
use Rattle.safe_storage.proofs.Loops.{summed-made, summed-step}
use Rattle.safe_storage.proofs.counting.bytes_left.Goals as goal

pub loop-file-preserved : goal.loop-file-preserved
loop-file-preserved c = summed-step
    (λ f. cond (is_some (maker_of c.args.plan.now f))
    (bytes_by (told c.args.stand.now) (is_left_by c.args.plan.now c.args.left.now) f) 0)
    most_bytes c.loop-file.file c.loop-file.sum _ c.bytes_of-sum.ensures.bytes
    c.bytes_of-sum.ensures.small c.loop-file.invariant

pub returns-clause-sum : goal.returns-clause-sum
returns-clause-sum c = summed-made c.args.plan.now
    (bytes_by (told c.args.stand.now) (is_left_by c.args.plan.now c.args.left.now)) most_bytes
    c.loop-file.file c.loop-file.sum
    (omega (arith, c.loop-file-test.false, c.loop-file.auto.file-end, c.len-file-end.ensures))
    c.loop-file.invariant
