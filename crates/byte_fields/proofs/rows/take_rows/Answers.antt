use Rattle.byte_fields.proofs.Loops.{take_step, take_fault, take_ends}
use Rattle.byte_fields.proofs.rows.take_rows.Goals as goal

pub loop-preserved : goal.loop-preserved
loop-preserved g c = rw c.in-Ok-push.ensures.ok (take_step g.R.Row.read c.loop.rows c.args.count c.loop.counter c.loop.rest.now c.in-Ok.row c.in-Ok.after.now _ c.loop-test.true c.in-Ok.ensures c.loop.invariant)

pub returns-in-Err : goal.returns-in-Err
returns-in-Err g c = take_fault g.R.Row.read c.loop.rows c.args.count c.loop.counter c.loop.rest.now c.in-Err.fault _ c.loop-test.true c.in-Err.ensures c.loop.invariant

pub returns : goal.returns
returns g c = take_ends g.R.Row.read c.loop.rows c.args.count c.loop.counter c.loop.rest.now _ c.loop-test.false c.loop.invariant
