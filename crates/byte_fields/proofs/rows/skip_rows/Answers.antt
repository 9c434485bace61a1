use Rattle.std.proofs.lemmas.Result.{err_from_is_err_and}
use Rattle.byte_fields.proofs.Loops.{skip_step, skip_stops, skip_ends}
use Rattle.byte_fields.proofs.rows.skip_rows.Goals as goal

pub returns-in_err-rest : goal.returns-in_err-rest
returns-in_err-rest g c =
    let p = err_from_is_err_and c.from_residual.result c.from_residual.ensures.1 in
    rw (p.1, p.2) (skip_stops g.R.Row.read c.args.count c.loop.counter c.loop.rest.now c.in_err-rest.field-0.0 _ c.loop-test.true c.in_err-rest.ensures c.loop.invariant)

pub loop-preserved : goal.loop-preserved
loop-preserved g c = skip_step g.R.Row.read c.args.count c.loop.counter c.loop.rest.now c.in_ok-rest.rest.now _ c.loop-test.true c.in_ok-rest.ensures c.loop.invariant

pub returns : goal.returns
returns g c = skip_ends g.R.Row.read c.args.count c.loop.counter c.loop.rest.now _ c.loop-test.false c.loop.invariant
