use Rattle.std.proofs.Common.{refl, rules}
use Rattle.wq_run.proofs.Called.{called_from}
use Rattle.wq_run.proofs.beside.call_with_beside.Goals as goal

pub returns-clause-called : goal.returns-clause-called
returns-clause-called g c =
    let call = c.call_beside.ensures.called in
    called_from g.K.FnMut c.args.call.now c.call_beside.new.call.0.now _ _ c.call_beside.new.call.1.now c.args.value c.held_in.result c.args.desk.now call.shown.now call.left.now c.call_beside.new.desk refl (search rules) call.shows (search rules) call.leaves call.called.met.1
