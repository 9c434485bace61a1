use Rattle.std.proofs.Common.{refl, arith}
use Rattle.std.proofs.lemmas.List.{nil_from_length}
use Rattle.jx_meaning.specs.Meaning.{evaluate_loops}
use Rattle.jx_eval.specs.Machine.{after}
use Rattle.jx_eval.proofs.Steps.{first-is}
use Rattle.jx_eval.proofs.state.State.enter_loops.Goals as goal

pub returns-in-empty-clause-kept : goal.returns-in-empty-clause-kept
unfolding after evaluate_loops
returns-in-empty-clause-kept c = λ ts s. let e = nil_from_length c.args.inner.now (omega arith) in rw e (c.wait.ensures.kept ts s)

pub returns-in-len1-up-clause-kept : goal.returns-in-len1-up-clause-kept
unfolding after evaluate_loops
returns-in-len1-up-clause-kept c = λ ts s.
    let e = first-is c.args.inner.now c.first-item.result c.first-item.result (omega arith) c.first-item.is refl in
    rw e (c.wait-in-len1-up.ensures.kept ts s)
