use Rattle.std.proofs.Common.{refl, arith}
use Rattle.std.proofs.lemmas.List.{nil_from_length}
use Rattle.jx_meaning.specs.Meaning.{evaluate_fields}
use Rattle.jx_eval.specs.Machine.{after}
use Rattle.jx_eval.proofs.Steps.{first-is}
use Rattle.jx_eval.proofs.state.State.next_field.Goals as goal

pub returns-in-empty-clause-kept : goal.returns-in-empty-clause-kept
unfolding evaluate_fields
returns-in-empty-clause-kept c = λ ts s.
    let e = nil_from_length c.args.rest.now (omega arith) in
    rw (e, c.own.ensures, c.into_value.ensures) refl

pub returns-in-len1-up-clause-kept : goal.returns-in-len1-up-clause-kept
unfolding after evaluate_fields
returns-in-len1-up-clause-kept c = λ ts s.
    let e = first-is c.args.rest.now c.first-item.result c.first-item.result (omega arith) c.first-item.is refl in
    rw e (c.wait.ensures.kept ts s)
