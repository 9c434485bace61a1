use Rattle.std.proofs.Common.{arith}
use Rattle.std.proofs.lemmas.List.{nil_from_length}
use Rattle.jx_meaning.specs.Meaning.{evaluate_all}
use Rattle.jx_meaning.specs.Scopes.{names_of}
use Rattle.jx_eval.specs.Machine.{after}
use Rattle.jx_eval.proofs.Steps.{first-number}
use Rattle.jx_eval.proofs.state.State.next_argument.Goals as goal

pub returns-in-empty-clause-kept : goal.returns-in-empty-clause-kept
unfolding evaluate_all
returns-in-empty-clause-kept c = λ ts.
    let e = nil_from_length c.args.call.rest.now (omega arith) in
    rw e (c.call.ensures.kept ts)

pub returns-in-len1-up-clause-kept : goal.returns-in-len1-up-clause-kept
unfolding after evaluate_all
returns-in-len1-up-clause-kept c = λ ts.
    let e = first-number c.args.call.rest.now (omega arith) in
    rw e (c.wait.ensures.kept ts (names_of c.args.scope.now))
