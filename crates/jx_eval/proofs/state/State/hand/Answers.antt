use Rattle.jx_meaning.specs.Scopes.{names_of}
use Rattle.jx_eval.specs.Machine.{after}
use Rattle.jx_eval.proofs.state.State.hand.Goals as goal

pub returns-in-Indexed-clause-kept : goal.returns-in-Indexed-clause-kept
unfolding after
returns-in-Indexed-clause-kept c = λ ts. rw c.in-Indexed.is (c.wait.ensures.kept ts (names_of c.args.scope.now))

pub returns-in-Index-clause-kept : goal.returns-in-Index-clause-kept
unfolding after
returns-in-Index-clause-kept c = λ ts. rw (c.in-Index.is, ← c.value.ensures, ← c.value-in-Index.ensures) (c.answer.ensures.kept ts (names_of c.args.scope.now) _ c.indexed.ensures)

pub returns-in-Sliced-clause-kept : goal.returns-in-Sliced-clause-kept
unfolding after
returns-in-Sliced-clause-kept c = λ ts. rw c.in-Sliced.is (c.slice_start.ensures.kept ts (names_of c.args.scope.now))

pub returns-in-Start-clause-kept : goal.returns-in-Start-clause-kept
unfolding after
returns-in-Start-clause-kept c = λ ts. rw c.in-Start.is (c.slice_stop.ensures.kept ts (names_of c.args.scope.now))

pub returns-in-Stop-clause-kept : goal.returns-in-Stop-clause-kept
unfolding after
returns-in-Stop-clause-kept c = λ ts. rw c.in-Stop.is (c.slice.ensures.kept ts (names_of c.args.scope.now))

pub returns-in-Signed-clause-kept : goal.returns-in-Signed-clause-kept
unfolding after
returns-in-Signed-clause-kept c = λ ts. rw (c.in-Signed.is, ← c.value-in-Signed.ensures) (c.answer-in-Signed.ensures.kept ts (names_of c.args.scope.now) _ c.signed.ensures)
