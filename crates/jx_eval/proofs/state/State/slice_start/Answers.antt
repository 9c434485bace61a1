use Rattle.jx_meaning.specs.Meaning.{evaluate_end}
use Rattle.jx_eval.specs.Machine.{after}
use Rattle.jx_eval.proofs.state.State.slice_start.Goals as goal

pub returns-in-Some-clause-kept : goal.returns-in-Some-clause-kept
unfolding after evaluate_end
returns-in-Some-clause-kept c = λ ts s. rw c.in-Some.is (c.wait.ensures.kept ts s)

pub returns-in-None-clause-kept : goal.returns-in-None-clause-kept
unfolding evaluate_end
returns-in-None-clause-kept c = λ ts s. rw c.in-None.is (c.slice_stop.ensures.kept ts s)
