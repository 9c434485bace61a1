use Rattle.jx_meaning.specs.Operations.{operated}
use Rattle.jx_eval.specs.Machine.{after}
use Rattle.jx_eval.proofs.state.State.right.Goals as goal

pub returns-in-Add-clause-kept : goal.returns-in-Add-clause-kept
unfolding after operated
returns-in-Add-clause-kept c = λ ts s. rw (c.in-Add.is, ← c.in_ok-first-in-Add.ensures, ← c.in_ok-second-in-Add.ensures) (c.answer.ensures.kept ts s _ c.added.ensures)

pub returns : goal.returns
unfolding after
returns c = record {
  kept = λ ts s. rw (← c.value-first.ensures, ← c.value-second.ensures) (c.answer-in_default.ensures.kept ts s _ c.operated.ensures);
  room = c.answer-in_default.ensures.room;
}
