use Rattle.std.proofs.Common.{suc, ap, ◌+◌, ◌∙◌, arith}
use Rattle.foreman_core.specs.Steps.{settled_from}
use Rattle.foreman_core.proofs.draft.Draft.settle_all.Goals as goal

pub loop-at-preserved : goal.loop-at-preserved
loop-at-preserved c = record {
  settled = λ left is. ap (settled_from left (c.loop-at.at + 1)) c.in_ok-settle_at.ensures.settled ∙ c.loop-at.invariant.settled (suc left) (omega (arith, is));
  back = c.in_ok-settle_at.ensures.back ∙ c.loop-at.invariant.back;
}

pub returns-clause-settled : goal.returns-clause-settled
returns-clause-settled c = c.loop-at.invariant.settled 0 (omega (arith, c.loop-at-test.false, c.loop-at.auto.at-end))
