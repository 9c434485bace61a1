use Rattle.std.proofs.Common.{arith, length}
use Rattle.flow_types.specs.Plans.{most_bytes}
use Rattle.safe_storage.specs.Counters.{claim_share, told}
use Rattle.safe_storage.proofs.Loops.{summed-all, summed-step}
use Rattle.safe_storage.proofs.counting.claims.Goals as goal

pub loop-rule-preserved : goal.loop-rule-preserved
loop-rule-preserved c = summed-step (claim_share c.args.plan.now (told c.args.stand.now)) most_bytes
    c.loop-rule.rule c.loop-rule.sum _ c.claim-sum.ensures.share c.claim-sum.ensures.small
    c.loop-rule.invariant

pub returns-clause-sum : goal.returns-clause-sum
returns-clause-sum c = summed-all (claim_share c.args.plan.now (told c.args.stand.now)) most_bytes
    c.loop-rule.rule (length c.args.plan.now.rules) c.loop-rule.sum
    (omega (arith, c.loop-rule-test.false, c.loop-rule.auto.rule-end, c.len-rule-end.ensures))
    c.loop-rule.invariant
