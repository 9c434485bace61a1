use Rattle.std.proofs.Common.{string_bytes, arith}
use Rattle.plan_show.specs.Rules.{rule_block}
use Rattle.plan_show.proofs.Writing.{enumerated-more}
use Rattle.plan_show.proofs.rules.add_rules.Goals as goal

pub loop-number-preserved : goal.loop-number-preserved
loop-number-preserved c =
    enumerated-more (rule_block c.args.plan.now) (string_bytes c.loop-number.out) _ _ c.args.rules.now c.loop-number.number c.index-rules-number.result
    (omega (arith, c.loop-number-test.true)) c.index-rules-number.is c.in_ok-add_rule.ensures c.loop-number.invariant
