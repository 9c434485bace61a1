use Rattle.std.proofs.Common.{refl}
use Rattle.net_world.proofs.Shows.{next_lost, none_left_lost}
use Rattle.net_world.proofs.play.Play.lose_all.Goals as goal

pub loop-rule-init : goal.loop-rule-init
loop-rule-init c P O w shown = (w, shown, refl)

pub loop-rule-preserved : goal.loop-rule-preserved
loop-rule-preserved c P O w shown =
    let was = c.loop-rule.invariant P O w shown in
    (_, c.in_ok-lose_rule.ensures P O was.0 was.1, next_lost P w was.0 c.args.rules.now c.loop-rule.rule-index _ c.loop-rule-test.true was.2)

pub returns : goal.returns
returns c P O w shown =
    let was = c.loop-rule.invariant P O w shown in
    none_left_lost P O w was.0 c.loop-rule.self c.args.rules.now c.loop-rule.rule-index c.loop-rule-test.false was.2 was.1
