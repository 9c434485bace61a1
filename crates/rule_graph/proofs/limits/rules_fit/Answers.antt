use Rattle.std.proofs.Common.{refl, subst, arith}
use Rattle.std.specs.Prelude.{All}
use Rattle.std.proofs.lemmas.List.{take_all}
use Rattle.std.proofs.lemmas.List.Elements.{All-more}
use Rattle.rule_graph.specs.Limits.{RuleFits}
use Rattle.rule_graph.proofs.limits.rules_fit.Goals as goal

pub loop-rule-preserved : goal.loop-rule-preserved
loop-rule-preserved c =
    let fits : RuleFits c.rule-item.result = c.rule_fits.ensures.0 c.if-not-rule_fits.false in
    All-more RuleFits c.as_slice-rule-items.result.now c.loop-rule.rule-index c.rule-item.result (omega arith) c.loop-rule.invariant (subst RuleFits c.rule-item.is fits)

pub returns : goal.returns
returns c =
    let whole = take_all c.loop-rule.rule-index c.as_slice-rule-items.result.now (omega arith) in
    ((λ _. subst (All RuleFits) c.as_slice-rule-items.ensures (subst (All RuleFits) whole c.loop-rule.invariant)), (λ _. refl))
