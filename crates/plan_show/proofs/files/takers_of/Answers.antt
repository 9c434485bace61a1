use Rattle.std.proofs.Common.{◌<◌, ◌∙◌, arith, length}
use Rattle.plan_show.proofs.Taking.{index-start, index-more}
use Rattle.plan_show.proofs.files.takers_of.Goals as goal

pub rules-init : goal.rules-init
rules-init c = index-start c.args.plan.now _ (c.in_ok-index.ensures.len ∙ c.len.ensures) c.in_ok-index.ensures.empty

pub rules-preserved : goal.rules-preserved
rules-preserved c =
    let inside : c.rules.rule < length c.args.plan.now.rules = omega (arith, c.rules-test.true, c.len-rule-end.ensures) in
    index-more c.args.plan.now c.rules.rule c.index-as_slice-rule.result c.as_slice.result.now c.rules.index.items c.add_takers.new.index.items inside c.as_slice.ensures
    c.index-as_slice-rule.is c.rules.invariant c.in_ok-add_takers.ensures.len c.in_ok-add_takers.ensures.each
