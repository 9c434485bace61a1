use Rattle.std.proofs.Common.{◌≡◌, ◌<◌, ℕ, ap, sym, ◌∙◌, arith, length}
use Rattle.rule_graph.proofs.Indexing.{index_more}
use Rattle.rule_graph.proofs.order.takers_of.Goals as goal

pub rules-preserved : goal.rules-preserved
rules-preserved c =
    let inside : c.rules.rule < length c.args.plan.now.rules = omega (arith, c.rules-test.true, c.len-rule-end.ensures) in
    index_more c.args.plan.now c.rules.rule c.index-as_slice-rule.result c.as_slice.result.now c.rules.index.items c.add_takers.new.index.items inside c.as_slice.ensures
    c.index-as_slice-rule.is c.rules.invariant c.in_ok-add_takers.ensures.len c.in_ok-add_takers.ensures.inside c.in_ok-add_takers.ensures.own c.in_ok-add_takers.ensures.others
