use Rattle.std.proofs.Common.{map}
use Rattle.jx_meaning.specs.Values.{plain}
use Rattle.jx_flow.specs.Reading.{each_at}
use Rattle.jx_flow.specs.Rules.{rule_of}
use Rattle.jx_flow.proofs.Each.{each_at_more}
use Rattle.jx_flow.proofs.rules.rules_of.Goals as goal

pub loop-item-preserved : goal.loop-item-preserved
loop-item-preserved c =
    let rule = rule_of c.args.general.now in
    let more = each_at_more plain rule c.loop-item.index c.args.items.now c.loop-item.item-index c.item-item.result c.in_ok-one.one c.loop-item.made.items (each_at rule 0 (map plain c.args.items.now))
    c.loop-item-test.true c.item-item.is c.in_ok-one.ensures c.loop-item.invariant in
    rw (c.in_ok-push.ensures.items, c.saturating_add-index.ensures) more
