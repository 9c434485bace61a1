use Rattle.std.proofs.Common.{string_bytes, arith}
use Rattle.plan_show.specs.Rules.{variable_line}
use Rattle.plan_show.proofs.Writing.{written-more}
use Rattle.plan_show.proofs.rules.add_variables.Goals as goal

pub loop-pair-preserved : goal.loop-pair-preserved
loop-pair-preserved c =
    written-more variable_line (string_bytes c.loop-pair.out) _ (string_bytes c.args.out.now) c.as_slice-pair-items.result.now c.loop-pair.pair-index c.pair-item.result
    (omega (arith, c.loop-pair-test.true)) c.pair-item.is c.in_ok-add_variable.ensures c.loop-pair.invariant
