use Rattle.std.proofs.Common.{arith, length}
use Rattle.std.specs.Prelude.{slice_index_or}
use Rattle.flow_types.specs.Plans.{most_inputs}
use Rattle.gc_refcount.specs.Counting.{open_ports}
use Rattle.safe_storage.specs.Counters.{counting}
use Rattle.safe_storage.proofs.Loops.{opened-step, summed-all}
use Rattle.safe_storage.proofs.counting.count_open.Goals as goal

pub loop-rule-preserved : goal.loop-rule-preserved
loop-rule-preserved c = record {
  same = omega (arith, c.count_rule.ensures.same, c.loop-rule.invariant.same);
  counts = λ f. opened-step c.args.plan.now c.args.over.now f c.loop-rule.rule
      (slice_index_or c.loop-rule.counts.items f 0)
      (slice_index_or c.count_rule.new.counts.items f 0) c.requires.valid
      (c.count_rule.ensures.counts f) (c.loop-rule.invariant.counts f);
}

pub returns-clause-counts : goal.returns-clause-counts
returns-clause-counts c f = summed-all (open_ports (counting c.args.plan.now c.args.over.now) f)
    most_inputs c.loop-rule.rule (length c.args.plan.now.rules)
    (slice_index_or c.loop-rule.counts.items f 0)
    (omega (arith, c.loop-rule-test.false, c.loop-rule.auto.rule-end, c.len-rule-end.ensures))
    (c.loop-rule.invariant.counts f)
