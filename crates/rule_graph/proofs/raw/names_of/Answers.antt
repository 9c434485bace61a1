use Rattle.std.proofs.Common.{map}
use Rattle.rule_graph.proofs.Ports.{bytes_of}
use Rattle.rule_graph.proofs.Repeats.{names_more}
use Rattle.rule_graph.proofs.raw.names_of.Goals as goal

pub loop-rule-preserved : goal.loop-rule-preserved
loop-rule-preserved c =
    names_more c.as_slice-rule-items.result.now c.loop-rule.rule-index c.rule-item.result
    (map bytes_of c.loop-rule.names.keys) (map bytes_of c.add_names.new.names.keys) (map bytes_of c.add_names-in-loop-rule.new.names.keys)
    c.loop-rule-test.true c.rule-item.is
    c.loop-rule.invariant c.in_ok-add_names.ensures c.in_ok-add_names-2.ensures
