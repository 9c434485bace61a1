use Rattle.std.proofs.Common.{◌≡◌, ◌++◌, All, map}
use Rattle.std.specs.Vec.Iter.{into_iter_items}
use Rattle.flow_types.specs.declared.flow.RawFlow.{RawFlow}
use Rattle.rule_graph.specs.Flows.{names_of, rule_for}
use Rattle.rule_graph.specs.Numbering.{AreOf, IsRuleAmong}
use Rattle.rule_graph.proofs.rows.rules_of.Given as goal

-- the rules so far
abbrev pub invariant-loop-rule : goal.invariant-loop-rule
invariant-loop-rule l = record {
  rules : (flow : RawFlow) → AreOf flow l.tables → l.rules.items ≡ map (rule_for flow (names_of flow)) l.yielded;
  rest : l.yielded ++ into_iter_items l.rule-iterator ≡ l.fn.raw;
  among : All (IsRuleAmong l.tables.names.items) (into_iter_items l.rule-iterator);
}
