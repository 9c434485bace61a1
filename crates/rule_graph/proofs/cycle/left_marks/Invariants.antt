use Rattle.std.proofs.Common.{◌≡◌, ℕ, ◌<◌, false, not, get_or, take, length}
use Rattle.flow_types.specs.Plans.{contains_number}
use Rattle.rule_graph.specs.Walking.{numbers_of}
use Rattle.rule_graph.proofs.cycle.left_marks.Given as goal

abbrev pub invariant-loop-rule : goal.invariant-loop-rule
invariant-loop-rule l = record {
  rules : length l.left.items ≡ length l.plan.rules;
  marks : (r : ℕ) → r < length l.plan.rules → get_or l.left.items r false ≡ not (contains_number r (numbers_of (take l.rule-index l.rule-items)));
}
