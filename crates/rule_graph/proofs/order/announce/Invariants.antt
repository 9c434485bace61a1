use Rattle.std.proofs.Common.{◌≡◌, ℕ, List, drop, length}
use Rattle.flow_types.specs.declared.plan.Plan.{Plan}
use Rattle.rule_graph.specs.Progress.{IsUnderWay}
use Rattle.rule_graph.proofs.order.announce.Given as goal

abbrev pub invariant-loop-rule : goal.invariant-loop-rule
invariant-loop-rule l = record {
  under_way : (P : Plan) (taken : List ℕ) → IsUnderWay P taken l.takers l.fn.progress → IsUnderWay P taken (drop l.rule-index l.takers) l.progress;
  made : l.progress.made.items ≡ l.fn.progress.made.items;
  rules : length l.progress.missing.items ≡ length l.fn.progress.missing.items;
}
