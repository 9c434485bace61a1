use Rattle.std.proofs.Common.{ℕ, List, subst}
use Rattle.flow_types.specs.declared.flow.RawFlow.{RawFlow}
use Rattle.rule_graph.specs.Faults as graph
use Rattle.master_run.specs.Asked.{read_rules}
use Rattle.master_run.specs.Stages.{Stage}
use Rattle.master_run.specs.Words.{generated_name}
use Rattle.master_run.proofs.flow_plan.generated_rules.Goals as goal

-- src/flow_plan.rt:144:1
pub returns-in-Ok-generate-clause-stage : goal.returns-in-Ok-generate-clause-stage
returns-in-Ok-generate-clause-stage c =
    let named : Stage (read_rules generated_name (graph.plan_of c.in-Ok-generate.flow)) c.rules_plan.result = subst (λ (name : List ℕ). Stage (read_rules name (graph.plan_of c.in-Ok-generate.flow)) c.rules_plan.result) c.in-Ok.ensures c.rules_plan.ensures.stage in
    subst (λ (flow : RawFlow). Stage (read_rules generated_name (graph.plan_of flow)) c.rules_plan.result) c.in-Ok-generate.ensures.flow named
