use Rattle.rule_graph.proofs.PlanValid.{plan_valid}
use Rattle.rule_graph.proofs.laws.faultless_plans_are_valid.Goals as goal

pub returns : goal.returns
returns c = plan_valid
