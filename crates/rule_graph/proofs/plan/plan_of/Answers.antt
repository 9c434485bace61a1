use Rattle.std.proofs.Common.{◌≡◌, ◌∙◌, Result, Ok, Err, sym, subst, IfOk}
use Rattle.flow_types.specs.declared.plan.Plan.{Plan}
use Rattle.flow_types.specs.Plans.{IsValid}
use Rattle.rule_graph.specs.declared.faults.GraphFault.{GraphFault}
use Rattle.rule_graph.specs.Answers.{Gives}
use Rattle.rule_graph.specs.Faults.{plan_of}
use Rattle.rule_graph.proofs.PlanValid.{gives_same, answered_valid}
use Rattle.rule_graph.proofs.plan.plan_of.Goals as goal

pub returns-in-Ok-clause-valid : goal.returns-in-Ok-clause-valid
returns-in-Ok-clause-valid c = valid_if c.in-Ok.answer c.in-Ok.ensures
  where
    valid_if : (answer : Result Plan GraphFault) → answer ≡ plan_of c.args.flow → IfOk answer IsValid
    valid_if (Ok plan) is = answered_valid c.args.flow plan c.requires is
    valid_if (Err fault) is = tt
