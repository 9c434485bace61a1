use Rattle.std.proofs.Common.{◌≡◌, ◌∙◌, None, sym, ap, subst, All, List}
use Rattle.std.specs.Prelude.{IfOk}
use Rattle.flow_types.specs.declared.flow.RawFlow.{RawFlow}
use Rattle.flow_types.specs.declared.plan.FileRow.{FileRow}
use Rattle.flow_types.specs.declared.plan.Plan.{Plan}
use Rattle.flow_types.specs.declared.plan.Rule.{Rule}
use Rattle.rule_graph.specs.Flows.{plan_without_faults}
use Rattle.rule_graph.specs.Faults.{makings, second_maker}
use Rattle.rule_graph.specs.Numbering.{IsRuleAmong, AreOf, IsNumberedPlan}
use Rattle.rule_graph.proofs.PlanMakers.{plan_made_by, plan_makers}
use Rattle.rule_graph.proofs.PlanFiles.{plan_ports_inside, plan_one_port, plan_kept, plan_sources_not_kept, plan_rule_bounds}
use Rattle.rule_graph.proofs.Known.{rules_among}
use Rattle.rule_graph.proofs.rows.numbered.Goals as goal

pub rules_of-requires-clause-among : goal.rules_of-requires-clause-among
rules_of-requires-clause-among c =
    let of : AreOf c.args.flow c.in-Ok.tables = subst (λ made. IfOk made (AreOf c.args.flow)) c.in-Ok.is c.in_ok-tables.ensures.tables in
    subst (λ names. All (IsRuleAmong names) c.args.flow.rules) (sym of.names) (rules_among c.args.flow c.requires.names)

pub returns-clause-numbered : goal.returns-clause-numbered
returns-clause-numbered c =
    let flow : RawFlow = c.args.flow in
    let of : AreOf flow c.in-Ok.tables = subst (λ made. IfOk made (AreOf flow)) c.in-Ok.is c.in_ok-tables.ensures.tables in
    let none : second_maker (makings flow) ≡ None = subst (λ made. IfOk made (λ tables. second_maker (makings flow) ≡ None)) c.in-Ok.is c.in_ok-tables.ensures.faultless in
    let plan : List Rule → List FileRow → Plan = λ rules files. record { rules = rules; files = files } in
    let same : plan c.in_ok-rules.rules c.in_ok-files.files ≡ plan_without_faults flow =
    ap (λ rules. plan rules c.in_ok-files.files) (c.in_ok-rules.ensures flow of) ∙ ap (plan (plan_without_faults flow).rules) (c.in_ok-files.ensures flow of) in
    subst IsNumberedPlan (sym same) (record {
      ports_inside = plan_ports_inside flow c.requires.names;
      one_port = plan_one_port flow c.requires.names none;
      made_by = plan_made_by flow c.requires.names none;
      makers = plan_makers flow;
      kept = plan_kept flow;
      sources_not_kept = plan_sources_not_kept flow;
      rule_bounds = plan_rule_bounds flow c.requires.names none;
    })
