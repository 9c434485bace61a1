-- The plan of a flow without a fault is valid.
use Rattle.std.proofs.Common.{◌≡◌, ℕ, ◌≤◌, true, List, [], ◌∷◌, length, map, get_or, Option, Some, None, Result, Ok, Err, refl, ap, sym, subst, ◌∙◌, IsTrue}
use Rattle.std.specs.Prelude.{nat_le}
use Rattle.std.specs.List.{list_all}
use Rattle.std.specs.Option.{option_map_or}
use Rattle.std.proofs.lemmas.Bool.{and_from, le-leb, leb-true}
use Rattle.std.proofs.lemmas.List.Folds.{list_all-map}
use Rattle.flow_types.specs.declared.flow.RawFlow.{RawFlow}
use Rattle.flow_types.specs.declared.flow.RawRule.{RawRule}
use Rattle.flow_types.specs.declared.plan.Plan.{Plan}
use Rattle.flow_types.specs.Plans.{IsValid, is_within_limits, most_inputs, most_outputs, most_command_bytes, most_bytes, env_bytes, fits_amounts}
use Rattle.flow_types.specs.Serial.{serial_order}
use Rattle.rule_graph.specs.declared.faults.GraphFault.{GraphFault}
use Rattle.rule_graph.specs.declared.faults.GraphFault.TheVariants as faults
use Rattle.rule_graph.specs.Flows.{rule_no, names_of, rule_for, plan_without_faults}
use Rattle.rule_graph.specs.Cycles.{left_over, loop_among}
use Rattle.rule_graph.specs.Faults.{early_fault, second_maker, makings, cycle, or_else, fault_of, plan_of}
use Rattle.rule_graph.specs.Answers.{Gives}
use Rattle.rule_graph.specs.Loops.{IsNumbered}
use Rattle.rule_graph.specs.Numbering.{numbered}
use Rattle.rule_graph.proofs.LoopsLeftOver.{parts_numbered}
use Rattle.flow_types.specs.Flows.{FitsLimits}
use Rattle.rule_graph.proofs.RuleFaults.{none_both}
use Rattle.rule_graph.proofs.Unfaulted.{IsUnfaulted, unfaulted, plan_few_rules, plan_few_files, plan_ascending, plan_names, plan_not_nested, plan_remotes, plan_ports}
use Rattle.rule_graph.proofs.PlanMakers.{plan_made_by, plan_makers}
use Rattle.rule_graph.proofs.PlanFiles.{all_to, plan_ports_inside, plan_one_port, plan_kept, plan_sources_not_kept, plan_file_bounds, plan_rule_bounds}
use Rattle.rule_graph.proofs.OrderLaws.{nothing_left_over}

-- where no loop is named, no rule is left over
none_left : (P : Plan) (left : List ℕ) → (let none : Option GraphFault = None in option_map_or (λ loop. Some (faults.Cycle (map rule_no loop))) (loop_among P left) none ≡ none) → left ≡ []
none_left P [] none = refl
none_left P (r ∷ rs) none = absurd (let wrong : ⊥ = cc none in wrong)

-- a rule of the plan keeps the limits
rule_within : (flow : RawFlow) (raw : RawRule)
    → (length (rule_for flow (names_of flow) raw).inputs ≤ 4096) × (1 ≤ length (rule_for flow (names_of flow) raw).outputs) × (length (rule_for flow (names_of flow) raw).outputs ≤ 1024)
    → nat_le (length raw.command) most_command_bytes ≡ true → nat_le (env_bytes raw.env) most_command_bytes ≡ true → fits_amounts raw.needs ≡ true
    → is_within_limits (rule_for flow (names_of flow) raw) ≡ true
rule_within flow raw ports command env amounts =
    let a = le-leb (length (rule_for flow (names_of flow) raw).inputs) most_inputs ports.0 in
    let b = le-leb 1 (length (rule_for flow (names_of flow) raw).outputs) ports.1 in
    let c = le-leb (length (rule_for flow (names_of flow) raw).outputs) most_outputs ports.2 in
    and_from _ _ (and_from _ _ (and_from _ _ (and_from _ _ (and_from _ _ a b) c) command) env) amounts

plan_within_limits : (flow : RawFlow) → IsUnfaulted flow → FitsLimits flow → IsTrue (list_all is_within_limits (plan_without_faults flow).rules)
plan_within_limits flow good fits =
    list_all-map is_within_limits (rule_for flow (names_of flow)) flow.rules
    ∙ all_to (λ raw. is_within_limits (rule_for flow (names_of flow) raw)) flow.rules
    (λ k d inside. rule_within flow (get_or flow.rules k d) (plan_ports flow good k d inside) (fits.commands k d inside) (fits.envs k d inside) (fits.amounts k d inside))

-- The plan of a flow without a fault that keeps the limits is valid.
pub plan_valid : (flow : RawFlow) → FitsLimits flow → fault_of flow ≡ None → IsValid (plan_without_faults flow)
plan_valid flow fits none =
    let P : Plan = plan_without_faults flow in
    let first = none_both (early_fault flow) (or_else (second_maker (makings flow)) (cycle P)) none in
    let second = none_both (second_maker (makings flow)) (cycle P) first.1 in
    let good : IsUnfaulted flow = unfaulted flow first.0 in
    let left : left_over P ≡ [] = none_left P (left_over P) second.1 in
    record {
      few_rules = plan_few_rules flow good;
      few_files = plan_few_files flow good;
      within_limits = plan_within_limits flow good fits;
      ascending = plan_ascending flow;
      names = plan_names flow good;
      not_nested = plan_not_nested flow good;
      ports_inside = plan_ports_inside flow good.named;
      one_port = plan_one_port flow good.named second.0;
      made_by = plan_made_by flow good.named second.0;
      makers = plan_makers flow;
      remotes = plan_remotes flow good;
      kept = plan_kept flow;
      sources_not_kept = plan_sources_not_kept flow;
      file_bounds = plan_file_bounds flow (λ k d inside. leb-true (get_or flow.bounds k d).bytes most_bytes (fits.bounds k d inside));
      rule_bounds = plan_rule_bounds flow good.named second.0;
      orders = (serial_order P, (nothing_left_over P left).0.order);
    }

-- The plan of a flow without a fault before its loops is numbered.
pub plan_numbered : (flow : RawFlow) → early_fault flow ≡ None → second_maker (makings flow) ≡ None → IsNumbered (plan_without_faults flow)
plan_numbered flow none one =
    let good : IsUnfaulted flow = unfaulted flow none in
    let few : length (plan_without_faults flow).rules ≤ 20000 = leb-true (length (plan_without_faults flow).rules) 20000 (plan_few_rules flow good) in
    parts_numbered (plan_without_faults flow) few (plan_ports_inside flow good.named) (plan_made_by flow good.named one) (plan_makers flow)

-- ---- the answer of each stage

pub early_is : (flow : RawFlow) (fault : GraphFault) → early_fault flow ≡ Some fault → plan_of flow ≡ Err fault
early_is flow fault is =
    let none : Result Plan GraphFault = Ok (plan_without_faults flow) in
    ap (λ e. option_map_or Err (or_else e (or_else (second_maker (makings flow)) (cycle (plan_without_faults flow)))) none) is

past_early : (flow : RawFlow) → early_fault flow ≡ None
    → plan_of flow ≡ (let none : Result Plan GraphFault = Ok (plan_without_faults flow) in option_map_or Err (or_else (second_maker (makings flow)) (cycle (plan_without_faults flow))) none)
past_early flow is =
    let none : Result Plan GraphFault = Ok (plan_without_faults flow) in
    ap (λ e. option_map_or Err (or_else e (or_else (second_maker (makings flow)) (cycle (plan_without_faults flow)))) none) is

-- what numbering answered
numbered_parts : (P plan : Plan) (second : Option GraphFault) → (let none : Result Plan GraphFault = Ok P in option_map_or Err second none) ≡ Ok plan → (second ≡ None) × (plan ≡ P)
numbered_parts P plan None is = (refl, (let same : ◌≡◌ {A = Result Plan GraphFault} (Ok P) (Ok plan) = is in let eq : P ≡ plan = cc in sym eq))
numbered_parts P plan (Some fault) is = absurd (let wrong : ◌≡◌ {A = Result Plan GraphFault} (Err fault) (Ok plan) = is in cc)

pub numbered_is : (flow : RawFlow) (plan : Plan) → Ok plan ≡ numbered flow → (second_maker (makings flow) ≡ None) × (plan ≡ plan_without_faults flow)
numbered_is flow plan is = numbered_parts (plan_without_faults flow) plan (second_maker (makings flow)) (sym is)

second_fault : (P : Plan) (fault : GraphFault) (second rest : Option GraphFault) → (let none : Result Plan GraphFault = Ok P in option_map_or Err second none) ≡ Err fault
    → (let none : Result Plan GraphFault = Ok P in option_map_or Err (or_else second rest) none) ≡ Err fault
second_fault P fault None rest is = absurd (let wrong : ◌≡◌ {A = Result Plan GraphFault} (Ok P) (Err fault) = is in cc)
second_fault P fault (Some other) rest is = is

pub second_is : (flow : RawFlow) (fault : GraphFault) → early_fault flow ≡ None → Err fault ≡ numbered flow → plan_of flow ≡ Err fault
second_is flow fault none is = past_early flow none ∙ second_fault (plan_without_faults flow) fault (second_maker (makings flow)) (cycle (plan_without_faults flow)) (sym is)

-- where nothing was said before, the loop decides
pub loop_is : (flow : RawFlow) (plan : Plan) (found : Option GraphFault) → early_fault flow ≡ None → Ok plan ≡ numbered flow → found ≡ cycle plan
    → plan_of flow ≡ (let none : Result Plan GraphFault = Ok plan in option_map_or Err found none)
loop_is flow plan found none is loop =
    let parts = numbered_is flow plan is in
    let without : Plan → Option GraphFault → Result Plan GraphFault = λ p e. (let ok : Result Plan GraphFault = Ok p in option_map_or Err e ok) in
    past_early flow none
    ∙ ap (λ e. without (plan_without_faults flow) (or_else e (cycle (plan_without_faults flow)))) parts.0
    ∙ ap (λ p. without p (cycle p)) (sym parts.1)
    ∙ ap (without plan) (sym loop)

-- an answer that the definition gives
pub gives_same : (answer : Result Plan GraphFault) → Gives answer answer
gives_same (Ok plan) = refl
gives_same (Err (faults.TooMany limit)) = refl
gives_same (Err (faults.BadName rule text)) = refl
gives_same (Err (faults.NoOutput rule)) = refl
gives_same (Err (faults.SameName rule name)) = refl
gives_same (Err (faults.NestedName folder name)) = refl
gives_same (Err (faults.TwoMakers name rule other)) = refl
gives_same (Err (faults.Cycle rules)) = refl
gives_same (Err faults.Memory) = tt

faultless_by : (P plan : Plan) (fault : Option GraphFault) → Ok plan ≡ (let none : Result Plan GraphFault = Ok P in option_map_or Err fault none) → (fault ≡ None) × (plan ≡ P)
faultless_by P plan fault is = numbered_parts P plan fault (sym is)

-- a plan that the definition gives is valid
pub answered_valid : (flow : RawFlow) (plan : Plan) → FitsLimits flow → Ok plan ≡ plan_of flow → IsValid plan
answered_valid flow plan fits is =
    let parts = faultless_by (plan_without_faults flow) plan (fault_of flow) is in
    subst IsValid (sym parts.1) (plan_valid flow fits parts.0)
