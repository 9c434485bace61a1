use Rattle.std.proofs.Common.{◌≡◌, ◌∙◌, ℕ, List, [], ◌∷◌, Option, Some, None, map, option_map, refl, ap, sym}
use Rattle.std.specs.Option.{option_map_or}
use Rattle.flow_types.specs.declared.numbers.RuleNo.{RuleNo}
use Rattle.rule_graph.specs.declared.faults.GraphFault.{GraphFault}
use Rattle.rule_graph.specs.declared.faults.GraphFault.TheVariants as faults
use Rattle.rule_graph.specs.Flows.{rule_no}
use Rattle.rule_graph.specs.Walking.{numbers_of}
use Rattle.rule_graph.specs.Loops.{named_loop}
use Rattle.rule_graph.proofs.plan.loop_fault.Goals as goal

-- rules from their numbers
rules_from : (rules : List RuleNo) → map rule_no (numbers_of rules) ≡ rules
rules_from [] = refl
rules_from (rule ∷ rules) = ap (λ rest. rule ∷ rest) (rules_from rules)

-- the fault of a loop
said : Option (List ℕ) → Option GraphFault
said loop = option_map_or (λ l. Some (faults.Cycle (map rule_no l))) loop None

pub returns-in-Some : goal.returns-in-Some
unfolding said
returns-in-Some c =
    let told : Some (numbers_of c.in-Some.rules.items) ≡ named_loop c.args.plan.now = rw c.in-Some.is at c.in_ok-rules.ensures in
    ap (λ rules. Some (faults.Cycle rules)) (c.of.ensures ∙ sym (rules_from c.in-Some.rules.items)) ∙ ap said told
