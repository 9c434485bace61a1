-- The plan of a flow's text.
use Rattle.std.specs.Prelude.{◌≡◌, ℕ, List, Ok}
use Rattle.flow_types.specs.declared.flow.RawFlow.{RawFlow}
use Rattle.flow_types.specs.declared.plan.Plan.{Plan}
use Rattle.mf_rules.specs.Flow.{flow_of}
use Rattle.jx_flow.specs.Flow.{flow_of_text}
use Rattle.rule_graph.specs.Faults.{plan_of}
use Rattle.command_words.specs.declared.options.Language.{Language}
use Rattle.command_words.specs.declared.options.Language.TheVariants.{Make, Jx}

-- The plan is that of a Makeflow text over these variables.
pub record IsPlanOfMake (env : List (List ℕ × List ℕ)) (text : List ℕ) (plan : Plan) : Type 0 where
  pub flow : RawFlow
  pub read : flow_of env text ≡ Ok flow
  pub planned : plan_of flow ≡ Ok plan

-- The plan is that of a JX text.
pub record IsPlanOfJx (text : List ℕ) (plan : Plan) : Type 0 where
  pub flow : RawFlow
  pub read : flow_of_text text ≡ Ok flow
  pub planned : plan_of flow ≡ Ok plan

-- The plan is that of a text in this language.
abbrev pub IsPlanOf : Language → List (List ℕ × List ℕ) → List ℕ → Plan → Type 0
IsPlanOf Make env text plan = IsPlanOfMake env text plan
IsPlanOf Jx env text plan = IsPlanOfJx text plan
