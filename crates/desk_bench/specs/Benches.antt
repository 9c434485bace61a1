-- What a bench keeps beside its desk.
use Rattle.std.specs.Prelude.{◌≡◌, ◌≤◌, ℕ, List, length, Some, slice_get}
use Rattle.flow_types.specs.declared.plan.Plan.{Plan}
use Rattle.desk.specs.State.{AreOutputs}

-- There are at most 64 rules, and one list of contents for each, which the rule may make.
pub record HasOutputs (P : Plan) (outs : List (List (List ℕ))) : Type 0 where
  pub few : length P.rules ≤ 64
  pub many : length outs ≡ length P.rules
  pub fit : (r : ℕ) (made : List (List ℕ)) → slice_get outs r ≡ Some made → AreOutputs P r made
