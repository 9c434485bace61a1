-- What no claim answers where every rule is admitted.
use Rattle.std.specs.Prelude.{◌≡◌, ℕ, Bool, true, false, List, Option, Result, Ok, Err}
use Rattle.flow_types.specs.declared.plan.Plan.{Plan}
use Rattle.run_history.specs.declared.options.Options.{Options}
use Rattle.run_history.specs.declared.moves.Move.{Move}
use Rattle.run_history.specs.declared.answers.Nothing.{Nothing}
use Rattle.run_history.specs.declared.answers.Nothing.TheVariants as nothing
use Rattle.run_history.specs.declared.answers.Stop.{Stop}
use Rattle.run_history.specs.Admissions.{all_admitted, claim_by}

-- the answer is that none of the rules that fit is admitted
abbrev pub is_unadmitted : Result ℕ Nothing → Bool
is_unadmitted (Err (nothing.NotAdmitted rule)) = true
is_unadmitted _ = false

-- Where every rule is admitted, no claim answers that none of those that fit is.
abbrev pub NoneIsUnadmitted : Type 0
NoneIsUnadmitted = (P : Plan) (O : Options) (M : List Move) (stop : Option Stop) (k : ℕ) → is_unadmitted (claim_by all_admitted P O M stop k) ≡ false
