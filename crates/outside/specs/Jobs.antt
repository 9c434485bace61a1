-- How a job may end.
use Rattle.std.specs.Prelude.{◌≡◌, ◌+◌, ◌<◌, ◌≤◌, ℕ, Bool, true, false, List, [], ◌∷◌, length, sum_by, Result, Ok, Err}
use Rattle.flow_types.specs.declared.job.Want.{Want}
use Rattle.flow_types.specs.declared.job.Job.{Job}
use Rattle.flow_types.specs.declared.job.Failure.{Failure}
use Rattle.flow_types.specs.declared.job.Failure.TheVariants.{Status, MissingOutput, TooLong}
use Rattle.flow_types.specs.declared.job.Outcome.{Outcome}
use Rattle.flow_types.specs.declared.job.Outcome.TheVariants.{Success, Failed, NotRun}
use Rattle.flow_types.specs.Plans.{most_bytes}
use Rattle.outside.specs.declared.fault.Fault.{Fault}

-- one content for each output, each within its bound
abbrev pub AllFit : List Want → List (List ℕ) → Type 0
AllFit [] [] = Unit {0}
AllFit [] (content ∷ contents) = ⊥
AllFit (want ∷ wants) [] = ⊥
AllFit (want ∷ wants) (content ∷ contents) = (length content ≤ want.bound) × AllFit wants contents

-- an index in the failure is that of an output
abbrev pub NamesOutput : Failure → ℕ → Type 0
NamesOutput (Status code) outputs = Unit {0}
NamesOutput (MissingOutput index) outputs = index < outputs
NamesOutput (TooLong index size) outputs = index < outputs

-- what every runner answers, told or not
abbrev pub IsShaped : Job → Outcome → Type 0
IsShaped job (Success contents) = AllFit job.outputs contents × (sum_by (λ c. length c) contents ≤ most_bytes)
IsShaped job (Failed why) = NamesOutput why (length job.outputs)
IsShaped job NotRun = ⊥

-- what an honest one answers: these contents, or a failure with which the job may end
abbrev pub IsHonest : List (List ℕ) → (Failure → Type 0) → Outcome → Type 0
IsHonest given may_fail (Success contents) = contents ≡ given
IsHonest given may_fail (Failed why) = may_fail why
IsHonest given may_fail NotRun = ⊥

-- the command ran to its end with status 0 and left what was wanted
abbrev pub IsSuccess : Outcome → Type 0
IsSuccess (Success contents) = Unit {0}
IsSuccess (Failed why) = ⊥
IsSuccess NotRun = ⊥

-- the answer is that the command failed
abbrev pub is_failure : Result Outcome Fault → Bool
is_failure (Ok (Success contents)) = false
is_failure (Ok (Failed why)) = true
is_failure (Ok NotRun) = false
is_failure (Err fault) = false

-- The count of failed commands rises by one where the answer is that the command failed, and else stands.
pub record CountsFailure (before now : ℕ) (result : Result Outcome Fault) : Type 0 where
  pub rose : is_failure result ≡ true → now ≡ before + 1
  pub stood : is_failure result ≡ false → now ≡ before
