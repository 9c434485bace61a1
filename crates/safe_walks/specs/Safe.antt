-- Which rules the safe admission admits.
use Rattle.std.specs.Prelude.{ℕ, Bool, true, false, not, ◌&&◌, ◌||◌, List, [], ◌∷◌, ◌++◌, Option}
use Rattle.std.specs.Prelude.{Some, None}
use Rattle.flow_types.specs.declared.plan.Plan.{Plan}
use Rattle.flow_types.specs.declared.records.Record.{Record}
use Rattle.flow_types.specs.declared.records.Record.TheVariants as records
use Rattle.run_history.specs.declared.options.Mode.{Mode}
use Rattle.run_history.specs.declared.options.Mode.TheVariants as modes
use Rattle.run_history.specs.declared.options.Options.{Options}
use Rattle.run_history.specs.declared.answers.Check.{Check}
use Rattle.run_history.specs.declared.answers.Check.TheVariants as check
use Rattle.run_history.specs.History.{is_cleaned, is_opening}
use Rattle.run_history.specs.Legal.{is_allowed}
use Rattle.run_history.specs.States.{limit_of}
use Rattle.safe_walks.specs.Walk.{is_claimed, standing, with_claim, stays_within}

-- the mode collects files
abbrev pub collects : Mode → Bool
collects modes.Never = false
collects modes.RefCount = true
collects modes.OnDemand = true

-- The walk from a history stays within so many bytes.
abbrev pub is_safe : Plan → List Record → ℕ → Bool
is_safe P H limit = stays_within P (standing P H) limit

-- Under this limit rule r is admitted: where the walk doesn't stay within it, where the rule is
-- claimed, and where the walk with the rule claimed too stays within it.
abbrev pub admits_under : Plan → List Record → ℕ → ℕ → Bool
admits_under P H limit r = not (is_safe P H limit) || is_claimed H r
    || stays_within P (with_claim (standing P H) r) limit

-- the same where there is a limit; without one every rule is admitted
abbrev pub admits_by : Plan → List Record → ℕ → Option ℕ → Bool
admits_by P H r None = true
admits_by P H r (Some limit) = admits_under P H limit r

-- The rules that the safe admission admits: every rule where the mode is Never, and else by the
-- limit of the last opening.
abbrev pub safely_admitted : Plan → Options → List Record → ℕ → Bool
safely_admitted P O H r = not (collects O.mode) || admits_by P H r (limit_of H)

-- the walk stays within the limit, where there is one
abbrev pub is_safe_by : Plan → List Record → Option ℕ → Bool
is_safe_by P H None = true
is_safe_by P H (Some limit) = is_safe P H limit

-- The walk from a history stays within the limit of its last opening.
abbrev pub stays_safe : Plan → List Record → Bool
stays_safe P H = is_safe_by P H (limit_of H)

-- where the record starts a rule, the rule is admitted
abbrev pub is_admitted : Plan → Options → List Record → Record → Bool
is_admitted P O H (records.Started moment r attempt link) = safely_admitted P O H r.0
is_admitted P O H _ = true

-- The records of one run behind its opening: each is allowed behind those before it, opens and
-- cleans nothing, and starts only what is admitted.
abbrev pub is_admitted_course : Plan → List ℕ → Options → List Record → List Record → Bool
is_admitted_course P digest O before [] = true
is_admitted_course P digest O before (x ∷ xs) =
    is_allowed P digest before x && not (is_cleaned x) && not (is_opening x)
    && is_admitted P O before x
    && is_admitted_course P digest O (before ++ (x ∷ [])) xs

-- the answer of an end is that there is no room
abbrev pub is_no_room : Check → Bool
is_no_room (check.NoRoom rule need stored limit) = true
is_no_room _ = false
