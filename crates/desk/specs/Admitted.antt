-- Which starts of a desk were admitted.
use Rattle.std.specs.Prelude.{◌≡◌, ◌≤◌, ℕ, true, List, take, Some, slice_get}
use Rattle.flow_types.specs.declared.numbers.AttemptNo.{AttemptNo}
use Rattle.flow_types.specs.declared.numbers.LinkNo.{LinkNo}
use Rattle.flow_types.specs.declared.numbers.RuleNo.{RuleNo}
use Rattle.flow_types.specs.declared.plan.Plan.{Plan}
use Rattle.flow_types.specs.declared.records.Record.{Record}
use Rattle.flow_types.specs.declared.records.Record.TheVariants as records
use Rattle.run_history.specs.declared.options.Options.{Options}
use Rattle.run_history.specs.Admissions.{Admitting}

-- Each Started since the desk's start was admitted, in the records before it.
abbrev pub AreAdmitted : Admitting → Plan → Options → List Record → ℕ → Type 0
AreAdmitted A P O H base = (i moment : ℕ) (rule : RuleNo) (attempt : AttemptNo) (link : LinkNo) → base ≤ i
    → slice_get H i ≡ Some (records.Started moment rule attempt link) → A P O (take i H) rule.0 ≡ true

-- If the record starts a rule, that is admitted behind these records.
abbrev pub IsAdmitted : Admitting → Plan → Options → List Record → Record → Type 0
IsAdmitted A P O H (records.Started moment rule attempt link) = A P O H rule.0 ≡ true
IsAdmitted A P O H _ = Unit {0}
