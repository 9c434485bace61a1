-- What a table of outcomes is to contracts.
use Rattle.std.specs.Prelude.{ℕ, List, Option, Some, None, if◌then◌else◌, String}
use Rattle.std.specs.Str.{bytes_eq}
use Rattle.std.specs.BTreeMap.{BTreeMap, get_by_text}
use Rattle.std.specs.declared.alloc.Global.{Global}
use Rattle.flow_types.specs.declared.job.Failure.{Failure}
use Rattle.flow_types.specs.declared.job.Job.{Job}
use Rattle.flow_types.specs.declared.job.Outcome.{Outcome}
use Rattle.outside.specs.Jobs.{IsShaped, IsHonest}
use Rattle.mem_outside.specs.declared.table_runner.TableRunner.{TableRunner}
use Rattle.mem_outside.specs.Calls.{Calls, calls_in}

-- the outcome of each command, where the table has one
abbrev pub outcomes_in : BTreeMap (String Global) Outcome → List ℕ → Option Outcome
outcomes_in table command = get_by_text table command

-- the same of a runner
abbrev pub outcomes_of : {F : Type 0} → TableRunner F → List ℕ → Option Outcome
outcomes_of runner = outcomes_in runner.table

-- its calls
abbrev pub calls_of : {F : Type 0} → TableRunner F → Calls
calls_of runner = calls_in runner.calls

-- how many of its answers were that a command failed
abbrev pub failures_of : {F : Type 0} → TableRunner F → ℕ
failures_of runner = runner.failures

-- these outcomes, but for that of one command
abbrev pub with_outcome : List ℕ → Outcome → (List ℕ → Option Outcome) → List ℕ → Option Outcome
with_outcome command outcome outcomes other = if bytes_eq command other then Some outcome else outcomes other

-- The table has no outcome that fits the job.
abbrev pub IsLacking : Option Outcome → Job → Type 0
IsLacking None job = Unit {0}
IsLacking (Some outcome) job = IsShaped job outcome → ⊥

-- The table's outcome is one with which the job may end, by these commands.
abbrev pub IsTold : (List (List ℕ)) → (Failure → Type 0) → Option Outcome → Type 0
IsTold given may_fail None = ⊥
IsTold given may_fail (Some outcome) = IsHonest given may_fail outcome
