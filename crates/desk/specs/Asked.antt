-- What the callers of a desk were asked for its moves, and what its moves are to each other.
use Rattle.std.specs.Prelude.{◌≡◌, ◌≢◌, ◌≤◌, ◌⊎◌, ℕ, true, List, [], ◌∷◌, ◌++◌, length, map, take, Option, Some, slice_get}
use Rattle.std.specs.List.{AllByRecursion}
use Rattle.flow_types.specs.declared.job.Failure.{Failure}
use Rattle.flow_types.specs.declared.job.Job.{Job}
use Rattle.flow_types.specs.declared.plan.Plan.{Plan}
use Rattle.flow_types.specs.declared.plan.Rule.{Rule}
use Rattle.flow_types.specs.declared.records.Record.{Record}
use Rattle.flow_types.specs.declared.records.Record.TheVariants as records
use Rattle.flow_types.specs.Serial.{Contents, Function, job_of, serial}
use Rattle.run_history.specs.declared.answers.Stop.{Stop}
use Rattle.run_history.specs.declared.moves.Move.{Move}
use Rattle.run_history.specs.declared.moves.Move.TheVariants as moves
use Rattle.run_history.specs.declared.options.Options.{Options}
use Rattle.run_history.specs.Legal.{is_legal}
use Rattle.run_history.specs.Links.{records_of}
use Rattle.run_history.specs.Moves.{all_follow, joins_and_changes, most_joins}
use Rattle.rule_graph.specs.Spelling.{plan_digest}
use Rattle.desk.specs.State.{runs_with}

-- of a plan, a rule's number and a failure: what is asked before the failure is logged
abbrev pub Asked : Type 1
Asked = Plan → ℕ → Failure → Type 0

-- Where there is trust, the job of the rule over the contents of the serial run may end with this failure.
abbrev pub MayFail : Type 0 → Function → (Job → Failure → Type 0) → Contents → Plan → ℕ → Failure → Type 0
MayFail trust gives may_fail sources P r why =
    trust → (row : Rule) → slice_get P.rules r ≡ Some row → may_fail (job_of P row (serial P gives sources)) why

-- If the record is a failure, it was asked for.
abbrev pub IsAskedFailure : Asked → Plan → Record → Type 0
IsAskedFailure asked P (records.Failed moment rule attempt why) = asked P rule.0 why
IsAskedFailure asked P _ = Unit {0}

-- Behind these moves an attempt on this link may be given up: a stop was set, or it is not the local place and all joins and changes were made.
abbrev pub MayBeLost : Option Stop → List Move → ℕ → Type 0
MayBeLost stop M link = ((why : Stop) × (stop ≡ Some why)) ⊎ ((link ≢ 0) × (most_joins ≤ joins_and_changes M))

-- If the move gives up an attempt that runs on a keen link, it may be given up.
abbrev pub IsAskedLoss : (ℕ → Type 0) → Option Stop → List Move → Move → Type 0
IsAskedLoss keen stop M (moves.Logged (records.Lost moment rule attempt)) =
    (link : ℕ) → runs_with (records_of M) rule.0 attempt.0 link ≡ true → keen link → MayBeLost stop M link
IsAskedLoss keen stop M _ = Unit {0}

-- Each of the moves that gives up an attempt on a keen link does so where it may, behind those before it.
abbrev pub AreAskedLosses : (ℕ → Type 0) → Option Stop → List Move → List Move → Type 0
AreAskedLosses keen stop before [] = Unit {0}
AreAskedLosses keen stop before (m ∷ ms) = IsAskedLoss keen stop before m × AreAskedLosses keen stop (before ++ (m ∷ [])) ms

-- The moves of a desk: a legal history that stood at its start, and moves since, each of which may follow those before it and was asked for.
pub record HasCourse (asked : Asked) (keen : ℕ → Type 0) (P : Plan) (O : Options) (stop : Option Stop) (base : ℕ) (M : List Move) : Type 0 where
  pub history : List Record
  pub since : List Move
  pub long : length history ≡ base
  pub split : M ≡ map moves.Logged history ++ since
  pub legal : is_legal P (plan_digest P) history ≡ true
  pub follow : all_follow P (plan_digest P) O (map moves.Logged history) since ≡ true
  pub failures : AllByRecursion (IsAskedFailure asked P) (records_of since)
  pub losses : AreAskedLosses keen stop (map moves.Logged history) since

-- the history that stood at the start of the desk with these moves
abbrev pub first_records : ℕ → List Move → List Record
first_records base M = take base (records_of M)
