-- How a run with workers ends.
use Rattle.std.specs.Prelude.{◌≡◌, ◌≤◌, ◌<◌, ◌+◌, ℕ, true, false, List, [], ◌++◌, length, Option, Some, None, Result, Ok, Err, All}
use Rattle.std.specs.List.{list_all, list_any}
use Rattle.flow_types.specs.declared.numbers.LinkNo.{LinkNo}
use Rattle.flow_types.specs.declared.plan.Plan.{Plan}
use Rattle.flow_types.specs.declared.records.Record.{Record}
use Rattle.run_history.specs.declared.answers.Check.{Check}
use Rattle.run_history.specs.declared.answers.Check.TheVariants as checks
use Rattle.run_history.specs.declared.answers.Stop.{Stop}
use Rattle.run_history.specs.declared.answers.Stop.TheVariants as stops
use Rattle.run_history.specs.declared.moves.Move.{Move}
use Rattle.run_history.specs.declared.options.Options.{Options}
use Rattle.run_history.specs.Admissions.{Admitting, is_in_vain_by}
use Rattle.run_history.specs.Answers.{before_end, end_over, has_ended}
use Rattle.run_history.specs.History.{is_end}
use Rattle.run_history.specs.Links.{records_of}
use Rattle.desk.specs.declared.answers.Trouble.{Trouble}
use Rattle.desk.specs.State.{IsFine}
use Rattle.local_run.specs.declared.ended.Stopped.{Stopped}
use Rattle.local_run.specs.declared.ended.Stopped.TheVariants as stopped
use Rattle.local_run.specs.declared.halt.Halt.TheVariants as halts
use Rattle.local_run.specs.Course.{IsHalt, begins_anew}
use Rattle.local_run.specs.Links.{link_moves}
use Rattle.wq_run.specs.Seats.{back_under}
use Rattle.local_run.specs.Losses.{LosesAway}

-- Why a run that was started stopped, where it did, by what the desk and the counts of the faults of its runners and of its hall are then.
abbrev pub StopsBy : Trouble → ℕ → ℕ → ℕ → ℕ → Result Check Stopped → Type 0
StopsBy after before now hall_before hall_now (Ok check) = IsFine after
StopsBy after before now hall_before hall_now (Err (stopped.Refused why)) = ⊥
StopsBy after before now hall_before hall_now (Err (stopped.Halted halt)) = IsHalt after before now halt
StopsBy after before now hall_before hall_now (Err stopped.Hall) = IsFine after × (hall_before < hall_now)
StopsBy after before now hall_before hall_now (Err (stopped.Unheard fault)) = ⊥
StopsBy after before now hall_before hall_now (Err (stopped.Unopened fault)) = ⊥

-- It doesn't stop by the failure of a runner.
abbrev pub IsSparedRunners : Result Check Stopped → Type 0
IsSparedRunners (Err (stopped.Halted halts.Runner)) = ⊥
IsSparedRunners how = Unit {0}

-- More records stand behind these, and each of those that gives an attempt up gives up one that was started on a link.
pub record LosesOnLinks (H all : List Record) : Type 0 where
  pub more : List Record
  pub are : all ≡ H ++ more
  pub each : All (LosesAway all) more

-- The stop is none; or it is for waiting in vain, by these moves and this admission, after so many looks for which nobody came: at least as many as the limit, and at most as many as this run made.
abbrev pub IsVain : Admitting → Plan → Options → List Move → ℕ → ℕ → Option Stop → Type 0
IsVain A P O M limit rise None = Unit {0}
IsVain A P O M limit rise (Some (stops.Waited idles)) = (limit ≤ idles) × (idles ≤ rise) × (is_in_vain_by A P O M ≡ true)
IsVain A P O M limit rise (Some stops.Halt) = ⊥

-- the run has come to an end
abbrev pub IsOver : Check → Type 0
IsOver checks.Going = ⊥
IsOver checks.Halted = ⊥
IsOver check = Unit {0}

-- How a run with workers ends, by its records and a stop for waiting in vain, if one was set.
pub record EndsWaiting (A : Admitting) (P : Plan) (O : Options) (limit rise : ℕ) (all : List Record) (check : Check) : Type 0 where
  pub moves : List Move
  pub logged : records_of moves ≡ before_end all
  pub stop : Option Stop
  pub vain : IsVain A P O moves limit rise stop
  pub answer : check ≡ end_over P O (before_end all) stop
  pub over : IsOver check

-- How a run with workers ends at a desk with all these moves: what it ends by, and waits in vain by, are the desk's own moves before its end. Until then the run hadn't ended, and behind them stands its end alone, or nothing, which begins no other.
pub record EndsHere (A : Admitting) (P : Plan) (O : Options) (limit rise : ℕ) (all : List Move) (check : Check) : Type 0 where
  pub ends : EndsWaiting A P O limit rise (records_of all) check
  pub more : List Move
  pub are : all ≡ ends.moves ++ more
  pub none : link_moves more ≡ []
  pub unended : has_ended (records_of ends.moves) ≡ false
  pub ended : list_all is_end (records_of more) ≡ true
  pub same : list_any begins_anew (records_of more) ≡ false

-- As many links were handed back as were given, and no two under one number.
pub record AreBack {L : Type 0} (got got_now : List (Option LinkNo × L)) (given given_now : ℕ) : Type 0 where
  pub more : List (Option LinkNo × L)
  pub are : got_now ≡ got ++ more
  pub many : length more + given ≡ given_now
  pub apart : (k : ℕ) → back_under k more ≤ 1
