-- What a run adds to the records that stood.
use Rattle.std.specs.Prelude.{◌≡◌, ℕ, Bool, true, false, List, Option, Result, OnOk, length}
use Rattle.flow_types.specs.declared.job.Failure.{Failure}
use Rattle.flow_types.specs.declared.job.Job.{Job}
use Rattle.flow_types.specs.declared.numbers.LinkNo.{LinkNo}
use Rattle.flow_types.specs.declared.plan.Plan.{Plan}
use Rattle.flow_types.specs.declared.records.Record.{Record}
use Rattle.flow_types.specs.Serial.{Function}
use Rattle.run_history.specs.declared.answers.Check.{Check}
use Rattle.run_history.specs.declared.options.Options.{Options}
use Rattle.run_history.specs.Admissions.{Admitting}
use Rattle.desk.specs.Admitted.{AreAdmitted}
use Rattle.links.specs.declared.passing.Passed.{Passed}
use Rattle.local_run.specs.declared.ended.Stopped.{Stopped}
use Rattle.local_run.specs.Added.{AddsRun}
use Rattle.local_run.specs.Collecting.{CollectsBy}
use Rattle.local_run.specs.Runs.{IsRefusedRun, LosesNone}
use Rattle.wq_run.specs.Ends.{LosesOnLinks}
use Rattle.wq_run.specs.Losses.{AreDueLosses}
use Rattle.wq_run.specs.Results.{AreResults}
use Rattle.flow_run.specs.Places.{PlacedBy}

-- What a run adds to the records that stood, whether or not the site tells its files: these are some, and where it tells those that the log's file spells. One run stands behind them, or nothing where none was started; each attempt of it is started where its rule may run and is of an admitted rule, files are dropped as the mode says, attempts are given up only as they may be, and results come from links.
pub record RunsOver {L : Type 0} (spells : List Record → Type 0) (told : Type 0) (gives : Function) (may_fail : Job → Failure → Type 0) (history : L → List Passed) (count idles : L → ℕ) (closed : L → Bool) (limit : ℕ)
    (got got_now : List (Option LinkNo × L)) (A : Admitting) (P : Plan) (O : Options) (all : List Record) (how : Result Check Stopped) : Type 0 where
  pub past : List Record
  pub spelled : spells past
  pub same : IsRefusedRun how → all ≡ past
  pub added : AddsRun O past all how
  pub places : PlacedBy P O past all
  pub admitted : AreAdmitted A P O all (length past)
  pub modes : CollectsBy P O.mode past all
  pub lost : O.wq ≡ false → OnOk how (LosesNone past all)
  pub lost_away : OnOk how (LosesOnLinks past all)
  pub due_losses : told → OnOk how (AreDueLosses gives may_fail history count idles closed limit got got_now past all)
  pub results : O.wq ≡ true → told → OnOk how (AreResults history got got_now past all)
