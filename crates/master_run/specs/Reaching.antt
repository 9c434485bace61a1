-- What a run with workers comes to over sure links.
use Rattle.std.specs.Prelude.{◌≡◌, ◌≤◌, ℕ, Bool, List, Option, None, IsFalse}
use Rattle.flow_types.specs.declared.job.Job.{Job}
use Rattle.flow_types.specs.declared.numbers.Amounts.{Amounts}
use Rattle.flow_types.specs.declared.numbers.LinkNo.{LinkNo}
use Rattle.flow_types.specs.declared.records.Record.{Record}
use Rattle.flow_types.specs.Serial.{Function, serial}
use Rattle.links.specs.declared.passing.Passed.{Passed}
use Rattle.outside.specs.Disk.{Outcomes}
use Rattle.outside.specs.Files.{Files}
use Rattle.local_run.specs.Completing.{HasRecordRoom, SerialInputsFit}
use Rattle.local_run.specs.Course.{TellsJobs}
use Rattle.local_run.specs.Moments.{IsResumable}
use Rattle.local_run.specs.Runs.{SerialFits, read_sources}
use Rattle.wq_run.specs.Calm.{ComeFew, GoesWell}
use Rattle.report.specs.declared.cause.Cause.{Cause}
use Rattle.report.specs.declared.cause.Cause.TheVariants as causes
use Rattle.report.specs.Causes.{kind_of, may_lose}
use Rattle.master_run.specs.declared.ask.Ask.{Ask}
use Rattle.master_run.specs.Counts.{Counts}
use Rattle.master_run.specs.Ends.{NoneRose, run_refusal}
use Rattle.master_run.specs.Needs.{StatesAtMost}
use Rattle.master_run.specs.Serves.{Completes}

-- The links that the hall gives tell their bytes, and are honest and sure; fewer than 1,000,000 Hellos and Totals came over those that it handed back; and it didn't fail.
pub record AreSureLinks {L : Type 0} (tells is_honest is_sure : Type 0) (history : L → List Passed) (count idles : L → ℕ) (closed : L → Bool) (got got_now : List (Option LinkNo × L)) (faults faults_now : ℕ) : Type 0 where
  pub told : tells
  pub honest : is_honest
  pub surely : is_sure
  pub few : ComeFew history count idles closed got got_now
  pub stood : faults_now ≤ faults

-- The hall is manned for amounts that are at least what each rule states that runs at a worker.
abbrev pub IsMannedFor : (Amounts → Type 0) → Ask → Type 0
IsMannedFor manned ask = (least : Amounts) × manned least × StatesAtMost ask.options least ask.plan

-- Nothing is in the way of a run: it can go on from the log, and isn't refused; the inputs of each rule are within their limit in the serial run, and the log has room; the runners tell of the job there of each rule that may run here; and no count rose.
pub record IsFree (gives : Function) (told : Job → Type 0) (ask : Ask) (files : Files) (outcomes : Outcomes) (H : List Record) (before after : Counts) : Type 0 where
  pub resumable : IsResumable (SerialFits gives (read_sources ask.plan files)) ask.plan ask.log H outcomes
  pub free : run_refusal ask.plan ask.options H files ≡ None
  pub fit : SerialInputsFit ask.plan gives (read_sources ask.plan files)
  pub room : HasRecordRoom ask.plan H
  pub jobs : TellsJobs ask.plan ask.options told (serial ask.plan gives (read_sources ask.plan files))
  pub stood : NoneRose before after

-- Every rule is complete, or the call waited in vain, or memory was wanting, or there is a limit of the storage and no room.
abbrev pub Reaches : Option ℕ → Cause → Type 0
Reaches limit (causes.Waited wait) = Unit {0}
Reaches limit cause = Completes limit cause

-- How such a call ended: where no fault ended it no attempt of it failed and none was given up; where nothing was in its way it ended as `Reaches` says, and over a manned hall not by waiting in vain.
pub record GoesSurely (gives : Function) (told : Job → Type 0) (is_manned : Type 0) (ask : Ask) (files : Files) (outcomes : Outcomes) (H : List Record) (before after : Counts) (records : List Record) (cause : Cause) : Type 0 where
  pub well : IsFalse (may_lose (kind_of cause)) → GoesWell H records
  pub reached : IsFree gives told ask files outcomes H before after → Reaches ask.options.limit cause
  pub manned : is_manned → IsFree gives told ask files outcomes H before after → Completes ask.options.limit cause
