-- What a run adds to a desk.
use Rattle.std.specs.Prelude.{◌≡◌, ◌≢◌, ◌<◌, ◌⊎◌, ℕ, Bool, true, false, ◌||◌, List, [], ◌∷◌, ◌++◌, Some, None, Result, Ok, Err, All, slice_get, is_some}
use Rattle.std.specs.List.{list_any}
use Rattle.flow_types.specs.declared.plan.Plan.{Plan}
use Rattle.flow_types.specs.declared.plan.Rule.{Rule}
use Rattle.flow_types.specs.declared.numbers.AttemptNo.{AttemptNo}
use Rattle.flow_types.specs.declared.numbers.FileNo.{FileNo}
use Rattle.flow_types.specs.declared.numbers.RuleNo.{RuleNo}
use Rattle.flow_types.specs.declared.job.Job.{Job}
use Rattle.flow_types.specs.declared.job.Failure.{Failure}
use Rattle.flow_types.specs.declared.records.Record.{Record}
use Rattle.flow_types.specs.declared.records.Record.TheVariants as records
use Rattle.flow_types.specs.Plans.{maker_of}
use Rattle.flow_types.specs.Serial.{Contents, Function, job_of, serial}
use Rattle.run_history.specs.declared.answers.Nothing.{Nothing}
use Rattle.run_history.specs.declared.answers.Nothing.TheVariants as nothing
use Rattle.run_history.specs.Admissions.{Admitting, claim_by}
use Rattle.run_history.specs.declared.moves.Move.{Move}
use Rattle.run_history.specs.History.{is_cleaned, is_opening}
use Rattle.run_history.specs.declared.options.Options.{Options}
use Rattle.run_history.specs.Links.{may_run_on, records_of}
use Rattle.run_history.specs.States.{drops}
use Rattle.desk.specs.declared.answers.Trouble.{Trouble}
use Rattle.desk.specs.declared.answers.Trouble.TheVariants as trouble
use Rattle.task_core.specs.Collections.{collection_of}
use Rattle.outside.specs.Disk.{Outcomes}
use Rattle.outside.specs.Files.{Files}
use Rattle.file_store.specs.Outputs.{file_name}
use Rattle.desk.specs.Kept.{ReadsStay, StaysBeside}
use Rattle.desk.specs.State.{AreNamed, DeskState, IsFine}
use Rattle.local_run.specs.Collecting.{IsUntouched, is_collected}
use Rattle.local_run.specs.Ends.{IsApart}
use Rattle.local_run.specs.Links.{link_moves}
use Rattle.local_run.specs.Losses.{LosesAway, is_lost}
use Rattle.local_run.specs.declared.halt.Halt.{Halt}
use Rattle.local_run.specs.declared.halt.Halt.TheVariants as halts

-- A record of a failure has one that the rule's job may fail with, over these contents.
abbrev pub FailsHonestly : Plan → (Job → Failure → Type 0) → Contents → Record → Type 0
FailsHonestly P may_fail contents (records.Failed moment rule attempt why) = (row : Rule) → slice_get P.rules rule.0 ≡ Some row → may_fail (job_of P row contents) why
FailsHonestly P may_fail contents _ = Unit {0}

-- The job of each rule that may run at the local place, over these contents, ends as the commands say.
abbrev pub TellsJobs : Plan → Options → (Job → Type 0) → Contents → Type 0
TellsJobs P O tells contents = (r : ℕ) (row : Rule) → slice_get P.rules r ≡ Some row → may_run_on P O r 0 ≡ true → tells (job_of P row contents)

-- The name is neither the log's nor that of a file that a rule makes.
abbrev pub IsUnmade : Plan → List ℕ → List ℕ → Type 0
IsUnmade P log m = (m ≢ log) × ((f : ℕ) → is_some (maker_of P f) ≡ true → m ≢ file_name P f)

-- Under each of these names a crash leaves, at any moment and behind it, only what it might have left before, and a read gives what it gave.
pub record LeavesAlone {S : Type 0} (files : S → Files) (may_leave : S → Outcomes) (moment : S → ℕ) (images_since : S → ℕ → Files → Type 0) (beside : List ℕ → Type 0) (old new : S) : Type 0 where
  pub crash : StaysBeside may_leave moment images_since beside old new
  pub reads : ReadsStay files beside old new

-- a run or a part begins
abbrev pub begins_anew : Record → Bool
begins_anew x = is_opening x || is_cleaned x

-- The desk is that of the same start, and these moves were added: those of links are these, and none of the records begins a run or a part. Where there is trust each failure among them is one that the rule's job over the serial run's contents may fail with. Where no stop is set none was set before, no attempt at the local place was given up, and none at all if no link ever joined. A desk that works did so before. What was dropped is collected, and where the desk works it is gone. Files that no rule makes, or that were collected already, stay.
pub record GoesOn {S : Type 0} (trust : Type 0) (gives : Function) (may_fail : Job → Failure → Type 0) (sources : Contents) (tells : Type 0) (files : S → Files) (may_leave : S → Outcomes) (moment : S → ℕ)
    (images_since : S → ℕ → Files → Type 0) (links : List Move) (d after : DeskState S) : Type 0 where
  pub passed : List Move
  pub more : List Record
  pub moves : after.moves ≡ d.moves ++ passed
  pub logged : records_of passed ≡ more
  pub linked : link_moves passed ≡ links
  pub plan : after.plan ≡ d.plan
  pub options : after.options ≡ d.options
  pub log : after.log ≡ d.log
  pub base : after.base ≡ d.base
  pub faults : after.faults ≡ d.faults
  pub honest : trust → All (FailsHonestly d.plan may_fail (serial d.plan gives sources)) more
  pub stops : after.stop ≡ None → d.stop ≡ None
  pub lost : after.stop ≡ None → All (LosesAway (records_of after.moves)) more
  pub alone : after.stop ≡ None → link_moves after.moves ≡ [] → list_any is_lost more ≡ false
  pub anew : list_any begins_anew more ≡ false
  pub works : IsFine after.trouble → IsFine d.trouble
  pub collected : (f : ℕ) → list_any (drops f) more ≡ true → is_collected d.plan (records_of after.moves) f ≡ true
  pub gone : tells → IsFine after.trouble → IsApart d.plan d.log → AreNamed d.plan → (f : ℕ) → list_any (drops f) more ≡ true → files after.site (file_name d.plan f) ≡ None
  pub others : tells → LeavesAlone files may_leave moment images_since (IsUntouched d.plan d.log (records_of d.moves)) d.site after.site

-- its site failed
abbrev pub IsBroken : Trouble → Type 0
IsBroken trouble.Fine = ⊥
IsBroken (trouble.Broken before after) = Unit {0}
IsBroken trouble.Wants = ⊥

-- Why a run stopped, by what the desk and the count of its runner's faults are then.
abbrev pub IsHalt : Trouble → ℕ → ℕ → Halt → Type 0
IsHalt after before now (halts.Damaged file logged found) = IsFine after
IsHalt after before now halts.Runner = IsFine after × (before < now)
IsHalt after before now halts.Site = IsBroken after
IsHalt after before now halts.Memory = Unit {0}

-- An attempt is given up for this cause, or the site fails or memory is wanting in that.
abbrev pub GivesUp : Halt → Trouble → Trouble → Halt → Type 0
GivesUp why before after result = ((result ≡ why) × IsFine before × IsFine after) ⊎ ((result ≡ halts.Site) × IsBroken after) ⊎ (result ≡ halts.Memory)

-- The desk works on and no stop was set, or the run stopped; it stopped on a desk that doesn't work only where the site failed or memory was wanting.
abbrev pub Closed : {S A : Type 0} → DeskState S → DeskState S → Result A Halt → Type 0
Closed d after (Ok done) = IsFine after.trouble × (after.stop ≡ d.stop)
Closed d after (Err halt) = Unit {0}

-- Why a run stopped, where it did.
abbrev pub HaltsBy : {A : Type 0} → Trouble → ℕ → ℕ → Result A Halt → Type 0
HaltsBy after before now (Ok done) = Unit {0}
HaltsBy after before now (Err halt) = IsHalt after before now halt

-- The same of a call that neither reads an input nor runs a command.
abbrev pub FailsBy : {A : Type 0} → Trouble → Result A Halt → Type 0
FailsBy after (Ok done) = Unit {0}
FailsBy after (Err (halts.Damaged file logged found)) = ⊥
FailsBy after (Err halts.Runner) = ⊥
FailsBy after (Err halts.Site) = IsBroken after
FailsBy after (Err halts.Memory) = Unit {0}

-- it is that a file is to be dropped first
abbrev pub is_collect_first : Nothing → Bool
is_collect_first (nothing.CollectFirst file) = true
is_collect_first why = false

-- A claim for the local place gives no rule, with this admission. Where that is since a file is to be dropped first, none can be dropped.
abbrev pub HasNothing : {S : Type 0} → Admitting → DeskState S → Type 0
HasNothing A d = (why : Nothing) × (claim_by A d.plan d.options d.moves d.stop 0 ≡ Err why)
    × (is_collect_first why ≡ true → (file : ℕ) → collection_of d.plan d.options d.moves ≡ Ok (Some file) → ⊥)

-- No record was added, or the drop of a file.
abbrev pub MayDrop : List Record → List Record → Type 0
MayDrop H all = (all ≡ H) ⊎ ((moment : ℕ) × ((file : FileNo) × (all ≡ H ++ (records.Dropped moment file ∷ []))))

-- The last of the records gives an attempt up.
abbrev pub IsGivenUp : List Record → RuleNo → AttemptNo → List Record → Type 0
IsGivenUp H rule number all = (moment : ℕ) × (all ≡ H ++ (records.Lost moment rule number ∷ []))
