-- What a call does of which a plan and some work were asked.
use Rattle.std.specs.Prelude.{◌≡◌, ◌⊎◌, ℕ, false, true, List, Option, Some, None, IsTrue, IsFalse}
use Rattle.flow_types.specs.declared.plan.Plan.{Plan}
use Rattle.flow_types.specs.declared.numbers.Content.{Content}
use Rattle.flow_types.specs.declared.job.Job.{Job}
use Rattle.flow_types.specs.declared.job.Failure.{Failure}
use Rattle.flow_types.specs.declared.records.Record.{Record}
use Rattle.flow_types.specs.Serial.{Function, serial}
use Rattle.run_history.specs.Admissions.{Admitting}
use Rattle.run_history.specs.History.{since_opening}
use Rattle.run_history.specs.Spent.{SpentOnce}
use Rattle.outside.specs.Disk.{IsImage, LeavesOnly, Outcomes}
use Rattle.outside.specs.Files.{Files}
use Rattle.txn_log.specs.Spells.{Spells}
use Rattle.desk.specs.Kept.{IsLegal, Keeps, ReadsStay, StaysBeside}
use Rattle.desk.specs.Openings.{IsNoSource}
use Rattle.local_run.specs.Collecting.{AreGone, CollectsBy}
use Rattle.local_run.specs.Completing.{HasRecordRoom, HasSources, SerialInputsFit}
use Rattle.local_run.specs.Course.{IsUnmade, TellsJobs}
use Rattle.local_run.specs.Moments.{IsBefore, IsMoment, IsResumable, KeepsSome}
use Rattle.local_run.specs.Runs.{Adds, BeginsWith, Held, LosesNone, SerialFits, read_sources}
use Rattle.command_words.specs.declared.options.Work.TheVariants.{Run}
use Rattle.wq_run.specs.Ends.{LosesOnLinks}
use Rattle.flow_run.specs.Places.{PlacedBy}
use Rattle.report.specs.declared.cause.Cause.{Cause}
use Rattle.report.specs.declared.cause.Cause.TheVariants as causes
use Rattle.report.specs.Causes.{is_completion, is_cut, is_failing, is_refusal, kind_of, may_lose, was_read}
use Rattle.master_run.specs.declared.ask.Ask.{Ask}
use Rattle.master_run.specs.Added.{CallAdds}
use Rattle.master_run.specs.Counts.{Counts}
use Rattle.master_run.specs.Ends.{FaultEnd, LogEnds, NoneRose, idle_rise, run_refusal}
use Rattle.master_run.specs.Headline.{HasLog, IsCleanedBy, IsLegalOr, IsSpentBy, is_early, is_run_end, is_runner_fault}

-- The call may have ended in the midst of an append.
abbrev pub IsCut : Cause → Type 0
IsCut cause = IsTrue (is_cut (kind_of cause))

-- The name is neither the log's nor that of a file that a rule makes. Where the site failed or memory was wanting it isn't that of a source either.
abbrev pub IsSparedBy : Plan → List ℕ → Cause → List ℕ → Type 0
IsSparedBy P log cause m = IsUnmade P log m × (IsCut cause → IsNoSource P m)

-- What a file has to have to fit what was logged of it.
abbrev pub Fit : Type 1
Fit = Plan → ℕ → Content → Option (List ℕ) → Type 0

-- What each image of the call since a time keeps, where those of the entry keep some list of records, or there are none: it is one of that time before the call, or keeps the records of the log and the first of those that were added.
abbrev pub AllMoments : {S : Type 0} → (S → Files) → (S → Outcomes) → (S → ℕ → Files → Type 0) → Fit → ℕ → Ask → List Record → S → S → List Record → Cause → Type 0
AllMoments files may_leave images_since fits born ask H old new records cause =
    IsResumable fits ask.plan ask.log H (may_leave old)
    → (image : Files) → images_since new born image
    → images_since old born image ⊎ IsMoment fits ask.plan ask.log (files old) (may_leave old) H records (IsCut cause) image

-- What each image keeps at the end of the call, unless it was cut short.
abbrev pub KeepsAtEnd : {S : Type 0} → (S → Outcomes) → Ask → List Record → S → S → List Record → Cause → Type 0
KeepsAtEnd may_leave ask H old new records cause =
    IsResumable Held ask.plan ask.log H (may_leave old) → (IsCut cause → ⊥)
    → (image : Files) → IsImage (may_leave new) image → Keeps Held ask.plan ask.log records image

-- Each image of the call since a time is one of that time before it, or can be gone on from, where those of the entry can.
abbrev pub StaysResumable : {S : Type 0} → (S → Outcomes) → (S → ℕ → Files → Type 0) → ℕ → Ask → S → S → Type 0
StaysResumable may_leave images_since born ask old new =
    ((image : Files) → IsImage (may_leave old) image → KeepsSome Held ask.plan ask.log image)
    → (image : Files) → images_since new born image
    → images_since old born image ⊎ KeepsSome Held ask.plan ask.log image

-- Every rule is complete, or memory was wanting, or there is a limit of the storage and no room.
abbrev pub Completes : Option ℕ → Cause → Type 0
Completes limit (causes.NoRoom rule need stored most) = limit ≡ Some most
Completes limit cause = IsTrue (is_completion (kind_of cause))

-- What can come to its end on this machine does, where nothing fails: every rule is complete, or memory was wanting, or there is a limit and no room.
abbrev pub CanComplete : Function → (Job → Type 0) → Type 0 → Ask → Files → Outcomes → List Record → Counts → Counts → Cause → Type 0
CanComplete gives told sure ask files outcomes H before after cause =
    ask.options.wq ≡ false → ask.work ≡ Run
    → IsResumable (SerialFits gives (read_sources ask.plan files)) ask.plan ask.log H outcomes
    → run_refusal ask.plan ask.options H files ≡ None
    → HasSources ask.plan files → SerialInputsFit ask.plan gives (read_sources ask.plan files) → HasRecordRoom ask.plan H
    → sure → TellsJobs ask.plan ask.options told (serial ask.plan gives (read_sources ask.plan files)) → NoneRose before after
    → Completes ask.options.limit cause

-- What a call does of which this is asked, from the site that it finds to the one that it leaves.
pub record Serves {S : Type 0} (E : Admitting) (tells : Type 0) (files : S → Files) (may_leave : S → Outcomes) (moment : S → ℕ) (images_since : S → ℕ → Files → Type 0) (born : ℕ)
    (gives : Function) (may_fail : Job → Failure → Type 0) (told : Job → Type 0) (sure honest_links : Type 0) (before after : Counts) (ask : Ask) (old new : S) (records : List Record) (cause : Cause) : Type 0 where
  pub ends : tells → LogEnds E ask (idle_rise before after) (files old) (files new) records cause
  pub late : IsFalse (is_early (kind_of cause))
  pub faults : FaultEnd before after cause
  pub has_log : tells → (H : List Record) → Spells H (files old ask.log) → HasLog H records (kind_of cause)
  pub unread : tells → (H : List Record) → Spells H (files old ask.log) → (BeginsWith H records → ⊥) → LeavesOnly moment images_since old new (IsBefore ask.log (files old ask.log) (may_leave old))
  pub added : tells → (H : List Record) → Spells H (files old ask.log) → CallAdds ask H records cause
  pub legal : IsTrue (was_read (kind_of cause)) → IsLegal ask.plan records
  pub logged : tells → (H : List Record) → Spells H (files old ask.log) → IsLegalOr ask.plan H records (kind_of cause)
  pub closed : IsTrue (is_run_end (kind_of cause)) → SpentOnce (since_opening records)
  pub spent : tells → (H : List Record) → Spells H (files old ask.log) → (IsCut cause → ⊥) → IsSpentBy H records
  pub lost : tells → (H : List Record) → Spells H (files old ask.log) → ask.options.wq ≡ false → IsFalse (may_lose (kind_of cause)) → LosesNone H records
  pub lost_away : tells → (H : List Record) → Spells H (files old ask.log) → IsFalse (may_lose (kind_of cause)) → LosesOnLinks H records
  pub moments : tells → (H : List Record) → Spells H (files old ask.log) → AllMoments files may_leave images_since Held born ask H old new records cause
  pub resumable : tells → StaysResumable may_leave images_since born ask old new
  pub now : tells → (H : List Record) → Spells H (files old ask.log) → KeepsAtEnd may_leave ask H old new records cause
  pub untouched : tells → IsTrue (is_refusal (kind_of cause)) → files new ≡ files old
  pub quiet : tells → IsTrue (is_refusal (kind_of cause)) → LeavesOnly moment images_since old new (IsImage (may_leave old))
  pub others : tells → StaysBeside may_leave moment images_since (IsUnmade ask.plan ask.log) old new
  pub reads : tells → ReadsStay files (IsSparedBy ask.plan ask.log cause) old new
  pub contents : tells → (H : List Record) → Spells H (files old ask.log) → (ask.options.wq ≡ true → honest_links)
      → TellsJobs ask.plan ask.options told (serial ask.plan gives (read_sources ask.plan (files old)))
      → AllMoments files may_leave images_since (SerialFits gives (read_sources ask.plan (files old))) born ask H old new records cause
  pub honest : tells → (H : List Record) → Spells H (files old ask.log) → (ask.options.wq ≡ true → honest_links)
      → IsResumable (SerialFits gives (read_sources ask.plan (files old))) ask.plan ask.log H (may_leave old)
      → TellsJobs ask.plan ask.options told (serial ask.plan gives (read_sources ask.plan (files old)))
      → BeginsWith H records → Adds (Unit {0}) gives may_fail (read_sources ask.plan (files old)) ask.plan H records
  pub modes : tells → (H : List Record) → Spells H (files old ask.log) → BeginsWith H records → CollectsBy ask.plan ask.options.mode H records
  pub places : tells → (H : List Record) → Spells H (files old ask.log) → BeginsWith H records → PlacedBy ask.plan ask.options H records
  pub gone : tells → (H : List Record) → Spells H (files old ask.log) → (IsCut cause → ⊥) → AreGone ask.plan (files new) H records
  pub cleaned : tells → (H : List Record) → Spells H (files old ask.log) → IsCleanedBy ask.plan H (files new) cause
  pub sure_end : ask.options.wq ≡ false → sure → IsFalse (is_failing (kind_of cause))
  pub never : sure → IsFalse (is_runner_fault (kind_of cause))
  pub completes : tells → (H : List Record) → Spells H (files old ask.log) → CanComplete gives told sure ask (files old) (may_leave old) H before after cause
