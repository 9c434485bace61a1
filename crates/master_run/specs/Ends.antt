-- How a call ends: by the first refusal, or by what was asked for.
use Rattle.std.specs.Prelude.{◌≡◌, ◌⊎◌, ◌<◌, ◌-◌, ℕ, Bool, true, false, List, [], length, Option, Some, None, Result, Ok, Err, IsTrue, IsFalse, option_map, slice_get}
use Rattle.flow_types.specs.declared.plan.Plan.{Plan}
use Rattle.flow_types.specs.declared.records.Record.{Record}
use Rattle.flow_types.specs.Plans.{is_source}
use Rattle.run_history.specs.Admissions.{Admitting}
use Rattle.run_history.specs.declared.answers.Check.{Check}
use Rattle.run_history.specs.declared.answers.Check.TheVariants as check
use Rattle.run_history.specs.declared.options.Options.{Options as RunOptions}
use Rattle.run_history.specs.History.{part}
use Rattle.run_history.specs.Answers.{before_end, end_over}
use Rattle.outside.specs.Files.{Files}
use Rattle.txn_log.specs.Spells.{Spells}
use Rattle.log_recover.specs.Recovery.{HasBadHeader, HasBadRecord}
use Rattle.desk.specs.declared.answers.StartFault.{StartFault}
use Rattle.desk.specs.declared.answers.StartFault.TheVariants as faults
use Rattle.desk.specs.Histories.{history_fault}
use Rattle.command_words.specs.declared.options.Options.{Options}
use Rattle.command_words.specs.declared.options.Work.{Work}
use Rattle.command_words.specs.declared.options.Work.TheVariants as works
use Rattle.local_run.specs.Ends.{IsDamaged, IsRunEnd, run_fault}
use Rattle.wq_run.specs.Ends.{EndsWaiting}
use Rattle.cleaning.specs.Cleanings.{SpellsSome, clean_fault, made_count}
use Rattle.report.specs.declared.cause.Cause.{Cause}
use Rattle.report.specs.declared.cause.Cause.TheVariants as causes
use Rattle.report.specs.declared.cause.Kind.TheVariants.{SinkBroke}
use Rattle.report.specs.Causes.{is_end, kind_of, may_replace}
use Rattle.master_run.specs.declared.ask.Ask.{Ask}
use Rattle.master_run.specs.Counts.{Counts}
use Rattle.master_run.specs.Prints.{is_no_memory}
use Rattle.master_run.specs.Words.{flow_name}

-- The cause is this one; where it is the end of what was asked for it may also be that its line wasn't taken.
abbrev pub IsCause : Cause → Cause → Type 0
IsCause expected cause = (cause ≡ expected) ⊎ (IsTrue (is_end (kind_of expected)) × (kind_of cause ≡ SinkBroke))

-- The cause is this one, but for a fault of the site and want of memory, which may come in its place.
abbrev pub Answers : Cause → Cause → Type 0
Answers expected cause = IsFalse (may_replace (kind_of cause)) → IsCause expected cause

-- The cause is this one where there is one, else this holds of it.
abbrev pub Yields : Option Cause → Cause → Type 0 → Type 0
Yields (Some refusal) cause rest = Answers refusal cause
Yields None cause rest = rest

-- the cause of what stands in the way of a run, a look or a cleaning
abbrev pub start_cause : StartFault → Cause
start_cause (faults.OtherFlow logged found) = causes.OtherFlow logged found
start_cause (faults.NotLegal at) = causes.NotLegal at
start_cause (faults.LogFull records) = causes.LogFull records
start_cause (faults.StoredAboveLimit stored limit) = causes.StoredAboveLimit stored limit
start_cause (faults.SourceMissing file) = causes.SourceMissing file
start_cause (faults.SourceTooLarge file size) = causes.SourceTooLarge file size
start_cause (faults.SourceChanged file logged found) = causes.SourceChanged file logged found
start_cause (faults.FileDamaged file logged found) = causes.FileDamaged file logged found
start_cause (faults.Site before after) = causes.SiteFault before after
start_cause faults.Memory = causes.Memory

-- why a log isn't printed: it is of another flow, or a record may not stand where it does
abbrev pub log_refusal : Plan → List Record → Option Cause
log_refusal P H = option_map start_cause (history_fault P H)

-- why a part isn't cleaned
abbrev pub clean_refusal : Plan → List Record → Option Cause
clean_refusal P H = option_map start_cause (clean_fault P H)

-- why a run doesn't start
abbrev pub run_refusal : Plan → RunOptions → List Record → Files → Option Cause
run_refusal P O H files = option_map start_cause (run_fault P O H files)

-- the cause of an end of a run; of the others there is none
abbrev pub end_cause : ℕ → Check → Cause
end_cause rules (check.Complete collected) = causes.Complete rules collected
end_cause rules (check.CommandFailed rule why) = causes.CommandFailed rule why
end_cause rules (check.InputsTooLarge rule total) = causes.InputsTooLarge rule total
end_cause rules (check.LogFull records) = causes.LogFull records
end_cause rules (check.NoRoom rule need stored limit) = causes.NoRoom rule need stored limit
end_cause rules (check.Waited wait) = causes.Waited wait
end_cause rules _ = causes.Memory

-- The cause is that of this end of a run, which is one that a run with these options may have.
abbrev pub EndsBy : Ask → Check → Cause → Type 0
EndsBy ask ended cause = IsRunEnd ask.options.limit ended × IsCause (end_cause (length ask.plan.rules) ended) cause

-- The cause is that of an end of a run with workers, which waited in vain only by its records and after so many looks for which nobody came, as many as this call made at most.
pub record EndsAway (E : Admitting) (ask : Ask) (rise : ℕ) (records : List Record) (cause : Cause) : Type 0 where
  pub ended : Check
  pub waiting : EndsWaiting E ask.plan ask.options ask.workers.limit rise records ended
  pub is_cause : IsCause (end_cause (length ask.plan.rules) ended) cause

-- A run came to its end: one without workers, by what the definition of an end answers over its records, or one with workers.
abbrev pub ComesToEnd : Admitting → Bool → Ask → ℕ → List Record → Cause → Type 0
ComesToEnd E false ask rise records cause = EndsBy ask (end_over ask.plan ask.options (before_end records) None) cause
ComesToEnd E true ask rise records cause = EndsAway E ask rise records cause

-- A run was stopped before its end: a file that it took in isn't what was logged, or there was a fault, or want of memory. The hall fails only where workers are asked for.
abbrev pub IsStop : Bool → Plan → List Record → Files → Cause → Type 0
IsStop wq P records after (causes.SourceChanged file logged found) = (is_source P file.0 ≡ true) × IsDamaged P records after file logged found
IsStop wq P records after (causes.FileDamaged file logged found) = (is_source P file.0 ≡ false) × IsDamaged P records after file logged found
IsStop wq P records after (causes.SiteFault old new) = Unit {0}
IsStop wq P records after (causes.RunnerFault old new) = Unit {0}
IsStop wq P records after (causes.HallFault old new) = IsTrue wq
IsStop wq P records after causes.Memory = Unit {0}
IsStop wq P records after _ = ⊥

-- A run came to its end, or was stopped before.
abbrev pub RunEnds : Admitting → Ask → ℕ → List Record → Files → Cause → Type 0
RunEnds E ask rise records after cause = ComesToEnd E ask.options.wq ask rise records cause ⊎ IsStop ask.options.wq ask.plan records after cause

-- how the call goes on over these records of the log, in which nobody came to the hall so often
abbrev pub GoesOn : Admitting → Work → Ask → ℕ → List Record → Files → Files → List Record → Cause → Type 0
GoesOn E works.Run ask rise H before after records cause = Yields (run_refusal ask.plan ask.options H before) cause (RunEnds E ask rise records after cause)
GoesOn E works.Clean ask rise H before after records cause = Yields (clean_refusal ask.plan H) cause (Answers (causes.Cleaned (made_count ask.plan H)) cause)
GoesOn E works.PrintLog ask rise H before after records cause = Yields (log_refusal ask.plan H) cause (Answers (causes.Printed (length (part H))) cause)

-- it is told that the log is damaged
abbrev pub IsLogDamaged : Cause → Type 0
IsLogDamaged cause = (at : ℕ) × (cause ≡ causes.LogDamaged at)

-- the log is damaged, here
abbrev pub IsDamagedAt : Option (List ℕ) → ℕ → Type 0
IsDamagedAt file at = (HasBadHeader file × (at ≡ 0)) ⊎ HasBadRecord file at

-- The log was read, or is damaged and that is told; or the site failed, or memory was wanting.
abbrev pub IsReadOr : Option (List ℕ) → Cause → Type 0
IsReadOr file cause = SpellsSome file ⊎ IsLogDamaged cause ⊎ IsTrue (may_replace (kind_of cause))

-- How the call ends that asks for this: the log is damaged, and that is told, or it goes on over the records that it spells.
pub record LogEnds (E : Admitting) (ask : Ask) (rise : ℕ) (before after : Files) (records : List Record) (cause : Cause) : Type 0 where
  pub damaged : (at : ℕ) → cause ≡ causes.LogDamaged at → IsDamagedAt (before ask.log) at
  pub read : IsReadOr (before ask.log) cause
  pub whole : (H : List Record) → Spells H (before ask.log) → GoesOn E ask.work ask rise H before after records cause

-- How a call ends of which this was asked, and in which nobody came to the hall so often: by the refusal, with all files as before, where one is owed.
abbrev pub CallEnds : Admitting → Result Ask Cause → ℕ → Files → Files → List Record → Cause → Type 0
CallEnds E (Err refusal) rise before after records cause = Answers refusal cause × (after ≡ before) × (records ≡ [])
CallEnds E (Ok ask) rise before after records cause = LogEnds E ask rise before after records cause

-- refused by the words alone
abbrev pub is_words_refusal : Cause → Bool
is_words_refusal causes.Usage = true
is_words_refusal _ = false

-- What is said of a flow has its name, and nothing is said of the words.
abbrev pub SaysOfFlow : List ℕ → Cause → Type 0
SaysOfFlow name (causes.FlowMissing missing) = missing ≡ name
SaysOfFlow name (causes.FlowRefused refused fault) = refused ≡ name
SaysOfFlow name cause = IsFalse (is_words_refusal cause)

-- Words that are refused are refused whatever the objects do, and no others are.
abbrev pub WordsEnd : Result Options Cause → Cause → Type 0
WordsEnd (Err refusal) cause = IsFalse (is_no_memory (kind_of cause)) → cause ≡ refusal
WordsEnd (Ok options) cause = SaysOfFlow (flow_name options.flow) cause

-- The two counts are those of before and after, and the second is greater.
abbrev pub Rose : ℕ → ℕ → ℕ → ℕ → Type 0
Rose told_before told_after before after = (told_before ≡ before) × (told_after ≡ after) × (before < after)

-- The two counts are those of one of the objects before and after, and the second is greater.
abbrev pub OneRose : ℕ → ℕ → List ℕ → List ℕ → Type 0
OneRose told_before told_after before after = (at : ℕ) × (slice_get before at ≡ Some told_before) × (slice_get after at ≡ Some told_after) × (told_before < told_after)

-- A fault is told only where that object's count rose in the call, and with both counts. Of the runners it is one whose count rose.
abbrev pub FaultEnd : Counts → Counts → Cause → Type 0
FaultEnd before after (causes.SiteFault old new) = Rose old new before.site after.site
FaultEnd before after (causes.RunnerFault old new) = OneRose old new before.runners after.runners
FaultEnd before after (causes.HallFault old new) = Rose old new before.hall after.hall
FaultEnd before after (causes.SinkFault old new) = Rose old new before.sink after.sink
FaultEnd before after cause = Unit {0}

-- counts of these numbers
abbrev pub counts : ℕ → List ℕ → ℕ → ℕ → ℕ → Counts
counts site runners hall idles sink = record { site = site; runners = runners; hall = hall; idles = idles; sink = sink }

-- how often nobody came to the hall from the one to the other
abbrev pub idle_rise : Counts → Counts → ℕ
idle_rise before after = after.idles - before.idles

-- Nothing failed, beside a hall: the counts stand.
pub record NoneRose (before after : Counts) : Type 0 where
  pub site : after.site ≡ before.site
  pub runners : after.runners ≡ before.runners
  pub sink : after.sink ≡ before.sink
