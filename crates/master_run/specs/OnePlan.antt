-- What a call says whether or not its objects tell anything, all of it by one plan.
use Rattle.std.specs.Prelude.{◌≡◌, ◌⊎◌, ◌-◌, ℕ, Bool, true, false, List, Option, Result, Ok, IsTrue, IsFalse, length}
use Rattle.flow_types.specs.declared.job.Failure.{Failure}
use Rattle.flow_types.specs.declared.job.Job.{Job}
use Rattle.flow_types.specs.declared.numbers.LinkNo.{LinkNo}
use Rattle.flow_types.specs.declared.plan.Plan.{Plan}
use Rattle.flow_types.specs.declared.records.Record.{Record}
use Rattle.flow_types.specs.Serial.{Function}
use Rattle.run_history.specs.Admissions.{Admitting}
use Rattle.run_history.specs.Answers.{before_end}
use Rattle.run_history.specs.History.{since_opening}
use Rattle.run_history.specs.Spent.{SpentOnce}
use Rattle.outside.specs.Files.{Files}
use Rattle.txn_log.specs.Spells.{Spells}
use Rattle.desk.specs.Admitted.{AreAdmitted}
use Rattle.desk.specs.Kept.{IsLegal}
use Rattle.links.specs.declared.passing.Passed.{Passed}
use Rattle.local_run.specs.Collecting.{CollectsBy, RunCollects}
use Rattle.local_run.specs.Ends.{OpensBy}
use Rattle.local_run.specs.Runs.{LosesNone}
use Rattle.command_words.specs.declared.options.Options.{Options}
use Rattle.command_words.specs.declared.options.Work.TheVariants.{Run}
use Rattle.wq_run.specs.Ends.{LosesOnLinks}
use Rattle.wq_run.specs.Losses.{AreDueLosses}
use Rattle.wq_run.specs.Vain.{AreVain}
use Rattle.flow_run.specs.Places.{PlacedBy}
use Rattle.report.specs.declared.cause.Cause.{Cause}
use Rattle.report.specs.declared.cause.Cause.TheVariants as causes
use Rattle.report.specs.declared.cause.Kind.{Kind}
use Rattle.report.specs.declared.cause.Kind.TheVariants.{Completed, RuleFailed, PastLimit, WaitedOut}
use Rattle.report.specs.Causes.{kind_of, was_read}
use Rattle.master_run.specs.declared.ask.Ask.{Ask}
use Rattle.master_run.specs.Added.{RunAddsBy}
use Rattle.master_run.specs.Asked.{ask_of, run_mode, run_options}
use Rattle.master_run.specs.Ends.{ComesToEnd}
use Rattle.master_run.specs.Headline.{IfWaited, IsWithinLimit, WaitsInVain, is_run_end}
use Rattle.master_run.specs.Objects.{CommandWords, HallWords}

-- what a run answers that came to its end
abbrev pub is_answer : Kind → Bool
is_answer Completed = true
is_answer RuleFailed = true
is_answer PastLimit = true
is_answer WaitedOut = true
is_answer _ = false

-- by such a cause attempts may have been given up
abbrev pub may_give_up : Cause → Bool
may_give_up (causes.SourceChanged file logged found) = true
may_give_up (causes.FileDamaged file logged found) = true
may_give_up (causes.SiteFault before after) = true
may_give_up (causes.RunnerFault before after) = true
may_give_up (causes.HallFault before after) = true
may_give_up causes.Memory = true
may_give_up _ = false

-- The log of what was asked spells these records.
abbrev pub AreLogged : Result Ask Cause → Files → List Record → Type 0
AreLogged asked files past = (ask : Ask) → asked ≡ Ok ask → Spells past (files ask.log)

-- where the cause is a fault of the hall this holds
abbrev pub IfHallFault : Cause → Type 0 → Type 0
IfHallFault (causes.HallFault before after) fact = fact
IfHallFault cause fact = Unit {0}

-- What a call that was asked to run leaves: some records stood, and behind them stands what a run adds that ended by this cause. Each attempt is started where its rule may run, and of a rule that was admitted in the records before it, files are dropped as the mode says, and attempts are given up only as they may be. A cause that the run answered is that of its end. Where workers are asked for the hall listens, or nothing was added; where it failed nothing was added, or each attempt is closed once, behind an opening by the options, and files were collected as the mode says.
pub record RunLeaves {L : Type 0} (spells : List Record → Type 0) (told listens : Type 0) (gives : Function) (may_fail : Job → Failure → Type 0) (history : L → List Passed) (count idles : L → ℕ) (closed : L → Bool)
    (E : Admitting) (ask : Ask) (rise : ℕ) (got got_now : List (Option LinkNo × L)) (records : List Record) (cause : Cause) : Type 0 where
  pub past : List Record
  pub spelled : IsTrue (was_read (kind_of cause)) → spells past
  pub added : RunAddsBy ask.options past records cause
  pub places : PlacedBy ask.plan ask.options past records
  pub admitted : AreAdmitted E ask.plan ask.options records (length past)
  pub modes : CollectsBy ask.plan ask.options.mode past records
  pub lost : ask.options.wq ≡ false → IsFalse (may_give_up cause) → LosesNone past records
  pub lost_away : IsFalse (may_give_up cause) → LosesOnLinks past records
  pub due_losses : told → IsFalse (may_give_up cause) → AreDueLosses gives may_fail history count idles closed ask.workers.limit got got_now past records
  pub ended : IsTrue (is_answer (kind_of cause)) → ComesToEnd E ask.options.wq ask rise records cause
  pub heard : ask.options.wq ≡ true → listens ⊎ (records ≡ past)
  pub failed : IfHallFault cause ((records ≡ past) ⊎ (SpentOnce (since_opening records) × OpensBy ask.options records × RunCollects ask.plan ask.options.mode records))

-- What a call says by the words and one plan, which is the one that was read: its records may stand in a log of it and keep the limit, and a run leaves what it may, opens and collects by the words, and waits only in vain.
pub record CallTells {B L : Type 0} (F : CommandWords) (H : HallWords B L) (E : Admitting) (is_read : Plan → Type 0) (spells : List Record → Type 0)
    (chosen : Result Options Cause) (hall hall_now : B) (records : List Record) (cause : Cause) : Type 0 where
  pub plan : Plan
  pub read : IsTrue (was_read (kind_of cause)) → is_read plan
  pub legal : IsTrue (was_read (kind_of cause)) → IsLegal plan records
  pub storage : IsTrue (was_read (kind_of cause)) → IsWithinLimit plan records
  pub leaves : (options : Options) → chosen ≡ Ok options → options.work ≡ Run
      → RunLeaves spells H.Way.tells (H.listens hall_now) F.gives F.may_fail H.Way.history H.Way.count H.Way.idle_count H.Way.is_closed
      E (ask_of options plan) (H.idle_count hall_now - H.idle_count hall) (H.got hall) (H.got hall_now) records cause
  pub opened : (options : Options) → chosen ≡ Ok options → IsTrue (is_run_end (kind_of cause)) → OpensBy (run_options options) records
  pub collects : (options : Options) → chosen ≡ Ok options → IsTrue (is_run_end (kind_of cause)) → RunCollects plan (run_mode options.mode) records
  pub waited : (options : Options) → chosen ≡ Ok options
      → IfWaited cause (WaitsInVain E plan (run_options options) options.limits.idle (H.idle_count hall_now - H.idle_count hall) records)
  pub vain : H.Way.tells → (options : Options) → chosen ≡ Ok options
      → IfWaited cause (λ wait. AreVain F.gives F.may_fail H.Way.history H.Way.count H.Way.idle_count H.Way.is_closed
      options.limits.idle E plan (run_options options) (before_end records) (H.got hall) (H.got hall_now))
