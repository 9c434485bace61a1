-- The parts of the top call's promise.
use Rattle.std.specs.Prelude.{◌≡◌, ◌≤◌, ◌<◌, ◌+◌, ◌⊎◌, ℕ, Bool, true, false, List, [], ◌∷◌, ◌++◌, Result, Ok, IsTrue, IsFalse}
use Rattle.std.specs.List.{list_all, list_any}
use Rattle.flow_types.specs.declared.plan.Plan.{Plan}
use Rattle.flow_types.specs.declared.numbers.FileNo.{FileNo}
use Rattle.flow_types.specs.declared.records.Record.{Record}
use Rattle.flow_types.specs.declared.records.Record.TheVariants as records
use Rattle.flow_types.specs.Plans.{is_kept, takers_of}
use Rattle.run_history.specs.declared.answers.Wait.{Wait}
use Rattle.run_history.specs.declared.moves.Move.{Move}
use Rattle.run_history.specs.declared.options.Options.{Options as RunOptions}
use Rattle.run_history.specs.Admissions.{Admitting, is_in_vain_by}
use Rattle.run_history.specs.Answers.{before_end}
use Rattle.run_history.specs.History.{since_opening}
use Rattle.run_history.specs.Links.{records_of}
use Rattle.run_history.specs.Spent.{SpentOnce}
use Rattle.run_history.specs.States.{limit_of}
use Rattle.run_history.specs.Storage.{is_complete, is_within, reserved, stored}
use Rattle.outside.specs.Files.{Files}
use Rattle.txn_log.specs.Spells.{Spells}
use Rattle.desk.specs.Kept.{IsLegal}
use Rattle.cleaning.specs.Cleanings.{AreGone, present_made}
use Rattle.local_run.specs.Ends.{failed_count}
use Rattle.local_run.specs.Runs.{BeginsWith}
use Rattle.report.specs.declared.cause.Cause.{Cause}
use Rattle.report.specs.declared.cause.Cause.TheVariants as causes
use Rattle.report.specs.declared.cause.Kind.{Kind}
use Rattle.report.specs.declared.cause.Kind.TheVariants.{Completed, RuleFailed, WrongWords, WrongFlow, PastLimit, RunnerBroke, WaitedOut}
use Rattle.report.specs.Causes.{may_replace, was_read}
use Rattle.master_run.specs.declared.ask.Ask.{Ask}

-- It holds of what was asked and of the records that the log spelled at the entry.
abbrev pub OfLog : Result Ask Cause → Files → (Ask → List Record → Type 0) → Type 0
OfLog asked files P = (ask : Ask) → asked ≡ Ok ask → (H : List Record) → Spells H (files ask.log) → P ask H

-- It is the plan of what was asked.
abbrev pub IsPlanOf : Result Ask Cause → Plan → Type 0
IsPlanOf asked P = (ask : Ask) × (asked ≡ Ok ask) × (ask.plan ≡ P)

-- The records begin with those of the log. Only where the site failed or memory was wanting there may be none, since the log wasn't read.
abbrev pub HasLog : List Record → List Record → Kind → Type 0
HasLog H all kind = BeginsWith H all ⊎ ((all ≡ []) × IsTrue (may_replace kind))

-- The records may stand in a log of the plan. Only where the site failed or memory was wanting they may be those of the log, whatever these are, or none.
abbrev pub IsLegalOr : Plan → List Record → List Record → Kind → Type 0
IsLegalOr P H all kind = IsLegal P all ⊎ (((all ≡ H) ⊎ (all ≡ [])) × IsFalse (was_read kind))

-- a rule was started
abbrev pub is_started : Record → Bool
is_started (records.Started moment rule attempt link) = true
is_started _ = false

-- None of the records that were added starts a rule.
abbrev pub StartsNone : List Record → List Record → Type 0
StartsNone H all = (more : List Record) × (all ≡ H ++ more) × (list_any is_started more ≡ false)

-- Each attempt of this call is closed once: it began none, or each of those since the last opening is closed once.
abbrev pub IsSpentBy : List Record → List Record → Type 0
IsSpentBy H all = StartsNone H all ⊎ SpentOnce (since_opening all)

-- refused before the log was read: by the words or the flow
abbrev pub is_early : Kind → Bool
is_early WrongWords = true
is_early WrongFlow = true
is_early _ = false

-- the end of a run that was started, whatever the site tells
abbrev pub is_run_end : Kind → Bool
is_run_end Completed = true
is_run_end RuleFailed = true
is_run_end PastLimit = true
is_run_end RunnerBroke = true
is_run_end WaitedOut = true
is_run_end _ = false

-- The count of failed commands never falls, and it rose where a call ends by one.
pub record FailureEnd (before after : ℕ) (kind : Kind) : Type 0 where
  pub later : before ≤ after
  pub rose : kind ≡ RuleFailed → before < after

-- Of the commands that failed in this call each is logged by one record.
abbrev pub LogsFailed : List Record → List Record → ℕ → ℕ → Type 0
LogsFailed H all before after = failed_count all + before ≡ failed_count H + after

-- What is stored and reserved by the records is within the limit of their last opening.
abbrev pub IsWithinLimit : Plan → List Record → Type 0
IsWithinLimit P H = IsTrue (is_within (stored P H + reserved P H) (limit_of H))

-- The records are these and more. A file that a drop among those names is no kept one, and each rule that takes it in is complete by the records before the drop.
pub record DropsUnneeded (P : Plan) (H all : List Record) : Type 0 where
  pub more : List Record
  pub are : all ≡ H ++ more
  pub each : (before after : List Record) (moment : ℕ) (f : FileNo) → more ≡ before ++ (records.Dropped moment f ∷ after)
      → IsFalse (is_kept P f.0) × IsTrue (list_all (is_complete (H ++ before)) (takers_of P f.0))

-- Behind a cleaning none of the made files is there that were present by the records.
abbrev pub IsCleanedBy : Plan → List Record → Files → Cause → Type 0
IsCleanedBy P H files (causes.Cleaned removed) = AreGone P (present_made P H) files
IsCleanedBy P H files _ = Unit {0}

-- what runs the commands failed
abbrev pub is_runner_fault : Kind → Bool
is_runner_fault RunnerBroke = true
is_runner_fault _ = false

-- the call ended since nobody came
abbrev pub is_waited : Kind → Bool
is_waited WaitedOut = true
is_waited _ = false

-- It waited in vain: workers were asked for, nobody came so often, which is at least the limit and at most as often as in this call, and by the records before the end and some moves of links no attempt ran, no file was wanted, and some ready rule that was admitted fitted the storage but none that did fitted a live link that it may run on.
pub record WaitsInVain (E : Admitting) (P : Plan) (O : RunOptions) (limit rise : ℕ) (records : List Record) (wait : Wait) : Type 0 where
  pub asked : IsTrue O.wq
  pub least : limit ≤ wait.idles
  pub most : wait.idles ≤ rise
  pub moves : List Move
  pub logged : records_of moves ≡ before_end records
  pub vain : IsTrue (is_in_vain_by E P O moves)

-- where the cause is a wait this holds of it
abbrev pub IfWaited : Cause → (Wait → Type 0) → Type 0
IfWaited (causes.Waited wait) fact = fact wait
IfWaited cause fact = Unit {0}
