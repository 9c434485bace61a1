-- What a run with workers comes to over sure links, from call to call.
use Rattle.std.proofs.Common.{◌≡◌, ◌<◌, ◌∙◌, ℕ, List, [], Option, Result, Ok, Err, refl, sym, subst, arith, true≢false}
use Rattle.std.specs.Prelude.{OnOk}
use Rattle.std.proofs.lemmas.List.{append-nil}
use Rattle.flow_types.specs.declared.plan.Plan.{Plan}
use Rattle.flow_types.specs.declared.job.Job.{Job}
use Rattle.flow_types.specs.declared.records.Record.{Record}
use Rattle.flow_types.specs.Serial.{Function, serial}
use Rattle.run_history.specs.declared.answers.Check.{Check}
use Rattle.run_history.specs.declared.answers.Check.TheVariants as check
use Rattle.outside.specs.Disk.{Outcomes, Within}
use Rattle.outside.specs.Files.{Files}
use Rattle.txn_log.specs.Spells.{Spells}
use Rattle.log_recover.specs.Laws.{HasAHeader, IsWhole}
use Rattle.log_recover.specs.declared.fault.RecoverFault.{RecoverFault}
use Rattle.log_recover.specs.declared.fault.RecoverFault.TheVariants as recovery
use Rattle.local_run.specs.declared.ended.Stopped.{Stopped}
use Rattle.local_run.specs.Ends.{IsDone}
use Rattle.local_run.specs.Moments.{IsUnread}
use Rattle.local_run.specs.Runs.{IsRefusedRun, SerialFits, read_sources}
use Rattle.wq_run.specs.Calm.{GoesWell}
use Rattle.flow_run.specs.Reached.{IsDoneAway}
use Rattle.report.specs.declared.cause.Cause.{Cause}
use Rattle.report.specs.declared.cause.Cause.TheVariants as causes
use Rattle.report.specs.Causes.{kind_of}
use Rattle.master_run.specs.declared.ask.Ask.{Ask}
use Rattle.master_run.specs.declared.rises.Rise.{Rise}
use Rattle.master_run.specs.declared.asking.Refusal.{Refusal}
use Rattle.master_run.specs.declared.asking.Refusal.TheVariants as refusals
use Rattle.master_run.specs.Counts.{Counts}
use Rattle.master_run.specs.Ends.{NoneRose, counts}
use Rattle.master_run.specs.Reaching.{GoesSurely, IsFree, Reaches}
use Rattle.master_run.specs.Runs.{refusal_cause, run_cause, unread_cause}
use Rattle.master_run.specs.Serves.{Completes}
use Rattle.master_run.specs.Stages.{Stage}
use Rattle.master_run.proofs.Counted.{site_rise}
use Rattle.master_run.proofs.Ran.{done_run, lost_run}
use Rattle.master_run.proofs.Reading.{resumable_from}
use Rattle.master_run.proofs.Refusals.{no_ask}
use Rattle.master_run.proofs.Reprinted.{Stands, end_loses, of_each}
use Rattle.master_run.proofs.Widened.{tells_less}

-- ---- causes

-- what is complete is reached
completes_reaches : (limit : Option ℕ) (cause : Cause) → Completes limit cause → Reaches limit cause
completes_reaches limit (causes.Waited wait) done = tt
completes_reaches limit _ done = done

reached_run : (s r h : Rise) (P : Plan) (most : Option ℕ) (how : Result Check Stopped) → IsDoneAway most how → Reaches most (run_cause s r h P how)
reached_run s r h P most (Ok (check.Complete collected)) done = completes_reaches most (run_cause s r h P (Ok (check.Complete collected))) (done_run s r h P most (Ok (check.Complete collected)) done)
reached_run s r h P most (Ok (check.CommandFailed rule why)) done = absurd done
reached_run s r h P most (Ok (check.InputsTooLarge rule total)) done = absurd done
reached_run s r h P most (Ok (check.LogFull count)) done = absurd done
reached_run s r h P most (Ok check.Going) done = absurd done
reached_run s r h P most (Ok check.Halted) done = absurd done
reached_run s r h P most (Ok (check.NoRoom rule need bytes limit)) done = completes_reaches most (run_cause s r h P (Ok (check.NoRoom rule need bytes limit))) (done_run s r h P most (Ok (check.NoRoom rule need bytes limit)) done)
reached_run s r h P most (Ok (check.Waited wait)) done = tt
reached_run s r h P most (Err why) done = completes_reaches most (run_cause s r h P (Err why)) (done_run s r h P most (Err why) done)

-- nothing was added
well_none : (H all : List Record) → all ≡ H → GoesWell H all
well_none H all same = record { more = []; are = same ∙ sym (append-nil H); none = refl }

module _ (gives : Function) (told : Job → Type 0) (manned : Type 0) (ask : Ask) (files : Files) (outcomes : Outcomes) (H : List Record) (before after : Counts) (records : List Record) where
  abbrev Goes : Cause → Type 0
  Goes cause = GoesSurely gives told manned ask files outcomes H before after records cause

  -- memory was wanting
  pub goes_memory : Goes causes.Memory
  goes_memory = record {
    well = λ keeps. absurd (true≢false keeps);
    reached = λ free. refl;
    manned = λ is free. refl;
  }

  -- the site failed
  goes_site : before.site < after.site → Goes (causes.SiteFault before.site after.site)
  goes_site rose = record {
    well = λ keeps. absurd (true≢false keeps);
    reached = λ free. (let stood = free.stood.site in let wrong : ⊥ = omega (arith, rose, stood) in absurd wrong);
    manned = λ is free. (let stood = free.stood.site in let wrong : ⊥ = omega (arith, rose, stood) in absurd wrong);
  }

  -- the log wasn't read, though it spells records
  pub goes_unread : (header : HasAHeader) (whole : IsWhole) (file : Option (List ℕ)) (why : RecoverFault) → Spells H file → IsUnread file why → (why ≡ recovery.Site → before.site < after.site) → Goes (unread_cause (site_rise before after) why)
  goes_unread header whole file recovery.Site spelled is rose = goes_site (rose refl)
  goes_unread header whole file recovery.BadHeader spelled is rose = absurd (header H file spelled is)
  goes_unread header whole file (recovery.BadRecord at) spelled is rose = absurd (whole H file at spelled is)
  goes_unread header whole file recovery.Memory spelled is rose = goes_memory

  -- nothing was asked for, though the words and the flow ask for something
  pub goes_refused : (refusal : Refusal) (asked : Result Ask Cause) → Stage {T = Ask} asked (Err refusal) → asked ≡ Ok ask → (refusal ≡ refusals.Site → before.site < after.site) → Goes (refusal_cause (site_rise before after) refusal)
  goes_refused (refusals.Said cause) asked stage is rose = no_ask cause ask (sym stage ∙ is)
  goes_refused refusals.Site asked stage is rose = goes_site (rose refl)
  goes_refused refusals.Memory asked stage is rose = goes_memory

  -- of a run
  pub goes_ran : (s r h : Rise) (how : Result Check Stopped) → (IsRefusedRun how → records ≡ H) → OnOk how (GoesWell H records) → (IsFree gives told ask files outcomes H before after → IsDoneAway ask.options.limit how)
      → (manned → IsFree gives told ask files outcomes H before after → IsDone ask.options.limit how) → Goes (run_cause s r h ask.plan how)
  goes_ran s r h how same well reached done = record {
    well = λ keeps. lost_run (GoesWell H records) s r h ask.plan how (λ refused. well_none H records (same refused)) well keeps;
    reached = λ free. reached_run s r h ask.plan ask.options.limit how (reached free);
    manned = λ is free. done_run s r h ask.plan ask.options.limit how (done is free);
  }

-- With more runners, where nothing rose of those of fewer.
pub goes_widened : (gives : Function) (told wide : Job → Type 0) (manned : Type 0) (ask : Ask) (files : Files) (outcomes : Outcomes) (H : List Record) (b a wb wa : Counts) (records : List Record) (cause : Cause) → ((job : Job) → wide job → told job) → (NoneRose wb wa → NoneRose b a)
    → GoesSurely gives told manned ask files outcomes H b a records cause → GoesSurely gives wide manned ask files outcomes H wb wa records cause
goes_widened gives told wide manned ask files outcomes H b a wb wa records cause each none goes = record {
  well = goes.well;
  reached = λ free. goes.reached (less free);
  manned = λ is free. goes.manned is (less free);
}
  where
    less : IsFree gives wide ask files outcomes H wb wa → IsFree gives told ask files outcomes H b a
    less free = record {
      resumable = free.resumable;
      free = free.free;
      fit = free.fit;
      room = free.room;
      jobs = tells_less ask.plan ask.options told wide (serial ask.plan gives (read_sources ask.plan files)) each free.jobs;
      stood = none free.stood;
    }

-- From the entry on, where the flow was read since.
pub goes_from : (gives : Function) (told : Job → Type 0) (manned : Type 0) (ask : Ask) (old mid : Files) (outcomes then : Outcomes) (H : List Record) (before after : Counts) (records : List Record) (cause : Cause) → mid ≡ old → Within outcomes then
    → GoesSurely gives told manned ask mid then H before after records cause → GoesSurely gives told manned ask old outcomes H before after records cause
goes_from gives told manned ask old mid outcomes then H before after records cause same within goes = record {
  well = goes.well;
  reached = λ free. at_entry.reached (less free);
  manned = λ is free. at_entry.manned is (less free);
}
  where
    at_entry : GoesSurely gives told manned ask old then H before after records cause
    at_entry = subst (λ (fs : Files). GoesSurely gives told manned ask fs then H before after records cause) same goes

    less : IsFree gives told ask old outcomes H before after → IsFree gives told ask old then H before after
    less free = record {
      resumable = resumable_from (SerialFits gives (read_sources ask.plan old)) ask.plan ask.log H outcomes then within free.resumable;
      free = free.free;
      fit = free.fit;
      room = free.room;
      jobs = free.jobs;
      stood = free.stood;
    }

-- Once the text was printed.
pub goes_printed : (gives : Function) (told : Job → Type 0) (manned : Type 0) (ask : Ask) (files : Files) (outcomes : Outcomes) (H : List Record) (sb : ℕ) (rb : List ℕ) (hb ib b sa : ℕ) (ra : List ℕ) (ha ia a : ℕ) (records : List Record) (cause now : Cause) → Stands b a cause now
    → GoesSurely gives told manned ask files outcomes H (counts sb rb hb ib 0) (counts sa ra ha ia 0) records cause → GoesSurely gives told manned ask files outcomes H (counts sb rb hb ib b) (counts sa ra ha ia a) records now
goes_printed gives told manned ask files outcomes H sb rb hb ib b sa ra ha ia a records cause now stood goes =
    of_each (λ (c : Cause). GoesSurely gives told manned ask files outcomes H (counts sb rb hb ib b) (counts sa ra ha ia a) records c) b a cause now stood
    (goes_widened gives told told manned ask files outcomes H (counts sb rb hb ib 0) (counts sa ra ha ia 0) (counts sb rb hb ib b) (counts sa ra ha ia a) records cause (λ job is. is) (λ none. record { site = none.site; runners = none.runners; sink = refl }) goes)
    (λ rose is. record {
      well = λ keeps. goes.well (end_loses (kind_of cause) is);
      reached = λ free. (let stays = free.stood.sink in let wrong : ⊥ = omega (arith, rose, stays) in absurd wrong);
      manned = λ one free. (let stays = free.stood.sink in let wrong : ⊥ = omega (arith, rose, stays) in absurd wrong);
    })
    (goes_memory gives told manned ask files outcomes H (counts sb rb hb ib b) (counts sa ra ha ia a) records)
