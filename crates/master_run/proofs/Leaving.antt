-- What a call leaves that was asked to run, whatever its objects tell.
use Rattle.std.proofs.Common.{◌≡◌, ◌⊎◌, ⊎_elim, inl, inr, ◌∙◌, ℕ, length, Bool, true, false, List, [], Option, None, Result, Ok, Err, IfOk, OnOk, refl, sym, true≢false, if◌then◌else◌}
use Rattle.flow_types.specs.declared.job.Failure.{Failure}
use Rattle.flow_types.specs.declared.job.Job.{Job}
use Rattle.flow_types.specs.declared.numbers.Content.{Content}
use Rattle.flow_types.specs.declared.numbers.FileNo.{FileNo}
use Rattle.flow_types.specs.declared.numbers.LinkNo.{LinkNo}
use Rattle.flow_types.specs.declared.plan.Plan.{Plan}
use Rattle.flow_types.specs.declared.records.Record.{Record}
use Rattle.flow_types.specs.Plans.{is_source}
use Rattle.flow_types.specs.Serial.{Function}
use Rattle.run_history.specs.Admissions.{Admitting}
use Rattle.run_history.specs.declared.answers.Check.{Check}
use Rattle.run_history.specs.declared.answers.Check.TheVariants as check
use Rattle.run_history.specs.declared.options.Options.{Options as RunOptions}
use Rattle.run_history.specs.declared.states.Found.{Found}
use Rattle.run_history.specs.Answers.{before_end, end_over}
use Rattle.run_history.specs.History.{since_opening}
use Rattle.run_history.specs.Spent.{SpentOnce}
use Rattle.log_recover.specs.declared.fault.RecoverFault.{RecoverFault}
use Rattle.log_recover.specs.declared.fault.RecoverFault.TheVariants as recovery
use Rattle.outside.specs.declared.fault.Fault.TheVariants as devices
use Rattle.desk.specs.declared.answers.StartFault.{StartFault}
use Rattle.desk.specs.declared.answers.StartFault.TheVariants as faults
use Rattle.links.specs.declared.passing.Passed.{Passed}
use Rattle.local_run.specs.declared.halt.Halt.TheVariants as halts
use Rattle.local_run.specs.declared.ended.Stopped.{Stopped}
use Rattle.local_run.specs.declared.ended.Stopped.TheVariants as stopped
use Rattle.local_run.specs.Collecting.{RunCollects}
use Rattle.local_run.specs.Ends.{IsRunEnd, OpensBy}
use Rattle.local_run.specs.Runs.{IsClosedRun, IsHallEnd, IsRefusedRun, LosesNone}
use Rattle.wq_run.specs.Ends.{EndsWaiting, LosesOnLinks}
use Rattle.wq_run.specs.Losses.{AreDueLosses}
use Rattle.flow_run.specs.Overs.{RunsOver}
use Rattle.flow_run.proofs.Dues.{due_none}
use Rattle.flow_run.proofs.Losses.{away_none}
use Rattle.flow_run.proofs.Placed.{admitted_none, placed_none}
use Rattle.command_words.specs.declared.options.Work.TheVariants as works
use Rattle.report.specs.declared.cause.Cause.{Cause}
use Rattle.report.specs.declared.cause.Cause.TheVariants as causes
use Rattle.report.specs.Causes.{is_end, kind_of, was_read}
use Rattle.master_run.specs.declared.ask.Ask.{Ask}
use Rattle.master_run.specs.declared.asking.Refusal.{Refusal}
use Rattle.master_run.specs.declared.asking.Refusal.TheVariants as refusals
use Rattle.master_run.specs.declared.rises.Rise.{Rise}
use Rattle.master_run.specs.Added.{RunAddsBy}
use Rattle.master_run.specs.Ends.{ComesToEnd, end_cause}
use Rattle.master_run.specs.OnePlan.{IfHallFault, RunLeaves, is_answer, may_give_up}
use Rattle.master_run.specs.Runs.{refusal_cause, refused_cause, run_cause, unread_cause}
use Rattle.master_run.specs.Stages.{SaysRefusal, is_refusal}
use Rattle.master_run.proofs.Adding.{memory_adds, run_adds, sink_adds}
use Rattle.master_run.proofs.Faults.{collects_none}
use Rattle.master_run.proofs.Ran.{closed_starts, comes, loses_none}
use Rattle.master_run.proofs.Reprinted.{Stands, end_read, of_each}

absent : {A : Type 0} → false ≡ true → A
absent wrong = absurd (true≢false (sym wrong))

-- ---- the answers of ends

no_damage : {A : Type 0} (source : Bool) (file : FileNo) (logged : Content) (found : Found) → is_answer (kind_of (if source then causes.SourceChanged file logged found else causes.FileDamaged file logged found)) ≡ true → A
no_damage true file logged found wrong = absent wrong
no_damage false file logged found wrong = absent wrong

no_refused : {A : Type 0} (s : Rise) (why : StartFault) → is_answer (kind_of (refused_cause s why)) ≡ true → A
no_refused s (faults.OtherFlow logged found) wrong = absent wrong
no_refused s (faults.NotLegal at) wrong = absent wrong
no_refused s (faults.LogFull records) wrong = absent wrong
no_refused s (faults.StoredAboveLimit bytes limit) wrong = absent wrong
no_refused s (faults.SourceMissing file) wrong = absent wrong
no_refused s (faults.SourceTooLarge file size) wrong = absent wrong
no_refused s (faults.SourceChanged file logged found) wrong = absent wrong
no_refused s (faults.FileDamaged file logged found) wrong = absent wrong
no_refused s (faults.Site old new) wrong = absent wrong
no_refused s faults.Memory wrong = absent wrong

-- a cause that a run answered is that of its end
answered : (E : Admitting) (s r h : Rise) (ask : Ask) (rise : ℕ) (records : List Record) (how : Result Check Stopped) → (ask.options.wq ≡ false → IfOk how (IsRunEnd ask.options.limit)) → (ask.options.wq ≡ false → IfOk how (λ ended. ended ≡ end_over ask.plan ask.options (before_end records) None))
    → (ask.options.wq ≡ true → IfOk how (EndsWaiting E ask.plan ask.options ask.workers.limit rise records)) → is_answer (kind_of (run_cause s r h ask.plan how)) ≡ true → ComesToEnd E ask.options.wq ask rise records (run_cause s r h ask.plan how)
answered E s r h ask rise records (Ok ended) closed ends away is = comes E ask.options.wq ask rise records ended closed ends away
answered E s r h ask rise records (Err (stopped.Refused why)) closed ends away is = no_refused s why is
answered E s r h ask rise records (Err (stopped.Halted (halts.Damaged file logged found))) closed ends away is = no_damage (is_source ask.plan file.0) file logged found is
answered E s r h ask rise records (Err (stopped.Halted halts.Runner)) closed ends away is = absent is
answered E s r h ask rise records (Err (stopped.Halted halts.Site)) closed ends away is = absent is
answered E s r h ask rise records (Err (stopped.Halted halts.Memory)) closed ends away is = absent is
answered E s r h ask rise records (Err stopped.Hall) closed ends away is = absent is
answered E s r h ask rise records (Err (stopped.Unheard devices.Failed)) closed ends away is = absent is
answered E s r h ask rise records (Err (stopped.Unheard devices.Memory)) closed ends away is = absent is
answered E s r h ask rise records (Err (stopped.Unopened devices.Failed)) closed ends away is = absent is
answered E s r h ask rise records (Err (stopped.Unopened devices.Memory)) closed ends away is = absent is

-- ---- the losses

damage_gives : (source : Bool) (file : FileNo) (logged : Content) (found : Found) → may_give_up (if source then causes.SourceChanged file logged found else causes.FileDamaged file logged found) ≡ true
damage_gives true file logged found = refl
damage_gives false file logged found = refl

-- what holds where a run was refused and where it came to its end
kept_run : (Q : Type 0) (s r h : Rise) (P : Plan) (how : Result Check Stopped) → (IsRefusedRun how → Q) → OnOk how Q → may_give_up (run_cause s r h P how) ≡ false → Q
kept_run Q s r h P (Ok ended) refused lost keeps = lost
kept_run Q s r h P (Err (stopped.Refused why)) refused lost keeps = refused tt
kept_run Q s r h P (Err (stopped.Halted (halts.Damaged file logged found))) refused lost keeps = absurd (true≢false (sym (damage_gives (is_source P file.0) file logged found) ∙ keeps))
kept_run Q s r h P (Err (stopped.Halted halts.Runner)) refused lost keeps = absurd (true≢false keeps)
kept_run Q s r h P (Err (stopped.Halted halts.Site)) refused lost keeps = absurd (true≢false keeps)
kept_run Q s r h P (Err (stopped.Halted halts.Memory)) refused lost keeps = absurd (true≢false keeps)
kept_run Q s r h P (Err stopped.Hall) refused lost keeps = absurd (true≢false keeps)
kept_run Q s r h P (Err (stopped.Unheard fault)) refused lost keeps = refused tt
kept_run Q s r h P (Err (stopped.Unopened fault)) refused lost keeps = refused tt

-- by the end of what was asked for none was given up
end_keeps : (cause : Cause) → is_end (kind_of cause) ≡ true → may_give_up cause ≡ false
end_keeps (causes.SourceChanged file logged found) is = absent is
end_keeps (causes.FileDamaged file logged found) is = absent is
end_keeps (causes.SiteFault old new) is = absent is
end_keeps (causes.RunnerFault old new) is = absent is
end_keeps (causes.HallFault old new) is = absent is
end_keeps causes.Memory is = absent is
end_keeps _ is = refl

-- ---- a hall that fails

-- a run is started or isn't
started_or_not : (how : Result Check Stopped) → IsRefusedRun how ⊎ (IsRefusedRun how → ⊥)
started_or_not (Ok ended) = inr (λ refused. refused)
started_or_not (Err (stopped.Refused why)) = inl tt
started_or_not (Err (stopped.Halted halt)) = inr (λ refused. refused)
started_or_not (Err stopped.Hall) = inr (λ refused. refused)
started_or_not (Err (stopped.Unheard fault)) = inl tt
started_or_not (Err (stopped.Unopened fault)) = inl tt

-- a run that its hall ends wasn't started, or stopped in no append
hall_ends : (how : Result Check Stopped) → IsHallEnd how → IsRefusedRun how ⊎ IsClosedRun how
hall_ends (Ok ended) is = absurd is
hall_ends (Err (stopped.Refused why)) is = absurd is
hall_ends (Err (stopped.Halted halt)) is = absurd is
hall_ends (Err stopped.Hall) is = inr tt
hall_ends (Err (stopped.Unheard fault)) is = inl tt
hall_ends (Err (stopped.Unopened fault)) is = absurd is

refused_hall : (fact : Type 0) (s : Rise) (why : StartFault) → IfHallFault (refused_cause s why) fact
refused_hall fact s (faults.OtherFlow logged found) = tt
refused_hall fact s (faults.NotLegal at) = tt
refused_hall fact s (faults.LogFull records) = tt
refused_hall fact s (faults.StoredAboveLimit bytes limit) = tt
refused_hall fact s (faults.SourceMissing file) = tt
refused_hall fact s (faults.SourceTooLarge file size) = tt
refused_hall fact s (faults.SourceChanged file logged found) = tt
refused_hall fact s (faults.FileDamaged file logged found) = tt
refused_hall fact s (faults.Site old new) = tt
refused_hall fact s faults.Memory = tt

damage_hall : (fact : Type 0) (source : Bool) (file : FileNo) (logged : Content) (found : Found) → IfHallFault (if source then causes.SourceChanged file logged found else causes.FileDamaged file logged found) fact
damage_hall fact true file logged found = tt
damage_hall fact false file logged found = tt

end_hall : (fact : Type 0) (rules : ℕ) (ended : Check) → IfHallFault (end_cause rules ended) fact
end_hall fact rules (check.Complete collected) = tt
end_hall fact rules (check.CommandFailed rule why) = tt
end_hall fact rules (check.InputsTooLarge rule total) = tt
end_hall fact rules (check.LogFull records) = tt
end_hall fact rules (check.NoRoom rule need bytes limit) = tt
end_hall fact rules (check.Waited wait) = tt
end_hall fact rules check.Going = tt
end_hall fact rules check.Halted = tt

-- the cause is a fault of the hall only where that ended the run
hall_run : (fact : Type 0) (s r h : Rise) (P : Plan) (how : Result Check Stopped) → (IsHallEnd how → fact) → IfHallFault (run_cause s r h P how) fact
hall_run fact s r h P (Ok ended) of_hall = end_hall fact (length P.rules) ended
hall_run fact s r h P (Err (stopped.Refused why)) of_hall = refused_hall fact s why
hall_run fact s r h P (Err (stopped.Halted (halts.Damaged file logged found))) of_hall = damage_hall fact (is_source P file.0) file logged found
hall_run fact s r h P (Err (stopped.Halted halts.Runner)) of_hall = tt
hall_run fact s r h P (Err (stopped.Halted halts.Site)) of_hall = tt
hall_run fact s r h P (Err (stopped.Halted halts.Memory)) of_hall = tt
hall_run fact s r h P (Err stopped.Hall) of_hall = of_hall tt
hall_run fact s r h P (Err (stopped.Unheard devices.Failed)) of_hall = of_hall tt
hall_run fact s r h P (Err (stopped.Unheard devices.Memory)) of_hall = tt
hall_run fact s r h P (Err (stopped.Unopened devices.Failed)) of_hall = tt
hall_run fact s r h P (Err (stopped.Unopened devices.Memory)) of_hall = tt

-- nothing was added
hall_any : (P : Plan) (O : RunOptions) (cause : Cause) → (let none : List Record = [] in IfHallFault cause ((none ≡ none) ⊎ (SpentOnce (since_opening none) × OpensBy O none × RunCollects P O.mode none)))
hall_any P O (causes.HallFault old new) = inl refl
hall_any P O _ = tt

-- ---- where nothing was read

unread_added : (O : RunOptions) (s : Rise) (why : RecoverFault) → RunAddsBy O [] [] (unread_cause s why)
unread_added O s recovery.Site = inl (inl refl)
unread_added O s recovery.BadHeader = refl
unread_added O s (recovery.BadRecord at) = refl
unread_added O s recovery.Memory = inl (inl refl)

unread_read : (s : Rise) (why : RecoverFault) → was_read (kind_of (unread_cause s why)) ≡ false
unread_read s recovery.Site = refl
unread_read s recovery.BadHeader = refl
unread_read s (recovery.BadRecord at) = refl
unread_read s recovery.Memory = refl

unread_answer : (s : Rise) (why : RecoverFault) → is_answer (kind_of (unread_cause s why)) ≡ false
unread_answer s recovery.Site = refl
unread_answer s recovery.BadHeader = refl
unread_answer s (recovery.BadRecord at) = refl
unread_answer s recovery.Memory = refl

-- what is known of the cause of a refusal before the log is read
pub record IsUnreadCause (O : RunOptions) (cause : Cause) : Type 0 where
  pub added : RunAddsBy O [] [] cause
  pub unread : was_read (kind_of cause) ≡ false
  pub none : is_answer (kind_of cause) ≡ false

said_unread : (O : RunOptions) (cause : Cause) → is_refusal (kind_of cause) ≡ true → IsUnreadCause O cause
said_unread O causes.Usage says = record { added = refl; unread = refl; none = refl }
said_unread O (causes.FlowMissing name) says = record { added = refl; unread = refl; none = refl }
said_unread O (causes.FlowRefused flow fault) says = record { added = refl; unread = refl; none = refl }
said_unread O (causes.LogNameTaken file) says = record { added = refl; unread = refl; none = refl }
said_unread O (causes.NeedsTooMuch rule need total) says = record { added = refl; unread = refl; none = refl }
said_unread O _ says = absent says

refused_unread : (O : RunOptions) (s : Rise) (refusal : Refusal) → SaysRefusal {T = Ask} (Err refusal) → IsUnreadCause O (refusal_cause s refusal)
refused_unread O s (refusals.Said cause) says = said_unread O cause says
refused_unread O s refusals.Site says = record { added = inl (inl refl); unread = refl; none = refl }
refused_unread O s refusals.Memory says = record { added = inl (inl refl); unread = refl; none = refl }

module _ {L : Type 0} (E : Admitting) (spells : List Record → Type 0) (told listens : Type 0) (gives : Function) (may_fail : Job → Failure → Type 0) (history : L → List Passed) (count idles : L → ℕ) (closed : L → Bool) (ask : Ask) (rise : ℕ) (got got_now : List (Option LinkNo × L)) where
  -- of a run, by how it ended
  pub ran_leaves : (s r h : Rise) (records : List Record) (how : Result Check Stopped) → RunsOver spells told gives may_fail history count idles closed ask.workers.limit got got_now E ask.plan ask.options records how
      → (IsRefusedRun how → got_now ≡ got) → (ask.options.wq ≡ false → IfOk how (IsRunEnd ask.options.limit)) → (ask.options.wq ≡ false → IfOk how (λ ended. ended ≡ end_over ask.plan ask.options (before_end records) None))
      → (ask.options.wq ≡ true → IfOk how (EndsWaiting E ask.plan ask.options ask.workers.limit rise records))
      → (ask.options.wq ≡ true → (IsRefusedRun how → ⊥) → listens) → (IsClosedRun how → SpentOnce (since_opening records)) → ((IsRefusedRun how → ⊥) → OpensBy ask.options records) → ((IsRefusedRun how → ⊥) → RunCollects ask.plan ask.options.mode records)
      → RunLeaves spells told listens gives may_fail history count idles closed E ask rise got got_now records (run_cause s r h ask.plan how)
  ran_leaves s r h records how o unmet done ends away hears spent opened collects = record {
    past = o.past;
    spelled = λ read. o.spelled;
    added = run_adds s r h ask.plan ask.options o.past records how o.same o.added;
    places = o.places;
    admitted = o.admitted;
    modes = o.modes;
    lost = λ alone keeps. kept_run (LosesNone o.past records) s r h ask.plan how (λ refused. loses_none o.past records (o.same refused)) (o.lost alone) keeps;
    lost_away = λ keeps. kept_run (LosesOnLinks o.past records) s r h ask.plan how (λ refused. away_none o.past records (loses_none o.past records (o.same refused))) o.lost_away keeps;
    due_losses = λ tells keeps.
        kept_run (AreDueLosses gives may_fail history count idles closed ask.workers.limit got got_now o.past records) s r h ask.plan how
        (λ refused. due_none gives may_fail history count idles closed ask.workers.limit got got_now o.past records (unmet refused) (loses_none o.past records (o.same refused))) (o.due_losses tells) keeps;
    ended = λ is. answered E s r h ask rise records how done ends away is;
    heard = λ asked. ⊎_elim (λ (refused : IsRefusedRun how). inr (o.same refused)) (λ (started : IsRefusedRun how → ⊥). inl (hears asked started)) (started_or_not how);
    failed = hall_run ((records ≡ o.past) ⊎ (SpentOnce (since_opening records) × OpensBy ask.options records × RunCollects ask.plan ask.options.mode records)) s r h ask.plan how
        (λ is. ⊎_elim (λ (refused : IsRefusedRun how). inl (o.same refused)) (λ (closed : IsClosedRun how). inr (spent closed, opened (closed_starts how closed), collects (closed_starts how closed))) (hall_ends how is));
  }

  -- of one whose log wasn't read
  unread_by : (cause : Cause) → IsUnreadCause ask.options cause → got_now ≡ got → RunLeaves spells told listens gives may_fail history count idles closed E ask rise got got_now [] cause
  unread_by cause is same = record {
    past = [];
    spelled = λ wrong. absurd (true≢false (sym wrong ∙ is.unread));
    added = is.added;
    places = placed_none ask.plan ask.options [] [] refl;
    admitted = admitted_none E ask.plan ask.options [] [] refl;
    modes = collects_none ask.plan ask.options.mode [] [] refl;
    lost = λ alone keeps. ([], refl, refl);
    lost_away = λ keeps. away_none [] [] ([], refl, refl);
    due_losses = λ tells keeps. due_none gives may_fail history count idles closed ask.workers.limit got got_now [] [] same ([], refl, refl);
    ended = λ wrong. absurd (true≢false (sym wrong ∙ is.none));
    heard = λ asked. inr refl;
    failed = hall_any ask.plan ask.options cause;
  }

  pub unread_leaves : (s : Rise) (why : RecoverFault) → got_now ≡ got → RunLeaves spells told listens gives may_fail history count idles closed E ask rise got got_now [] (unread_cause s why)
  unread_leaves s why same = unread_by (unread_cause s why) (record { added = unread_added ask.options s why; unread = unread_read s why; none = unread_answer s why }) same

  -- where there was no memory before the log was read
  pub memory_leaves : got_now ≡ got → RunLeaves spells told listens gives may_fail history count idles closed E ask rise got got_now [] causes.Memory
  memory_leaves same = unread_by causes.Memory (record { added = inl (inl refl); unread = refl; none = refl }) same

  -- of a call that was refused before
  pub refused_leaves : (s : Rise) (refusal : Refusal) → SaysRefusal {T = Ask} (Err refusal) → got_now ≡ got → RunLeaves spells told listens gives may_fail history count idles closed E ask rise got got_now [] (refusal_cause s refusal)
  refused_leaves s refusal says same = unread_by (refusal_cause s refusal) (refused_unread ask.options s refusal says) same

  -- where less is said of the records that stood
  pub leaves_less : (now : List Record → Type 0) (records : List Record) (cause : Cause) → ((past : List Record) → spells past → now past) → RunLeaves spells told listens gives may_fail history count idles closed E ask rise got got_now records cause
      → RunLeaves now told listens gives may_fail history count idles closed E ask rise got got_now records cause
  leaves_less now records cause less l = record {
    past = l.past;
    spelled = λ read. less l.past (l.spelled read);
    added = l.added;
    places = l.places;
    admitted = l.admitted;
    modes = l.modes;
    lost = l.lost;
    lost_away = l.lost_away;
    due_losses = l.due_losses;
    ended = l.ended;
    heard = l.heard;
    failed = l.failed;
  }

  -- once its text was printed
  pub printed_leaves : (records : List Record) (b a : ℕ) (cause now : Cause) → Stands b a cause now → RunLeaves spells told listens gives may_fail history count idles closed E ask rise got got_now records cause
      → RunLeaves spells told listens gives may_fail history count idles closed E ask rise got got_now records now
  printed_leaves records b a cause now stood l =
      of_each (λ (c : Cause). RunLeaves spells told listens gives may_fail history count idles closed E ask rise got got_now records c) b a cause now stood l
      (λ rose is. record {
        past = l.past;
        spelled = λ read. l.spelled (end_read (kind_of cause) is);
        added = sink_adds works.Run ask.options l.past records b a cause is l.added;
        places = l.places;
        admitted = l.admitted;
        modes = l.modes;
        lost = λ alone keeps. l.lost alone (end_keeps cause is);
        lost_away = λ keeps. l.lost_away (end_keeps cause is);
        due_losses = λ tells keeps. l.due_losses tells (end_keeps cause is);
        ended = λ wrong. absent wrong;
        heard = l.heard;
        failed = tt;
      })
      (record {
        past = l.past;
        spelled = λ wrong. absent wrong;
        added = memory_adds works.Run ask.options l.past records cause l.added;
        places = l.places;
        admitted = l.admitted;
        modes = l.modes;
        lost = λ alone wrong. absurd (true≢false wrong);
        lost_away = λ wrong. absurd (true≢false wrong);
        due_losses = λ tells wrong. absurd (true≢false wrong);
        ended = λ wrong. absent wrong;
        heard = l.heard;
        failed = tt;
      })
