-- What a call does that runs a plan, by how the run ended.
use Rattle.std.proofs.Common.{◌≡◌, ◌≤◌, ◌<◌, ◌+◌, ◌⊎◌, ⊎_elim, inl, inr, ◌∙◌, ℕ, Bool, true, false, List, [], length, sum, Option, Some, None, Result, Ok, Err, IfOk, OnOk, refl, sym, ap, subst, arith, true≢false, option_map, if◌then◌else◌}
use Rattle.flow_types.specs.declared.plan.Plan.{Plan}
use Rattle.flow_types.specs.declared.numbers.Content.{Content}
use Rattle.flow_types.specs.declared.numbers.FileNo.{FileNo}
use Rattle.flow_types.specs.declared.job.Job.{Job}
use Rattle.flow_types.specs.declared.job.Failure.{Failure}
use Rattle.flow_types.specs.declared.records.Record.{Record}
use Rattle.flow_types.specs.Plans.{is_source}
use Rattle.flow_types.specs.Serial.{Function, serial}
use Rattle.run_history.specs.Admissions.{Admitting}
use Rattle.run_history.specs.declared.answers.Check.{Check}
use Rattle.run_history.specs.declared.answers.Check.TheVariants as check
use Rattle.run_history.specs.declared.options.Options.{Options as RunOptions}
use Rattle.run_history.specs.declared.states.Found.{Found}
use Rattle.run_history.specs.Answers.{before_end, end_over}
use Rattle.run_history.specs.History.{since_opening}
use Rattle.run_history.specs.Spent.{SpentOnce}
use Rattle.outside.specs.Disk.{IsImage, LeavesOnly, Outcomes}
use Rattle.outside.specs.declared.fault.Fault.TheVariants as devices
use Rattle.outside.specs.Files.{Files}
use Rattle.txn_log.specs.Spells.{Spells}
use Rattle.desk.specs.declared.answers.StartFault.{StartFault}
use Rattle.desk.specs.declared.answers.StartFault.TheVariants as faults
use Rattle.desk.specs.Kept.{IsLegal, Keeps, ReadsStay, StaysBeside}
use Rattle.local_run.specs.declared.halt.Halt.TheVariants as halts
use Rattle.local_run.specs.declared.ended.Stopped.{Stopped}
use Rattle.local_run.specs.declared.ended.Stopped.TheVariants as stopped
use Rattle.local_run.specs.Added.{AddsRun}
use Rattle.local_run.specs.Collecting.{AreGone, CollectsBy}
use Rattle.local_run.specs.Completing.{HasRecordRoom, SerialInputsFit}
use Rattle.local_run.specs.Course.{IsUnmade, TellsJobs}
use Rattle.local_run.specs.Ends.{HasFailed, IsDamaged, IsDone, IsRunEnd, IsSureEnd, LogsFailures, RunDamage, StartEnds, failed_count, run_fault}
use Rattle.local_run.specs.Moments.{IsBefore, IsMoment, IsResumable, KeepsSome}
use Rattle.local_run.proofs.Refused.{early_over}
use Rattle.local_run.specs.Runs.{Adds, BeginsWith, HasCauses, Held, IsAdmitted, IsClosedRun, IsCutAtStart, IsCutRun, IsEarlyRun, IsHallEnd, IsRefusedRun, IsSparedName, LosesNone, SerialFits, read_sources}
use Rattle.command_words.specs.declared.options.Work.{Work}
use Rattle.command_words.specs.declared.options.Work.TheVariants as works
use Rattle.report.specs.declared.cause.Cause.{Cause}
use Rattle.report.specs.declared.cause.Cause.TheVariants as causes
use Rattle.report.specs.declared.cause.Kind.TheVariants as kinds
use Rattle.report.specs.Causes.{is_cut, is_failing, is_refusal, kind_of, may_lose, was_read}
use Rattle.wq_run.specs.Ends.{EndsWaiting, IsOver, IsSparedRunners, LosesOnLinks}
use Rattle.flow_run.specs.Places.{PlacedBy}
use Rattle.flow_run.proofs.Losses.{away_none}
use Rattle.master_run.proofs.Counted.{hall_rise, site_rise}
use Rattle.master_run.specs.declared.ask.Ask.{Ask}
use Rattle.master_run.specs.Added.{AddsBy}
use Rattle.master_run.specs.Counts.{Counts}
use Rattle.master_run.specs.declared.rises.Rise.{Rise}
use Rattle.master_run.specs.Ends.{ComesToEnd, FaultEnd, GoesOn, IsStop, OneRose, RunEnds, Yields, end_cause, idle_rise, start_cause}
use Rattle.master_run.specs.Headline.{FailureEnd, IsCleanedBy, IsLegalOr, IsSpentBy, LogsFailed, StartsNone, is_early, is_run_end, is_runner_fault}
use Rattle.master_run.specs.Runs.{damage_cause, run_cause}
use Rattle.master_run.specs.Serves.{Completes, IsCut, Serves}
use Rattle.master_run.proofs.Adding.{run_adds}
use Rattle.master_run.proofs.Faults.{fault_goes}
use Rattle.master_run.proofs.Moved.{append_nothing, begun_still, moment_after}

absent : {A : Type 0} → false ≡ true → A
absent wrong = absurd (true≢false (sym wrong))

present : {A : Type 0} → true ≡ false → A
present wrong = absurd (true≢false wrong)

-- kinds of an end, of a damaged input
damage_kind : (source : Bool) (file : FileNo) (logged : Content) (found : Found) → kind_of (if source then causes.SourceChanged file logged found else causes.FileDamaged file logged found) ≡ kinds.WrongFile
damage_kind true file logged found = refl
damage_kind false file logged found = refl

-- where a run was cut short the call is
pub cut_run : (s r h : Rise) (P : Plan) (how : Result Check Stopped) → IsCutRun how → is_cut (kind_of (run_cause s r h P how)) ≡ true
cut_run s r h P (Ok ended) cut = absurd cut
cut_run s r h P (Err (stopped.Refused (faults.OtherFlow logged found))) cut = absurd cut
cut_run s r h P (Err (stopped.Refused (faults.NotLegal at))) cut = absurd cut
cut_run s r h P (Err (stopped.Refused (faults.LogFull count))) cut = absurd cut
cut_run s r h P (Err (stopped.Refused (faults.StoredAboveLimit bytes limit))) cut = absurd cut
cut_run s r h P (Err (stopped.Refused (faults.SourceMissing file))) cut = absurd cut
cut_run s r h P (Err (stopped.Refused (faults.SourceTooLarge file size))) cut = absurd cut
cut_run s r h P (Err (stopped.Refused (faults.SourceChanged file logged found))) cut = absurd cut
cut_run s r h P (Err (stopped.Refused (faults.FileDamaged file logged found))) cut = absurd cut
cut_run s r h P (Err (stopped.Refused (faults.Site old new))) cut = refl
cut_run s r h P (Err (stopped.Refused faults.Memory)) cut = refl
cut_run s r h P (Err (stopped.Halted (halts.Damaged file logged found))) cut = absurd cut
cut_run s r h P (Err (stopped.Halted halts.Runner)) cut = absurd cut
cut_run s r h P (Err (stopped.Halted halts.Site)) cut = refl
cut_run s r h P (Err (stopped.Halted halts.Memory)) cut = refl
cut_run s r h P (Err stopped.Hall) cut = absurd cut
cut_run s r h P (Err (stopped.Unheard devices.Failed)) cut = absurd cut
cut_run s r h P (Err (stopped.Unheard devices.Memory)) cut = absurd cut
cut_run s r h P (Err (stopped.Unopened devices.Failed)) cut = refl
cut_run s r h P (Err (stopped.Unopened devices.Memory)) cut = refl

-- where the start of a run was cut short, the run was
start_cut : (how : Result Check Stopped) → IsCutAtStart how → IsCutRun how
start_cut (Ok ended) cut = absurd cut
start_cut (Err (stopped.Refused why)) cut = cut
start_cut (Err (stopped.Halted halt)) cut = absurd cut
start_cut (Err stopped.Hall) cut = absurd cut
start_cut (Err (stopped.Unheard fault)) cut = absurd cut
start_cut (Err (stopped.Unopened fault)) cut = absurd cut

-- the same of counts that are told
pub told_cause : (s0 s1 s2 h0 h1 h2 h3 : ℕ) (r : Rise) (P Q : Plan) (how : Result Check Stopped) → s1 ≡ s2 → h0 ≡ h1 → h2 ≡ h3 → P ≡ Q
    → run_cause (record { before = s0; after = s1 }) r (record { before = h0; after = h2 }) P how ≡ run_cause (record { before = s0; after = s2 }) r (record { before = h1; after = h3 }) Q how
told_cause s0 s1 s2 h0 h1 h2 h3 r P Q how site before after plan =
    ap (λ (n : ℕ). run_cause (record { before = s0; after = n }) r (record { before = h0; after = h2 }) P how) site
    ∙ ap (λ (n : ℕ). run_cause (record { before = s0; after = s2 }) r (record { before = n; after = h2 }) P how) before
    ∙ ap (λ (n : ℕ). run_cause (record { before = s0; after = s2 }) r (record { before = h1; after = n }) P how) after
    ∙ ap (λ (R : Plan). run_cause (record { before = s0; after = s2 }) r (record { before = h1; after = h3 }) R how) plan

damage_faults : (b a : Counts) (source : Bool) (file : FileNo) (logged : Content) (found : Found) → FaultEnd b a (if source then causes.SourceChanged file logged found else causes.FileDamaged file logged found)
damage_faults b a true file logged found = tt
damage_faults b a false file logged found = tt

end_faults : (b a : Counts) (rules : ℕ) (ended : Check) → FaultEnd b a (end_cause rules ended)
end_faults b a rules (check.Complete collected) = tt
end_faults b a rules (check.CommandFailed rule why) = tt
end_faults b a rules (check.InputsTooLarge rule total) = tt
end_faults b a rules (check.LogFull count) = tt
end_faults b a rules (check.NoRoom rule need bytes limit) = tt
end_faults b a rules (check.Waited wait) = tt
end_faults b a rules _ = tt

-- a fault is told only where that count rose
pub run_faults : (b a : Counts) (r : Rise) (P : Plan) (s0 s1 : ℕ) (how : Result Check Stopped) → b.site ≤ s0 → a.site ≡ s1 → (sum b.runners < sum a.runners → OneRose r.before r.after b.runners a.runners) → HasCauses s0 s1 (sum b.runners) (sum a.runners) how
    → (IsHallEnd how → b.hall < a.hall) → FaultEnd b a (run_cause (site_rise b a) r (hall_rise b a) P how)
run_faults b a r P s0 s1 (Ok ended) le same one rises met = end_faults b a (length P.rules) ended
run_faults b a r P s0 s1 (Err (stopped.Refused (faults.Site old new))) le same one rises met = (refl, refl, omega (arith, le, same, rises))
run_faults b a r P s0 s1 (Err (stopped.Refused faults.Memory)) le same one rises met = tt
run_faults b a r P s0 s1 (Err (stopped.Refused (faults.OtherFlow logged found))) le same one rises met = tt
run_faults b a r P s0 s1 (Err (stopped.Refused (faults.NotLegal at))) le same one rises met = tt
run_faults b a r P s0 s1 (Err (stopped.Refused (faults.LogFull count))) le same one rises met = tt
run_faults b a r P s0 s1 (Err (stopped.Refused (faults.StoredAboveLimit bytes limit))) le same one rises met = tt
run_faults b a r P s0 s1 (Err (stopped.Refused (faults.SourceMissing file))) le same one rises met = tt
run_faults b a r P s0 s1 (Err (stopped.Refused (faults.SourceTooLarge file size))) le same one rises met = tt
run_faults b a r P s0 s1 (Err (stopped.Refused (faults.SourceChanged file logged found))) le same one rises met = tt
run_faults b a r P s0 s1 (Err (stopped.Refused (faults.FileDamaged file logged found))) le same one rises met = tt
run_faults b a r P s0 s1 (Err (stopped.Halted (halts.Damaged file logged found))) le same one rises met = damage_faults b a (is_source P file.0) file logged found
run_faults b a r P s0 s1 (Err (stopped.Halted halts.Runner)) le same one rises met = one rises
run_faults b a r P s0 s1 (Err (stopped.Halted halts.Site)) le same one rises met = (refl, refl, omega (arith, le, same, rises))
run_faults b a r P s0 s1 (Err (stopped.Halted halts.Memory)) le same one rises met = tt
run_faults b a r P s0 s1 (Err stopped.Hall) le same one rises met = (refl, refl, met tt)
run_faults b a r P s0 s1 (Err (stopped.Unheard devices.Failed)) le same one rises met = (refl, refl, met tt)
run_faults b a r P s0 s1 (Err (stopped.Unheard devices.Memory)) le same one rises met = tt
run_faults b a r P s0 s1 (Err (stopped.Unopened devices.Failed)) le same one rises met = (refl, refl, omega (arith, le, same, rises))
run_faults b a r P s0 s1 (Err (stopped.Unopened devices.Memory)) le same one rises met = tt

-- the records may stand in the log, or they are those of the log
legal_run : (s r h : Rise) (P : Plan) (H all : List Record) (how : Result Check Stopped) → (IsRefusedRun how → all ≡ H) → (IsAdmitted how → IsLegal P all) → IsLegalOr P H all (kind_of (run_cause s r h P how))
legal_run s r h P H all (Err (stopped.Refused (faults.OtherFlow logged found))) same legal = inr (inl (same tt), refl)
legal_run s r h P H all (Err (stopped.Refused (faults.NotLegal at))) same legal = inr (inl (same tt), refl)
legal_run s r h P H all (Err (stopped.Refused faults.Memory)) same legal = inr (inl (same tt), refl)
legal_run s r h P H all (Err (stopped.Refused (faults.LogFull count))) same legal = inl (legal tt)
legal_run s r h P H all (Err (stopped.Refused (faults.StoredAboveLimit bytes limit))) same legal = inl (legal tt)
legal_run s r h P H all (Err (stopped.Refused (faults.SourceMissing file))) same legal = inl (legal tt)
legal_run s r h P H all (Err (stopped.Refused (faults.SourceTooLarge file size))) same legal = inl (legal tt)
legal_run s r h P H all (Err (stopped.Refused (faults.SourceChanged file logged found))) same legal = inl (legal tt)
legal_run s r h P H all (Err (stopped.Refused (faults.FileDamaged file logged found))) same legal = inl (legal tt)
legal_run s r h P H all (Err (stopped.Refused (faults.Site old new))) same legal = inl (legal tt)
legal_run s r h P H all (Ok ended) same legal = inl (legal tt)
legal_run s r h P H all (Err (stopped.Halted halt)) same legal = inl (legal tt)
legal_run s r h P H all (Err stopped.Hall) same legal = inl (legal tt)
legal_run s r h P H all (Err (stopped.Unheard fault)) same legal = inl (legal tt)
legal_run s r h P H all (Err (stopped.Unopened fault)) same legal = inl (legal tt)

admitted_run : (s r h : Rise) (P : Plan) (how : Result Check Stopped) → was_read (kind_of (run_cause s r h P how)) ≡ true → IsAdmitted how
admitted_run s r h P (Err (stopped.Refused (faults.OtherFlow logged found))) read = absent read
admitted_run s r h P (Err (stopped.Refused (faults.NotLegal at))) read = absent read
admitted_run s r h P (Err (stopped.Refused faults.Memory)) read = absent read
admitted_run s r h P (Err (stopped.Refused (faults.LogFull count))) read = tt
admitted_run s r h P (Err (stopped.Refused (faults.StoredAboveLimit bytes limit))) read = tt
admitted_run s r h P (Err (stopped.Refused (faults.SourceMissing file))) read = tt
admitted_run s r h P (Err (stopped.Refused (faults.SourceTooLarge file size))) read = tt
admitted_run s r h P (Err (stopped.Refused (faults.SourceChanged file logged found))) read = tt
admitted_run s r h P (Err (stopped.Refused (faults.FileDamaged file logged found))) read = tt
admitted_run s r h P (Err (stopped.Refused (faults.Site old new))) read = tt
admitted_run s r h P (Ok ended) read = tt
admitted_run s r h P (Err (stopped.Halted halt)) read = tt
admitted_run s r h P (Err stopped.Hall) read = tt
admitted_run s r h P (Err (stopped.Unheard fault)) read = tt
admitted_run s r h P (Err (stopped.Unopened fault)) read = tt

pub closed_run : (s r h : Rise) (P : Plan) (how : Result Check Stopped) → is_run_end (kind_of (run_cause s r h P how)) ≡ true → IsClosedRun how
closed_run s r h P (Ok ended) ends = tt
closed_run s r h P (Err (stopped.Refused (faults.OtherFlow logged found))) ends = absent ends
closed_run s r h P (Err (stopped.Refused (faults.NotLegal at))) ends = absent ends
closed_run s r h P (Err (stopped.Refused (faults.LogFull count))) ends = absent ends
closed_run s r h P (Err (stopped.Refused (faults.StoredAboveLimit bytes limit))) ends = absent ends
closed_run s r h P (Err (stopped.Refused (faults.SourceMissing file))) ends = absent ends
closed_run s r h P (Err (stopped.Refused (faults.SourceTooLarge file size))) ends = absent ends
closed_run s r h P (Err (stopped.Refused (faults.SourceChanged file logged found))) ends = absent ends
closed_run s r h P (Err (stopped.Refused (faults.FileDamaged file logged found))) ends = absent ends
closed_run s r h P (Err (stopped.Refused (faults.Site old new))) ends = absent ends
closed_run s r h P (Err (stopped.Refused faults.Memory)) ends = absent ends
closed_run s r h P (Err (stopped.Halted (halts.Damaged file logged found))) ends = tt
closed_run s r h P (Err (stopped.Halted halts.Runner)) ends = tt
closed_run s r h P (Err (stopped.Halted halts.Site)) ends = absent ends
closed_run s r h P (Err (stopped.Halted halts.Memory)) ends = absent ends
closed_run s r h P (Err stopped.Hall) ends = tt
closed_run s r h P (Err (stopped.Unheard devices.Failed)) ends = absent ends
closed_run s r h P (Err (stopped.Unheard devices.Memory)) ends = absent ends
closed_run s r h P (Err (stopped.Unopened devices.Failed)) ends = absent ends
closed_run s r h P (Err (stopped.Unopened devices.Memory)) ends = absent ends

-- a run that was closed was started
pub closed_starts : (how : Result Check Stopped) → IsClosedRun how → IsRefusedRun how → ⊥
closed_starts (Ok ended) closed refused = refused
closed_starts (Err (stopped.Refused why)) closed refused = closed
closed_starts (Err (stopped.Halted halt)) closed refused = refused
closed_starts (Err stopped.Hall) closed refused = refused
closed_starts (Err (stopped.Unheard fault)) closed refused = closed
closed_starts (Err (stopped.Unopened fault)) closed refused = closed

over_end : (limit : Option ℕ) (ended : Check) → IsRunEnd limit ended → IsOver ended
over_end limit (check.Complete collected) is = tt
over_end limit (check.CommandFailed rule why) is = tt
over_end limit (check.InputsTooLarge rule total) is = tt
over_end limit (check.LogFull count) is = tt
over_end limit (check.NoRoom rule need bytes most) is = tt
over_end limit (check.Waited wait) is = absurd is
over_end limit check.Going is = absurd is
over_end limit check.Halted is = absurd is

-- a run that has an end is over
pub over_run : (E : Admitting) (wq : Bool) (P : Plan) (O : RunOptions) (most rise : ℕ) (limit : Option ℕ) (records : List Record) (how : Result Check Stopped) → (wq ≡ false → IfOk how (IsRunEnd limit)) → (wq ≡ true → IfOk how (EndsWaiting E P O most rise records)) → IfOk how IsOver
over_run E false P O most rise limit records (Ok ended) here away = over_end limit ended (here refl)
over_run E true P O most rise limit records (Ok ended) here away = (away refl).over
over_run E wq P O most rise limit records (Err why) here away = tt

-- each command that failed is logged once
pub logged_run : (s r h : Rise) (P : Plan) (H all : List Record) (f0 f1 : ℕ) (how : Result Check Stopped) → (IsClosedRun how → LogsFailures H all f0 f1) → (IsRefusedRun how → all ≡ H) → (IsRefusedRun how → f1 ≡ f0)
    → (is_cut (kind_of (run_cause s r h P how)) ≡ true → ⊥) → LogsFailed H all f0 f1
logged_run s r h P H all f0 f1 (Ok ended) logs same unused whole = logs tt
logged_run s r h P H all f0 f1 (Err (stopped.Refused why)) logs same unused whole = ap (λ (xs : List Record). failed_count xs + f0) (same tt) ∙ ap (λ (n : ℕ). failed_count H + n) (sym (unused tt))
logged_run s r h P H all f0 f1 (Err (stopped.Halted (halts.Damaged file logged found))) logs same unused whole = logs tt
logged_run s r h P H all f0 f1 (Err (stopped.Halted halts.Runner)) logs same unused whole = logs tt
logged_run s r h P H all f0 f1 (Err (stopped.Halted halts.Site)) logs same unused whole = absurd (whole refl)
logged_run s r h P H all f0 f1 (Err (stopped.Halted halts.Memory)) logs same unused whole = absurd (whole refl)
logged_run s r h P H all f0 f1 (Err stopped.Hall) logs same unused whole = logs tt
logged_run s r h P H all f0 f1 (Err (stopped.Unheard fault)) logs same unused whole = ap (λ (xs : List Record). failed_count xs + f0) (same tt) ∙ ap (λ (n : ℕ). failed_count H + n) (sym (unused tt))
logged_run s r h P H all f0 f1 (Err (stopped.Unopened fault)) logs same unused whole = ap (λ (xs : List Record). failed_count xs + f0) (same tt) ∙ ap (λ (n : ℕ). failed_count H + n) (sym (unused tt))

starts_none : (H all : List Record) → all ≡ H → StartsNone H all
starts_none H all same = ([], same ∙ sym (append_nothing H), refl)

pub loses_none : (H all : List Record) → all ≡ H → LosesNone H all
loses_none H all same = ([], same ∙ sym (append_nothing H), refl)

spent_run : (s r h : Rise) (P : Plan) (H all : List Record) (how : Result Check Stopped) → (IsRefusedRun how → all ≡ H) → (IsClosedRun how → SpentOnce (since_opening all))
    → (is_cut (kind_of (run_cause s r h P how)) ≡ true → ⊥) → IsSpentBy H all
spent_run s r h P H all (Ok ended) same spent whole = inr (spent tt)
spent_run s r h P H all (Err (stopped.Refused why)) same spent whole = inl (starts_none H all (same tt))
spent_run s r h P H all (Err (stopped.Halted (halts.Damaged file logged found))) same spent whole = inr (spent tt)
spent_run s r h P H all (Err (stopped.Halted halts.Runner)) same spent whole = inr (spent tt)
spent_run s r h P H all (Err (stopped.Halted halts.Site)) same spent whole = absurd (whole refl)
spent_run s r h P H all (Err (stopped.Halted halts.Memory)) same spent whole = absurd (whole refl)
spent_run s r h P H all (Err stopped.Hall) same spent whole = inr (spent tt)
spent_run s r h P H all (Err (stopped.Unheard fault)) same spent whole = inl (starts_none H all (same tt))
spent_run s r h P H all (Err (stopped.Unopened fault)) same spent whole = inl (starts_none H all (same tt))

damage_loses : (source : Bool) (file : FileNo) (logged : Content) (found : Found) → may_lose (kind_of (if source then causes.SourceChanged file logged found else causes.FileDamaged file logged found)) ≡ true
damage_loses true file logged found = refl
damage_loses false file logged found = refl

-- what holds of a run that came to its end, and of one that was refused, holds where nothing stopped it at once
pub lost_run : (Q : Type 0) (s r h : Rise) (P : Plan) (how : Result Check Stopped) → (IsRefusedRun how → Q) → OnOk how Q → may_lose (kind_of (run_cause s r h P how)) ≡ false → Q
lost_run Q s r h P (Ok ended) refused lost keeps = lost
lost_run Q s r h P (Err (stopped.Refused why)) refused lost keeps = refused tt
lost_run Q s r h P (Err (stopped.Halted (halts.Damaged file logged found))) refused lost keeps = present (sym (damage_loses (is_source P file.0) file logged found) ∙ keeps)
lost_run Q s r h P (Err (stopped.Halted halts.Runner)) refused lost keeps = present keeps
lost_run Q s r h P (Err (stopped.Halted halts.Site)) refused lost keeps = present keeps
lost_run Q s r h P (Err (stopped.Halted halts.Memory)) refused lost keeps = present keeps
lost_run Q s r h P (Err stopped.Hall) refused lost keeps = present keeps
lost_run Q s r h P (Err (stopped.Unheard fault)) refused lost keeps = refused tt
lost_run Q s r h P (Err (stopped.Unopened fault)) refused lost keeps = refused tt

end_refuses : (rules : ℕ) (ended : Check) → is_refusal (kind_of (end_cause rules ended)) ≡ false
end_refuses rules (check.Complete collected) = refl
end_refuses rules (check.CommandFailed rule why) = refl
end_refuses rules (check.InputsTooLarge rule total) = refl
end_refuses rules (check.LogFull count) = refl
end_refuses rules (check.NoRoom rule need bytes limit) = refl
end_refuses rules (check.Waited wait) = refl
end_refuses rules _ = refl

damage_refuses : (source : Bool) (file : FileNo) (logged : Content) (found : Found) → is_refusal (kind_of (if source then causes.SourceChanged file logged found else causes.FileDamaged file logged found)) ≡ false
damage_refuses true file logged found = refl
damage_refuses false file logged found = refl

early_run : (s r h : Rise) (P : Plan) (how : Result Check Stopped) → is_refusal (kind_of (run_cause s r h P how)) ≡ true → IsEarlyRun how
early_run s r h P (Ok ended) refused = present (sym refused ∙ end_refuses (length P.rules) ended)
early_run s r h P (Err (stopped.Refused (faults.OtherFlow logged found))) refused = tt
early_run s r h P (Err (stopped.Refused (faults.NotLegal at))) refused = tt
early_run s r h P (Err (stopped.Refused (faults.LogFull count))) refused = absent refused
early_run s r h P (Err (stopped.Refused (faults.StoredAboveLimit bytes limit))) refused = absent refused
early_run s r h P (Err (stopped.Refused (faults.SourceMissing file))) refused = absent refused
early_run s r h P (Err (stopped.Refused (faults.SourceTooLarge file size))) refused = absent refused
early_run s r h P (Err (stopped.Refused (faults.SourceChanged file logged found))) refused = absent refused
early_run s r h P (Err (stopped.Refused (faults.FileDamaged file logged found))) refused = absent refused
early_run s r h P (Err (stopped.Refused (faults.Site old new))) refused = absent refused
early_run s r h P (Err (stopped.Refused faults.Memory)) refused = absent refused
early_run s r h P (Err (stopped.Halted (halts.Damaged file logged found))) refused = present (sym refused ∙ damage_refuses (is_source P file.0) file logged found)
early_run s r h P (Err (stopped.Halted halts.Runner)) refused = absent refused
early_run s r h P (Err (stopped.Halted halts.Site)) refused = absent refused
early_run s r h P (Err (stopped.Halted halts.Memory)) refused = absent refused
early_run s r h P (Err stopped.Hall) refused = absent refused
early_run s r h P (Err (stopped.Unheard devices.Failed)) refused = absent refused
early_run s r h P (Err (stopped.Unheard devices.Memory)) refused = absent refused
early_run s r h P (Err (stopped.Unopened devices.Failed)) refused = absent refused
early_run s r h P (Err (stopped.Unopened devices.Memory)) refused = absent refused

abbrev tells_damage : Cause → Bool
tells_damage (causes.LogDamaged at) = true
tells_damage _ = false

end_whole : (rules : ℕ) (ended : Check) → tells_damage (end_cause rules ended) ≡ false
end_whole rules (check.Complete collected) = refl
end_whole rules (check.CommandFailed rule why) = refl
end_whole rules (check.InputsTooLarge rule total) = refl
end_whole rules (check.LogFull count) = refl
end_whole rules (check.NoRoom rule need bytes limit) = refl
end_whole rules (check.Waited wait) = refl
end_whole rules _ = refl

input_whole : (source : Bool) (file : FileNo) (logged : Content) (found : Found) → tells_damage (if source then causes.SourceChanged file logged found else causes.FileDamaged file logged found) ≡ false
input_whole true file logged found = refl
input_whole false file logged found = refl

run_whole : (s r h : Rise) (P : Plan) (how : Result Check Stopped) → tells_damage (run_cause s r h P how) ≡ false
run_whole s r h P (Ok ended) = end_whole (length P.rules) ended
run_whole s r h P (Err (stopped.Refused (faults.OtherFlow logged found))) = refl
run_whole s r h P (Err (stopped.Refused (faults.NotLegal at))) = refl
run_whole s r h P (Err (stopped.Refused (faults.LogFull count))) = refl
run_whole s r h P (Err (stopped.Refused (faults.StoredAboveLimit bytes limit))) = refl
run_whole s r h P (Err (stopped.Refused (faults.SourceMissing file))) = refl
run_whole s r h P (Err (stopped.Refused (faults.SourceTooLarge file size))) = refl
run_whole s r h P (Err (stopped.Refused (faults.SourceChanged file logged found))) = refl
run_whole s r h P (Err (stopped.Refused (faults.FileDamaged file logged found))) = refl
run_whole s r h P (Err (stopped.Refused (faults.Site old new))) = refl
run_whole s r h P (Err (stopped.Refused faults.Memory)) = refl
run_whole s r h P (Err (stopped.Halted (halts.Damaged file logged found))) = input_whole (is_source P file.0) file logged found
run_whole s r h P (Err (stopped.Halted halts.Runner)) = refl
run_whole s r h P (Err (stopped.Halted halts.Site)) = refl
run_whole s r h P (Err (stopped.Halted halts.Memory)) = refl
run_whole s r h P (Err stopped.Hall) = refl
run_whole s r h P (Err (stopped.Unheard devices.Failed)) = refl
run_whole s r h P (Err (stopped.Unheard devices.Memory)) = refl
run_whole s r h P (Err (stopped.Unopened devices.Failed)) = refl
run_whole s r h P (Err (stopped.Unopened devices.Memory)) = refl

-- where nothing stands in the way
free_goes : (E : Admitting) (ask : Ask) (rise : ℕ) (H : List Record) (before after : Files) (records : List Record) (cause : Cause) → run_fault ask.plan ask.options H before ≡ None → RunEnds E ask rise records after cause
    → GoesOn E works.Run ask rise H before after records cause
free_goes E ask rise H before after records cause none ends = subst (λ (o : Option StartFault). Yields (option_map start_cause o) cause (RunEnds E ask rise records after cause)) (sym none) ends

uncut_goes : (E : Admitting) (ask : Ask) (rise : ℕ) (H : List Record) (before after : Files) (records : List Record) (why : StartFault) → run_fault ask.plan ask.options H before ≡ Some why → GoesOn E works.Run ask rise H before after records (start_cause why)
uncut_goes E ask rise H before after records why is = subst (λ (o : Option StartFault). Yields (option_map start_cause o) (start_cause why) (RunEnds E ask rise records after (start_cause why))) (sym is) (λ stays. inl refl)

damage_stops : (wq : Bool) (P : Plan) (records : List Record) (after : Files) (file : FileNo) (logged : Content) (found : Found) (source : Bool) → is_source P file.0 ≡ source → IsDamaged P records after file logged found
    → IsStop wq P records after (if source then causes.SourceChanged file logged found else causes.FileDamaged file logged found)
damage_stops wq P records after file logged found true is damage = (is, damage)
damage_stops wq P records after file logged found false is damage = (is, damage)

-- how a run came to its end
pub comes : (E : Admitting) (wq : Bool) (ask : Ask) (rise : ℕ) (records : List Record) (ended : Check) → (wq ≡ false → IsRunEnd ask.options.limit ended) → (wq ≡ false → ended ≡ end_over ask.plan ask.options (before_end records) None)
    → (wq ≡ true → EndsWaiting E ask.plan ask.options ask.workers.limit rise records ended) → ComesToEnd E wq ask rise records (end_cause (length ask.plan.rules) ended)
comes E false ask rise records ended closed ends away = (subst (IsRunEnd ask.options.limit) (ends refl) (closed refl), inl (ap (end_cause (length ask.plan.rules)) (ends refl)))
comes E true ask rise records ended closed ends away = record { ended = ended; waiting = away refl; is_cause = inl refl }

run_goes : (E : Admitting) (s r h : Rise) (ask : Ask) (rise : ℕ) (H : List Record) (before after : Files) (records : List Record) (how : Result Check Stopped) → StartEnds (run_fault ask.plan ask.options H before) how → (ask.options.wq ≡ false → IfOk how (IsRunEnd ask.options.limit))
    → (ask.options.wq ≡ false → IfOk how (λ ended. ended ≡ end_over ask.plan ask.options (before_end records) None)) → (ask.options.wq ≡ true → IfOk how (EndsWaiting E ask.plan ask.options ask.workers.limit rise records))
    → (IsHallEnd how → ask.options.wq ≡ true) → RunDamage ask.plan records after how → GoesOn E works.Run ask rise H before after records (run_cause s r h ask.plan how)
run_goes E s r h ask rise H before after records (Ok ended) starts closed ends away met damage =
    free_goes E ask rise H before after records (end_cause (length ask.plan.rules) ended) starts (inl (comes E ask.options.wq ask rise records ended closed ends away))
run_goes E s r h ask rise H before after records (Err (stopped.Refused (faults.OtherFlow logged found))) starts closed ends away met damage = uncut_goes E ask rise H before after records (faults.OtherFlow logged found) (starts tt)
run_goes E s r h ask rise H before after records (Err (stopped.Refused (faults.NotLegal at))) starts closed ends away met damage = uncut_goes E ask rise H before after records (faults.NotLegal at) (starts tt)
run_goes E s r h ask rise H before after records (Err (stopped.Refused (faults.LogFull count))) starts closed ends away met damage = uncut_goes E ask rise H before after records (faults.LogFull count) (starts tt)
run_goes E s r h ask rise H before after records (Err (stopped.Refused (faults.StoredAboveLimit bytes limit))) starts closed ends away met damage = uncut_goes E ask rise H before after records (faults.StoredAboveLimit bytes limit) (starts tt)
run_goes E s r h ask rise H before after records (Err (stopped.Refused (faults.SourceMissing file))) starts closed ends away met damage = uncut_goes E ask rise H before after records (faults.SourceMissing file) (starts tt)
run_goes E s r h ask rise H before after records (Err (stopped.Refused (faults.SourceTooLarge file size))) starts closed ends away met damage = uncut_goes E ask rise H before after records (faults.SourceTooLarge file size) (starts tt)
run_goes E s r h ask rise H before after records (Err (stopped.Refused (faults.SourceChanged file logged found))) starts closed ends away met damage = uncut_goes E ask rise H before after records (faults.SourceChanged file logged found) (starts tt)
run_goes E s r h ask rise H before after records (Err (stopped.Refused (faults.FileDamaged file logged found))) starts closed ends away met damage = uncut_goes E ask rise H before after records (faults.FileDamaged file logged found) (starts tt)
run_goes E s r h ask rise H before after records (Err (stopped.Refused (faults.Site old new))) starts closed ends away met damage = fault_goes E works.Run ask rise H before after records (causes.SiteFault s.before s.after) refl
run_goes E s r h ask rise H before after records (Err (stopped.Refused faults.Memory)) starts closed ends away met damage = fault_goes E works.Run ask rise H before after records causes.Memory refl
run_goes E s r h ask rise H before after records (Err (stopped.Halted (halts.Damaged file logged found))) starts closed ends away met damage =
    free_goes E ask rise H before after records (damage_cause ask.plan file logged found) starts (inr (damage_stops ask.options.wq ask.plan records after file logged found (is_source ask.plan file.0) refl damage))
run_goes E s r h ask rise H before after records (Err (stopped.Halted halts.Runner)) starts closed ends away met damage = free_goes E ask rise H before after records (causes.RunnerFault r.before r.after) starts (inr tt)
run_goes E s r h ask rise H before after records (Err (stopped.Halted halts.Site)) starts closed ends away met damage = free_goes E ask rise H before after records (causes.SiteFault s.before s.after) starts (inr tt)
run_goes E s r h ask rise H before after records (Err (stopped.Halted halts.Memory)) starts closed ends away met damage = free_goes E ask rise H before after records causes.Memory starts (inr tt)
run_goes E s r h ask rise H before after records (Err stopped.Hall) starts closed ends away met damage = free_goes E ask rise H before after records (causes.HallFault h.before h.after) starts (inr (met tt))
run_goes E s r h ask rise H before after records (Err (stopped.Unheard devices.Failed)) starts closed ends away met damage = free_goes E ask rise H before after records (causes.HallFault h.before h.after) starts (inr (met tt))
run_goes E s r h ask rise H before after records (Err (stopped.Unheard devices.Memory)) starts closed ends away met damage = free_goes E ask rise H before after records causes.Memory starts (inr tt)
run_goes E s r h ask rise H before after records (Err (stopped.Unopened devices.Failed)) starts closed ends away met damage = free_goes E ask rise H before after records (causes.SiteFault s.before s.after) starts (inr tt)
run_goes E s r h ask rise H before after records (Err (stopped.Unopened devices.Memory)) starts closed ends away met damage = free_goes E ask rise H before after records causes.Memory starts (inr tt)

damage_sure : (source : Bool) (file : FileNo) (logged : Content) (found : Found) → is_failing (kind_of (if source then causes.SourceChanged file logged found else causes.FileDamaged file logged found)) ≡ false
damage_sure true file logged found = refl
damage_sure false file logged found = refl

sure_run : (s r h : Rise) (P : Plan) (how : Result Check Stopped) → IsSureEnd how → is_failing (kind_of (run_cause s r h P how)) ≡ false
sure_run s r h P (Ok (check.CommandFailed rule why)) is = absurd is
sure_run s r h P (Ok (check.Complete collected)) is = refl
sure_run s r h P (Ok (check.InputsTooLarge rule total)) is = refl
sure_run s r h P (Ok (check.LogFull count)) is = refl
sure_run s r h P (Ok (check.NoRoom rule need bytes limit)) is = refl
sure_run s r h P (Ok (check.Waited wait)) is = refl
sure_run s r h P (Ok _) is = refl
sure_run s r h P (Err (stopped.Refused (faults.OtherFlow logged found))) is = refl
sure_run s r h P (Err (stopped.Refused (faults.NotLegal at))) is = refl
sure_run s r h P (Err (stopped.Refused (faults.LogFull count))) is = refl
sure_run s r h P (Err (stopped.Refused (faults.StoredAboveLimit bytes limit))) is = refl
sure_run s r h P (Err (stopped.Refused (faults.SourceMissing file))) is = refl
sure_run s r h P (Err (stopped.Refused (faults.SourceTooLarge file size))) is = refl
sure_run s r h P (Err (stopped.Refused (faults.SourceChanged file logged found))) is = refl
sure_run s r h P (Err (stopped.Refused (faults.FileDamaged file logged found))) is = refl
sure_run s r h P (Err (stopped.Refused (faults.Site old new))) is = refl
sure_run s r h P (Err (stopped.Refused faults.Memory)) is = refl
sure_run s r h P (Err (stopped.Halted (halts.Damaged file logged found))) is = damage_sure (is_source P file.0) file logged found
sure_run s r h P (Err (stopped.Halted halts.Runner)) is = absurd is
sure_run s r h P (Err (stopped.Halted halts.Site)) is = refl
sure_run s r h P (Err (stopped.Halted halts.Memory)) is = refl
sure_run s r h P (Err stopped.Hall) is = refl
sure_run s r h P (Err (stopped.Unheard devices.Failed)) is = refl
sure_run s r h P (Err (stopped.Unheard devices.Memory)) is = refl
sure_run s r h P (Err (stopped.Unopened devices.Failed)) is = refl
sure_run s r h P (Err (stopped.Unopened devices.Memory)) is = refl

damage_spares : (source : Bool) (file : FileNo) (logged : Content) (found : Found) → is_runner_fault (kind_of (if source then causes.SourceChanged file logged found else causes.FileDamaged file logged found)) ≡ false
damage_spares true file logged found = refl
damage_spares false file logged found = refl

end_spares : (rules : ℕ) (ended : Check) → is_runner_fault (kind_of (end_cause rules ended)) ≡ false
end_spares rules (check.Complete collected) = refl
end_spares rules (check.CommandFailed rule why) = refl
end_spares rules (check.InputsTooLarge rule total) = refl
end_spares rules (check.LogFull count) = refl
end_spares rules (check.NoRoom rule need bytes limit) = refl
end_spares rules (check.Waited wait) = refl
end_spares rules _ = refl

-- where no runner failed none is told
spared_run : (s r h : Rise) (P : Plan) (how : Result Check Stopped) → IsSparedRunners how → is_runner_fault (kind_of (run_cause s r h P how)) ≡ false
spared_run s r h P (Ok ended) is = end_spares (length P.rules) ended
spared_run s r h P (Err (stopped.Refused (faults.OtherFlow logged found))) is = refl
spared_run s r h P (Err (stopped.Refused (faults.NotLegal at))) is = refl
spared_run s r h P (Err (stopped.Refused (faults.LogFull count))) is = refl
spared_run s r h P (Err (stopped.Refused (faults.StoredAboveLimit bytes limit))) is = refl
spared_run s r h P (Err (stopped.Refused (faults.SourceMissing file))) is = refl
spared_run s r h P (Err (stopped.Refused (faults.SourceTooLarge file size))) is = refl
spared_run s r h P (Err (stopped.Refused (faults.SourceChanged file logged found))) is = refl
spared_run s r h P (Err (stopped.Refused (faults.FileDamaged file logged found))) is = refl
spared_run s r h P (Err (stopped.Refused (faults.Site old new))) is = refl
spared_run s r h P (Err (stopped.Refused faults.Memory)) is = refl
spared_run s r h P (Err (stopped.Halted (halts.Damaged file logged found))) is = damage_spares (is_source P file.0) file logged found
spared_run s r h P (Err (stopped.Halted halts.Runner)) is = absurd is
spared_run s r h P (Err (stopped.Halted halts.Site)) is = refl
spared_run s r h P (Err (stopped.Halted halts.Memory)) is = refl
spared_run s r h P (Err stopped.Hall) is = refl
spared_run s r h P (Err (stopped.Unheard devices.Failed)) is = refl
spared_run s r h P (Err (stopped.Unheard devices.Memory)) is = refl
spared_run s r h P (Err (stopped.Unopened devices.Failed)) is = refl
spared_run s r h P (Err (stopped.Unopened devices.Memory)) is = refl

pub done_run : (s r h : Rise) (P : Plan) (most : Option ℕ) (how : Result Check Stopped) → IsDone most how → Completes most (run_cause s r h P how)
done_run s r h P most (Ok (check.Complete collected)) done = refl
done_run s r h P most (Ok (check.CommandFailed rule why)) done = absurd done
done_run s r h P most (Ok (check.InputsTooLarge rule total)) done = absurd done
done_run s r h P most (Ok (check.LogFull count)) done = absurd done
done_run s r h P most (Ok check.Going) done = absurd done
done_run s r h P most (Ok check.Halted) done = absurd done
done_run s r h P most (Ok (check.NoRoom rule need bytes limit)) done = done
done_run s r h P most (Ok (check.Waited wait)) done = absurd done
done_run s r h P most (Err (stopped.Refused (faults.OtherFlow logged found))) done = absurd done
done_run s r h P most (Err (stopped.Refused (faults.NotLegal at))) done = absurd done
done_run s r h P most (Err (stopped.Refused (faults.LogFull count))) done = absurd done
done_run s r h P most (Err (stopped.Refused (faults.StoredAboveLimit bytes limit))) done = absurd done
done_run s r h P most (Err (stopped.Refused (faults.SourceMissing file))) done = absurd done
done_run s r h P most (Err (stopped.Refused (faults.SourceTooLarge file size))) done = absurd done
done_run s r h P most (Err (stopped.Refused (faults.SourceChanged file logged found))) done = absurd done
done_run s r h P most (Err (stopped.Refused (faults.FileDamaged file logged found))) done = absurd done
done_run s r h P most (Err (stopped.Refused (faults.Site old new))) done = absurd done
done_run s r h P most (Err (stopped.Refused faults.Memory)) done = refl
done_run s r h P most (Err (stopped.Halted (halts.Damaged file logged found))) done = absurd done
done_run s r h P most (Err (stopped.Halted halts.Runner)) done = absurd done
done_run s r h P most (Err (stopped.Halted halts.Site)) done = absurd done
done_run s r h P most (Err (stopped.Halted halts.Memory)) done = refl
done_run s r h P most (Err stopped.Hall) done = absurd done
done_run s r h P most (Err (stopped.Unheard devices.Failed)) done = absurd done
done_run s r h P most (Err (stopped.Unheard devices.Memory)) done = refl
done_run s r h P most (Err (stopped.Unopened devices.Failed)) done = absurd done
done_run s r h P most (Err (stopped.Unopened devices.Memory)) done = refl

end_late : (rules : ℕ) (ended : Check) → is_early (kind_of (end_cause rules ended)) ≡ false
end_late rules (check.Complete collected) = refl
end_late rules (check.CommandFailed rule why) = refl
end_late rules (check.InputsTooLarge rule total) = refl
end_late rules (check.LogFull count) = refl
end_late rules (check.NoRoom rule need bytes limit) = refl
end_late rules (check.Waited wait) = refl
end_late rules _ = refl

damage_late : (source : Bool) (file : FileNo) (logged : Content) (found : Found) → is_early (kind_of (if source then causes.SourceChanged file logged found else causes.FileDamaged file logged found)) ≡ false
damage_late true file logged found = refl
damage_late false file logged found = refl

run_late : (s r h : Rise) (P : Plan) (how : Result Check Stopped) → is_early (kind_of (run_cause s r h P how)) ≡ false
run_late s r h P (Ok ended) = end_late (length P.rules) ended
run_late s r h P (Err (stopped.Refused (faults.OtherFlow logged found))) = refl
run_late s r h P (Err (stopped.Refused (faults.NotLegal at))) = refl
run_late s r h P (Err (stopped.Refused (faults.LogFull count))) = refl
run_late s r h P (Err (stopped.Refused (faults.StoredAboveLimit bytes limit))) = refl
run_late s r h P (Err (stopped.Refused (faults.SourceMissing file))) = refl
run_late s r h P (Err (stopped.Refused (faults.SourceTooLarge file size))) = refl
run_late s r h P (Err (stopped.Refused (faults.SourceChanged file logged found))) = refl
run_late s r h P (Err (stopped.Refused (faults.FileDamaged file logged found))) = refl
run_late s r h P (Err (stopped.Refused (faults.Site old new))) = refl
run_late s r h P (Err (stopped.Refused faults.Memory)) = refl
run_late s r h P (Err (stopped.Halted (halts.Damaged file logged found))) = damage_late (is_source P file.0) file logged found
run_late s r h P (Err (stopped.Halted halts.Runner)) = refl
run_late s r h P (Err (stopped.Halted halts.Site)) = refl
run_late s r h P (Err (stopped.Halted halts.Memory)) = refl
run_late s r h P (Err stopped.Hall) = refl
run_late s r h P (Err (stopped.Unheard devices.Failed)) = refl
run_late s r h P (Err (stopped.Unheard devices.Memory)) = refl
run_late s r h P (Err (stopped.Unopened devices.Failed)) = refl
run_late s r h P (Err (stopped.Unopened devices.Memory)) = refl

end_cleans : (P : Plan) (H : List Record) (files : Files) (rules : ℕ) (ended : Check) → IsCleanedBy P H files (end_cause rules ended)
end_cleans P H files rules (check.Complete collected) = tt
end_cleans P H files rules (check.CommandFailed rule why) = tt
end_cleans P H files rules (check.InputsTooLarge rule total) = tt
end_cleans P H files rules (check.LogFull count) = tt
end_cleans P H files rules (check.NoRoom rule need bytes limit) = tt
end_cleans P H files rules (check.Waited wait) = tt
end_cleans P H files rules _ = tt

damage_cleans : (P : Plan) (H : List Record) (files : Files) (source : Bool) (file : FileNo) (logged : Content) (found : Found) → IsCleanedBy P H files (if source then causes.SourceChanged file logged found else causes.FileDamaged file logged found)
damage_cleans P H files true file logged found = tt
damage_cleans P H files false file logged found = tt

run_cleans : (s r h : Rise) (P : Plan) (H : List Record) (files : Files) (how : Result Check Stopped) → IsCleanedBy P H files (run_cause s r h P how)
run_cleans s r h P H files (Ok ended) = end_cleans P H files (length P.rules) ended
run_cleans s r h P H files (Err (stopped.Refused (faults.OtherFlow logged found))) = tt
run_cleans s r h P H files (Err (stopped.Refused (faults.NotLegal at))) = tt
run_cleans s r h P H files (Err (stopped.Refused (faults.LogFull count))) = tt
run_cleans s r h P H files (Err (stopped.Refused (faults.StoredAboveLimit bytes limit))) = tt
run_cleans s r h P H files (Err (stopped.Refused (faults.SourceMissing file))) = tt
run_cleans s r h P H files (Err (stopped.Refused (faults.SourceTooLarge file size))) = tt
run_cleans s r h P H files (Err (stopped.Refused (faults.SourceChanged file logged found))) = tt
run_cleans s r h P H files (Err (stopped.Refused (faults.FileDamaged file logged found))) = tt
run_cleans s r h P H files (Err (stopped.Refused (faults.Site old new))) = tt
run_cleans s r h P H files (Err (stopped.Refused faults.Memory)) = tt
run_cleans s r h P H files (Err (stopped.Halted (halts.Damaged file logged found))) = damage_cleans P H files (is_source P file.0) file logged found
run_cleans s r h P H files (Err (stopped.Halted halts.Runner)) = tt
run_cleans s r h P H files (Err (stopped.Halted halts.Site)) = tt
run_cleans s r h P H files (Err (stopped.Halted halts.Memory)) = tt
run_cleans s r h P H files (Err stopped.Hall) = tt
run_cleans s r h P H files (Err (stopped.Unheard devices.Failed)) = tt
run_cleans s r h P H files (Err (stopped.Unheard devices.Memory)) = tt
run_cleans s r h P H files (Err (stopped.Unopened devices.Failed)) = tt
run_cleans s r h P H files (Err (stopped.Unopened devices.Memory)) = tt

pub none_refused : (o : Option StartFault) → option_map start_cause o ≡ None → o ≡ None
none_refused None is = refl
none_refused (Some why) is = absurd (cc)

-- the count of failed commands
pub failed_run : (s r h : Rise) (P : Plan) (f0 f1 : ℕ) (how : Result Check Stopped) → HasFailed f0 f1 how → FailureEnd f0 f1 (kind_of (run_cause s r h P how))
failed_run s r h P f0 f1 (Ok (check.CommandFailed rule why)) failed = record { later = omega (arith, failed); rose = λ is. failed }
failed_run s r h P f0 f1 (Ok (check.Complete collected)) failed = record { later = failed; rose = λ wrong. absurd (cc) }
failed_run s r h P f0 f1 (Ok (check.InputsTooLarge rule total)) failed = record { later = failed; rose = λ wrong. absurd (cc) }
failed_run s r h P f0 f1 (Ok (check.LogFull count)) failed = record { later = failed; rose = λ wrong. absurd (cc) }
failed_run s r h P f0 f1 (Ok (check.NoRoom rule need bytes limit)) failed = record { later = failed; rose = λ wrong. absurd (cc) }
failed_run s r h P f0 f1 (Ok (check.Waited wait)) failed = record { later = failed; rose = λ wrong. absurd (cc) }
failed_run s r h P f0 f1 (Ok _) failed = record { later = failed; rose = λ wrong. absurd (cc) }
failed_run s r h P f0 f1 (Err (stopped.Refused (faults.OtherFlow logged found))) failed = record { later = failed; rose = λ wrong. absurd (cc) }
failed_run s r h P f0 f1 (Err (stopped.Refused (faults.NotLegal at))) failed = record { later = failed; rose = λ wrong. absurd (cc) }
failed_run s r h P f0 f1 (Err (stopped.Refused (faults.LogFull count))) failed = record { later = failed; rose = λ wrong. absurd (cc) }
failed_run s r h P f0 f1 (Err (stopped.Refused (faults.StoredAboveLimit bytes limit))) failed = record { later = failed; rose = λ wrong. absurd (cc) }
failed_run s r h P f0 f1 (Err (stopped.Refused (faults.SourceMissing file))) failed = record { later = failed; rose = λ wrong. absurd (cc) }
failed_run s r h P f0 f1 (Err (stopped.Refused (faults.SourceTooLarge file size))) failed = record { later = failed; rose = λ wrong. absurd (cc) }
failed_run s r h P f0 f1 (Err (stopped.Refused (faults.SourceChanged file logged found))) failed = record { later = failed; rose = λ wrong. absurd (cc) }
failed_run s r h P f0 f1 (Err (stopped.Refused (faults.FileDamaged file logged found))) failed = record { later = failed; rose = λ wrong. absurd (cc) }
failed_run s r h P f0 f1 (Err (stopped.Refused (faults.Site old new))) failed = record { later = failed; rose = λ wrong. absurd (cc) }
failed_run s r h P f0 f1 (Err (stopped.Refused faults.Memory)) failed = record { later = failed; rose = λ wrong. absurd (cc) }
failed_run s r h P f0 f1 (Err (stopped.Halted (halts.Damaged file logged found))) failed = record {
  later = failed;
  rose = λ is. absurd (let wrong : kinds.WrongFile ≡ kinds.RuleFailed = sym (damage_kind (is_source P file.0) file logged found) ∙ is in cc);
}
failed_run s r h P f0 f1 (Err (stopped.Halted halts.Runner)) failed = record { later = failed; rose = λ wrong. absurd (cc) }
failed_run s r h P f0 f1 (Err (stopped.Halted halts.Site)) failed = record { later = failed; rose = λ wrong. absurd (cc) }
failed_run s r h P f0 f1 (Err (stopped.Halted halts.Memory)) failed = record { later = failed; rose = λ wrong. absurd (cc) }
failed_run s r h P f0 f1 (Err stopped.Hall) failed = record { later = failed; rose = λ wrong. absurd (cc) }
failed_run s r h P f0 f1 (Err (stopped.Unheard devices.Failed)) failed = record { later = failed; rose = λ wrong. absurd (cc) }
failed_run s r h P f0 f1 (Err (stopped.Unheard devices.Memory)) failed = record { later = failed; rose = λ wrong. absurd (cc) }
failed_run s r h P f0 f1 (Err (stopped.Unopened devices.Failed)) failed = record { later = failed; rose = λ wrong. absurd (cc) }
failed_run s r h P f0 f1 (Err (stopped.Unopened devices.Memory)) failed = record { later = failed; rose = λ wrong. absurd (cc) }

module _ {S : Type 0} (E : Admitting) (tells : Type 0) (files : S → Files) (may_leave : S → Outcomes) (moment : S → ℕ) (images_since : S → ℕ → Files → Type 0) (count : S → ℕ) (born : ℕ)
    (gives : Function) (may_fail : Job → Failure → Type 0) (told : Job → Type 0) (sure honest_links : Type 0) (b a : Counts) (r : Rise) (ask : Ask) (old new : S) (records : List Record) (how : Result Check Stopped) where
  -- What is known of a run.
  pub record Ran : Type 0 where
    pub work : ask.work ≡ works.Run
    pub le : b.site ≤ count old
    pub now_site : a.site ≡ count new
    pub faults : FaultEnd b a (run_cause (site_rise b a) r (hall_rise b a) ask.plan how)
    pub log : tells → (H : List Record) × Spells H (files old ask.log)
    pub grows : tells → (H : List Record) → Spells H (files old ask.log) → BeginsWith H records
    pub same : tells → (H : List Record) → Spells H (files old ask.log) → IsRefusedRun how → records ≡ H
    pub added : tells → (H : List Record) → Spells H (files old ask.log) → AddsRun ask.options H records how
    pub quiet : tells → IsEarlyRun how → (m : List ℕ) → files new m ≡ files old m
    pub before : tells → IsEarlyRun how → LeavesOnly moment images_since old new (IsBefore ask.log (files old ask.log) (may_leave old))
    pub starts : tells → (H : List Record) → Spells H (files old ask.log) → StartEnds (run_fault ask.plan ask.options H (files old)) how
    pub closed : ask.options.wq ≡ false → IfOk how (IsRunEnd ask.options.limit)
    pub ends : ask.options.wq ≡ false → IfOk how (λ ended. ended ≡ end_over ask.plan ask.options (before_end records) None)
    pub waited : ask.options.wq ≡ true → IfOk how (EndsWaiting E ask.plan ask.options ask.workers.limit (idle_rise b a) records)
    pub met : IsHallEnd how → ask.options.wq ≡ true
    pub damage : tells → RunDamage ask.plan records (files new) how
    pub legal : IsAdmitted how → IsLegal ask.plan records
    pub spent : IsClosedRun how → SpentOnce (since_opening records)
    pub lost : ask.options.wq ≡ false → OnOk how (tells → (H : List Record) → Spells H (files old ask.log) → LosesNone H records)
    pub lost_away : OnOk how (tells → (H : List Record) → Spells H (files old ask.log) → LosesOnLinks H records)
    pub is_sure : ask.options.wq ≡ false → sure → IsSureEnd how
    pub never : sure → IsSparedRunners how
    pub others : tells → StaysBeside may_leave moment images_since (IsUnmade ask.plan ask.log) old new
    pub reads : tells → ReadsStay files (IsSparedName ask.plan ask.log how) old new
    pub moments : tells → (H : List Record) → Spells H (files old ask.log) → IsResumable Held ask.plan ask.log H (may_leave old)
        → (image : Files) → images_since new born image → images_since old born image ⊎ IsMoment Held ask.plan ask.log (files old) (may_leave old) H records (IsCutRun how) image
    pub resumable : tells → (H : List Record) → Spells H (files old ask.log) → ((image : Files) → IsImage (may_leave old) image → KeepsSome Held ask.plan ask.log image)
        → (image : Files) → images_since new born image → images_since old born image ⊎ KeepsSome Held ask.plan ask.log image
    pub contents : (ask.options.wq ≡ true → honest_links) → tells → (H : List Record) → Spells H (files old ask.log)
        → IsResumable (SerialFits gives (read_sources ask.plan (files old))) ask.plan ask.log H (may_leave old)
        → TellsJobs ask.plan ask.options told (serial ask.plan gives (read_sources ask.plan (files old)))
        → (image : Files) → images_since new born image → images_since old born image ⊎ IsMoment (SerialFits gives (read_sources ask.plan (files old))) ask.plan ask.log (files old) (may_leave old) H records (IsCutRun how) image
    pub honest : (ask.options.wq ≡ true → honest_links) → tells → (H : List Record) → Spells H (files old ask.log)
        → IsResumable (SerialFits gives (read_sources ask.plan (files old))) ask.plan ask.log H (may_leave old)
        → TellsJobs ask.plan ask.options told (serial ask.plan gives (read_sources ask.plan (files old)))
        → Adds (Unit {0}) gives may_fail (read_sources ask.plan (files old)) ask.plan H records
    pub at_end : tells → (H : List Record) → Spells H (files old ask.log) → IsResumable Held ask.plan ask.log H (may_leave old) → (IsCutRun how → ⊥)
        → (image : Files) → IsImage (may_leave new) image → Keeps Held ask.plan ask.log records image
    pub completes : ask.options.wq ≡ false → tells → (H : List Record) → Spells H (files old ask.log)
        → IsResumable (SerialFits gives (read_sources ask.plan (files old))) ask.plan ask.log H (may_leave old)
        → TellsJobs ask.plan ask.options told (serial ask.plan gives (read_sources ask.plan (files old)))
        → SerialInputsFit ask.plan gives (read_sources ask.plan (files old)) → HasRecordRoom ask.plan H → run_fault ask.plan ask.options H (files old) ≡ None
        → sure → count new ≤ count old → IsDone ask.options.limit how
    pub modes : tells → (H : List Record) → Spells H (files old ask.log) → CollectsBy ask.plan ask.options.mode H records
    pub places : tells → (H : List Record) → Spells H (files old ask.log) → PlacedBy ask.plan ask.options H records
    pub gone : tells → (IsCutRun how → ⊥) → (H : List Record) → Spells H (files old ask.log) → AreGone ask.plan (files new) H records

  on_told : (Q : List Record → Type 0) → OnOk how (tells → (H : List Record) → Spells H (files old ask.log) → Q H) → tells → (H : List Record) → Spells H (files old ask.log) → OnOk how (Q H)
  on_told Q lost t H spelled = by_how how lost
    where
      by_how : (it : Result Check Stopped) → OnOk it (tells → (K : List Record) → Spells K (files old ask.log) → Q K) → OnOk it (Q H)
      by_how (Ok ended) lost = lost t H spelled
      by_how (Err why) lost = tt

  -- what the call does
  pub ran_serves : Ran → Serves E tells files may_leave moment images_since born gives may_fail told sure honest_links b a ask old new records (run_cause (site_rise b a) r (hall_rise b a) ask.plan how)
  ran_serves k = record {
    ends = λ t. record {
      damaged = λ at is. absurd (true≢false (ap tells_damage (sym is) ∙ run_whole (site_rise b a) r (hall_rise b a) ask.plan how));
      read = inl (k.log t);
      whole = λ H spelled. subst (λ (w : Work). GoesOn E w ask (idle_rise b a) H (files old) (files new) records (run_cause (site_rise b a) r (hall_rise b a) ask.plan how)) (sym k.work)
          (run_goes E (site_rise b a) r (hall_rise b a) ask (idle_rise b a) H (files old) (files new) records how (k.starts t H spelled) k.closed k.ends k.waited k.met (k.damage t));
    };
    late = run_late (site_rise b a) r (hall_rise b a) ask.plan how;
    faults = k.faults;
    has_log = λ t H spelled. inl (k.grows t H spelled);
    unread = λ t H spelled none. absurd (none (k.grows t H spelled));
    added = λ t H spelled. subst (λ (w : Work). AddsBy w ask.options H records (run_cause (site_rise b a) r (hall_rise b a) ask.plan how)) (sym k.work)
        (run_adds (site_rise b a) r (hall_rise b a) ask.plan ask.options H records how (k.same t H spelled) (k.added t H spelled));
    legal = λ read. k.legal (admitted_run (site_rise b a) r (hall_rise b a) ask.plan how read);
    logged = λ t H spelled. legal_run (site_rise b a) r (hall_rise b a) ask.plan H records how (k.same t H spelled) k.legal;
    closed = λ ends. k.spent (closed_run (site_rise b a) r (hall_rise b a) ask.plan how ends);
    spent = λ t H spelled whole. spent_run (site_rise b a) r (hall_rise b a) ask.plan H records how (k.same t H spelled) k.spent whole;
    lost = λ t H spelled alone keeps. lost_run (LosesNone H records) (site_rise b a) r (hall_rise b a) ask.plan how (λ refused. loses_none H records (k.same t H spelled refused)) (on_told (λ K. LosesNone K records) (k.lost alone) t H spelled) keeps;
    lost_away = λ t H spelled keeps.
        lost_run (LosesOnLinks H records) (site_rise b a) r (hall_rise b a) ask.plan how (λ refused. away_none H records (loses_none H records (k.same t H spelled refused))) (on_told (λ K. LosesOnLinks K records) k.lost_away t H spelled) keeps;
    moments = λ t H spelled resumable image left.
        ⊎_elim (λ was. inl was)
        (λ (m : IsMoment Held ask.plan ask.log (files old) (may_leave old) H records (IsCutRun how) image).
        inr (moment_after Held ask.plan ask.log (files old) (may_leave old) H records (IsCutRun how) (IsCut (run_cause (site_rise b a) r (hall_rise b a) ask.plan how)) image (cut_run (site_rise b a) r (hall_rise b a) ask.plan how) m))
        (k.moments t H spelled resumable image left);
    resumable = λ t some image left. let log = k.log t in k.resumable t log.0 log.1 some image left;
    now = λ t H spelled resumable whole. k.at_end t H spelled resumable (λ cut. whole (cut_run (site_rise b a) r (hall_rise b a) ask.plan how cut));
    untouched = λ t refused. λ i m. k.quiet t (early_run (site_rise b a) r (hall_rise b a) ask.plan how refused) m i;
    quiet = λ t refused.
        let early : IsEarlyRun how = early_run (site_rise b a) r (hall_rise b a) ask.plan how refused in
        begun_still files may_leave moment images_since ask.log old new (k.before t early) (λ unbegun. early_over ask.plan ask.options [] (files old) how (k.starts t [] (inl unbegun)) early refl);
    others = k.others;
    reads = λ t m spared. k.reads t m (spared.0, λ cut. spared.1 (cut_run (site_rise b a) r (hall_rise b a) ask.plan how (start_cut how cut)));
    contents = λ t H spelled met jobs resumable image left.
        ⊎_elim (λ was. inl was)
        (λ (m : IsMoment (SerialFits gives (read_sources ask.plan (files old))) ask.plan ask.log (files old) (may_leave old) H records (IsCutRun how) image).
        inr (moment_after (SerialFits gives (read_sources ask.plan (files old))) ask.plan ask.log (files old) (may_leave old) H records (IsCutRun how) (IsCut (run_cause (site_rise b a) r (hall_rise b a) ask.plan how)) image (cut_run (site_rise b a) r (hall_rise b a) ask.plan how) m))
        (k.contents met t H spelled resumable jobs image left);
    honest = λ t H spelled met resumable jobs begins. k.honest met t H spelled resumable jobs;
    modes = λ t H spelled begins. k.modes t H spelled;
    places = λ t H spelled begins. k.places t H spelled;
    gone = λ t H spelled whole. k.gone t (λ cut. whole (cut_run (site_rise b a) r (hall_rise b a) ask.plan how cut)) H spelled;
    cleaned = λ t H spelled. run_cleans (site_rise b a) r (hall_rise b a) ask.plan H (files new) how;
    sure_end = λ alone is. sure_run (site_rise b a) r (hall_rise b a) ask.plan how (k.is_sure alone is);
    never = λ is. spared_run (site_rise b a) r (hall_rise b a) ask.plan how (k.never is);
    completes = λ t H spelled alone work resumable free there fit room is jobs none.
        done_run (site_rise b a) r (hall_rise b a) ask.plan ask.options.limit how (k.completes alone t H spelled resumable jobs fit room (none_refused (run_fault ask.plan ask.options H (files old)) free) is (omega (arith, k.le, k.now_site, none.site)));
  }
