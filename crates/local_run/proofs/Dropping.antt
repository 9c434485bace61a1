-- What a collection makes of a desk.
use Rattle.std.proofs.Common.{length-append, ◌≡◌, ◌≤◌, ◌+◌, ◌∙◌, inl, inr, ⊎_elim, ℕ, List, [], ◌∷◌, length, Option, Some, None, Result, Ok, Err, sym, ap, subst, arith}
use Rattle.std.specs.Prelude.{IfOk, IfSome}
use Rattle.flow_types.specs.declared.plan.Plan.{Plan}
use Rattle.flow_types.specs.declared.job.Job.{Job}
use Rattle.flow_types.specs.declared.job.Failure.{Failure}
use Rattle.flow_types.specs.declared.numbers.FileNo.{FileNo}
use Rattle.flow_types.specs.declared.records.Record.{Record}
use Rattle.flow_types.specs.declared.records.Record.TheVariants as records
use Rattle.flow_types.specs.Serial.{Contents, Function}
use Rattle.run_history.specs.Links.{records_of}
use Rattle.run_history.specs.Storage.{running_rules}
use Rattle.run_history.proofs.Grows.{records-push}
use Rattle.outside.specs.Disk.{Outcomes}
use Rattle.outside.specs.Files.{Files}
use Rattle.file_store.specs.Outputs.{file_name}
use Rattle.desk.specs.declared.answers.CollectRefused.{CollectRefused}
use Rattle.desk.specs.declared.answers.CollectRefused.TheVariants as refused
use Rattle.desk.specs.declared.answers.Trouble.TheVariants as trouble
use Rattle.desk.specs.Collections.{BreaksOff, Collected, Collects, LacksThen, dropped_in}
use Rattle.desk.specs.State.{Breaks, DeskState, IsFine, Lacks}
use Rattle.desk.proofs.Removing.{chosen-free}
use Rattle.desk.proofs.Running.{dropped_runs}
use Rattle.local_run.specs.Collecting.{IsUntouched}
use Rattle.local_run.specs.Course.{GoesOn, LeavesAlone, MayDrop}
use Rattle.local_run.specs.Ends.{records_due}
use Rattle.local_run.proofs.Closings.{breaks_goes, breaks_same, lacks_goes, lacks_same}
use Rattle.local_run.proofs.Fresh.{due_dropped}
use Rattle.local_run.proofs.Going.{drops_one, stays}

module _ {S : Type 0} (trust : Type 0) (gives : Function) (may_fail : Job → Failure → Type 0) (sources : Contents) (tells : Type 0) (files : S → Files) (may_leave : S → Outcomes) (moment : S → ℕ)
    (images_since : S → ℕ → Files → Type 0) where
  abbrev pub Goes : DeskState S → DeskState S → Type 0
  Goes d after = GoesOn trust gives may_fail sources tells files may_leave moment images_since [] d after

  abbrev pub Alone : DeskState S → S → Type 0
  Alone d s = tells → LeavesAlone files may_leave moment images_since (IsUntouched d.plan d.log (records_of d.moves)) d.site s

  -- the drop was logged, and then the site or memory failed
  dropped_breaks : (count : S → ℕ) (d : DeskState S) (time : ℕ) (file : FileNo) (site : S) (before now : ℕ) (after : DeskState S) → Collected d file → IsFine d.trouble → Alone d after.site
      → Breaks count (dropped_in d time file site) before now after → Goes d after
  dropped_breaks count d time file site before now after chosen fine others h =
      ⊎_elim (λ was. absurd (subst IsFine was.0 fine))
      (λ new. subst (λ (a : DeskState S). Alone d a.site → Goes d a) (sym new.5)
      (drops_one trust gives may_fail sources tells files may_leave moment images_since d time file (trouble.Broken before now) after.site chosen (λ works. absurd works) (λ told works. absurd works)) others) h

  dropped_lacks : (d : DeskState S) (time : ℕ) (file : FileNo) (site : S) (after : DeskState S) → Collected d file → IsFine d.trouble → Alone d after.site → Lacks (dropped_in d time file site) after → Goes d after
  dropped_lacks d time file site after chosen fine others h =
      ⊎_elim (λ was. absurd (subst IsFine was.0 fine))
      (λ new. subst (λ (a : DeskState S). Alone d a.site → Goes d a) (sym new.1)
      (drops_one trust gives may_fail sources tells files may_leave moment images_since d time file trouble.Wants after.site chosen (λ works. absurd works) (λ told works. absurd works)) others) h

  breaks_off : (count : S → ℕ) (d : DeskState S) (time : ℕ) (file : FileNo) (before now : ℕ) (after : DeskState S) → Collected d file → IsFine d.trouble → Alone d after.site → BreaksOff count d time file before now after → Goes d after
  breaks_off count d time file before now after chosen fine others h =
      ⊎_elim (λ first. breaks_goes trust gives may_fail sources tells files may_leave moment images_since count d d.stop before now after (λ none. none) others first)
      (λ later. dropped_breaks count d time file later.0 before now after chosen fine others later.2) h

  lacks_then : (d : DeskState S) (time : ℕ) (file : FileNo) (after : DeskState S) → Collected d file → IsFine d.trouble → Alone d after.site → LacksThen d time file after → Goes d after
  lacks_then d time file after chosen fine others h =
      ⊎_elim (λ first. lacks_goes trust gives may_fail sources tells files may_leave moment images_since d d.stop after (λ none. none) others first)
      (λ later. dropped_lacks d time file later.0 after chosen fine others later.1) h

  -- nothing was dropped
  pub same_goes : (d after : DeskState S) → after ≡ d → Alone d after.site → Goes d after
  same_goes d after same others =
      subst (λ (a : DeskState S). Alone d a.site → Goes d a) (sym same) (stays trust gives may_fail sources tells files may_leave moment images_since d d.stop d.trouble d.site (λ none. none) (λ fine. fine)) others

  -- whatever a collection answers
  pub collects_goes : (count : S → ℕ) (d : DeskState S) (time : ℕ) (r : Result (Option FileNo) CollectRefused) (after : DeskState S)
      → IfOk r (λ dropped. IfSome dropped (λ file. tells → files after.site (file_name d.plan file.0) ≡ None)) → Alone d after.site → Collects count d time r after → Goes d after
  collects_goes count d time (Ok (Some file)) after removed others h =
      subst (λ (a : DeskState S). (tells → files a.site (file_name d.plan file.0) ≡ None) → Alone d a.site → Goes d a) (sym h.2)
      (λ gone. drops_one trust gives may_fail sources tells files may_leave moment images_since d time file d.trouble after.site h.1 (λ fine. fine) (λ told fine. gone told)) removed others
  collects_goes count d time (Ok None) after removed others h = same_goes d after h.2 others
  collects_goes count d time (Err refused.LogPlaces) after removed others h = same_goes d after h.2 others
  collects_goes count d time (Err (refused.Broken before now)) after removed others h =
      ⊎_elim (λ first. breaks_goes trust gives may_fail sources tells files may_leave moment images_since count d d.stop before now after (λ none. none) others first)
      (λ later. breaks_off count d time later.0 before now after later.2 later.1 others later.3) h
  collects_goes count d time (Err refused.Memory) after removed others h =
      ⊎_elim (λ first. lacks_goes trust gives may_fail sources tells files may_leave moment images_since d d.stop after (λ none. none) others first)
      (λ later. lacks_then d time later.0 after later.2 later.1 others later.3) h

-- it logged the drop of a file at most
pub collects_logs : {S : Type 0} (count : S → ℕ) (d : DeskState S) (time : ℕ) (r : Result (Option FileNo) CollectRefused) (after : DeskState S) → Collects count d time r after → MayDrop (records_of d.moves) (records_of after.moves)
collects_logs {S} count d time (Ok (Some file)) after h = inr (time, (file, ap (λ (a : DeskState S). records_of a.moves) h.2 ∙ records-push d.moves (records.Dropped time file)))
collects_logs {S} count d time (Ok None) after h = inl (ap (λ (a : DeskState S). records_of a.moves) h.2)
collects_logs {S} count d time (Err refused.LogPlaces) after h = inl (ap (λ (a : DeskState S). records_of a.moves) h.2)
collects_logs {S} count d time (Err (refused.Broken before now)) after h =
    ⊎_elim (λ first. inl (breaks_same count d before now after first))
    (λ later. ⊎_elim (λ first. inl (breaks_same count d before now after first))
    (λ behind. inr (time, (later.0, breaks_same count (dropped_in d time later.0 behind.0) before now after behind.2 ∙ records-push d.moves (records.Dropped time later.0)))) later.3) h
collects_logs {S} count d time (Err refused.Memory) after h =
    ⊎_elim (λ first. inl (lacks_same d after first))
    (λ later. ⊎_elim (λ first. inl (lacks_same d after first))
    (λ behind. inr (time, (later.0, lacks_same (dropped_in d time later.0 behind.0) after behind.1 ∙ records-push d.moves (records.Dropped time later.0)))) later.3) h

breaks_plan : {S : Type 0} (count : S → ℕ) (d : DeskState S) (before now : ℕ) (after : DeskState S) → Breaks count d before now after → after.plan ≡ d.plan
breaks_plan {S} count d before now after h = ⊎_elim (λ was. ap (λ (a : DeskState S). a.plan) was.1) (λ new. ap (λ (a : DeskState S). a.plan) new.5) h

lacks_plan : {S : Type 0} (d after : DeskState S) → Lacks d after → after.plan ≡ d.plan
lacks_plan {S} d after h = ⊎_elim (λ was. ap (λ (a : DeskState S). a.plan) was.1) (λ new. ap (λ (a : DeskState S). a.plan) new.1) h

collects_plan : {S : Type 0} (count : S → ℕ) (d : DeskState S) (time : ℕ) (r : Result (Option FileNo) CollectRefused) (after : DeskState S) → Collects count d time r after → after.plan ≡ d.plan
collects_plan {S} count d time (Ok (Some file)) after h = ap (λ (a : DeskState S). a.plan) h.2
collects_plan {S} count d time (Ok None) after h = ap (λ (a : DeskState S). a.plan) h.2
collects_plan {S} count d time (Err refused.LogPlaces) after h = ap (λ (a : DeskState S). a.plan) h.2
collects_plan {S} count d time (Err (refused.Broken before now)) after h =
    ⊎_elim (λ first. breaks_plan count d before now after first)
    (λ later. ⊎_elim (λ first. breaks_plan count d before now after first) (λ behind. breaks_plan count (dropped_in d time later.0 behind.0) before now after behind.2) later.3) h
collects_plan {S} count d time (Err refused.Memory) after h =
    ⊎_elim (λ first. lacks_plan d after first) (λ later. ⊎_elim (λ first. lacks_plan d after first) (λ behind. lacks_plan (dropped_in d time later.0 behind.0) after behind.1) later.3) h

-- ---- what such a drop leaves

pub drop_idle : (P Q : Plan) (H all : List Record) → Q ≡ P → MayDrop H all → length (running_rules P H) ≤ 0 → length (running_rules Q all) ≤ 0
drop_idle P Q H all same logs idle =
    subst (λ (R : Plan). length (running_rules R all) ≤ 0) (sym same)
    (⊎_elim (λ are. subst (λ (G : List Record). length (running_rules P G) ≤ 0) (sym are) idle)
    (λ drop. subst (λ (G : List Record). length (running_rules P G) ≤ 0) (sym drop.1.1) (let stood = dropped_runs P H drop.0 drop.1.0 in omega (arith, stood, idle))) logs)

pub collects_idle : {S : Type 0} (count : S → ℕ) (d : DeskState S) (time : ℕ) (r : Result (Option FileNo) CollectRefused) (after : DeskState S) → length (running_rules d.plan (records_of d.moves)) ≤ 0
    → Collects count d time r after → IsFine after.trouble → length (running_rules after.plan (records_of after.moves)) ≤ 0
collects_idle {S} count d time r after idle h fine =
    drop_idle d.plan after.plan (records_of d.moves) (records_of after.moves) (collects_plan count d time r after h) (collects_logs count d time r after h) idle

-- what a collection that drops a file leaves to be logged
pub collects_due : {S : Type 0} (count : S → ℕ) (d : DeskState S) (time : ℕ) (file : FileNo) (after : DeskState S) → Collects count d time (Ok (Some file)) after
    → records_due after.plan (records_of after.moves) ≤ records_due d.plan (records_of d.moves)
collects_due {S} count d time file after h =
    subst (λ (a : DeskState S). records_due a.plan (records_of a.moves) ≤ records_due d.plan (records_of d.moves)) (sym h.2)
    (subst (λ (G : List Record). records_due d.plan G ≤ records_due d.plan (records_of d.moves)) (sym (records-push d.moves (records.Dropped time file)))
    (due_dropped d.plan (records_of d.moves) time file (chosen-free d file h.1)))

pub collects_longer : {S : Type 0} (count : S → ℕ) (d : DeskState S) (time : ℕ) (file : FileNo) (after : DeskState S) → Collects count d time (Ok (Some file)) after
    → length (records_of d.moves) + 1 ≤ length (records_of after.moves)
collects_longer {S} count d time file after h =
    let same = ap (λ (a : DeskState S). length (records_of a.moves)) h.2 in
    let more = ap length (records-push d.moves (records.Dropped time file)) in
    omega (arith, same, more, length-append (records_of d.moves) (records.Dropped time file ∷ []))
