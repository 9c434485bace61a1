-- From the desk at its end to what a run leaves.
use Rattle.std.proofs.Common.{length-append, ◌≡◌, ◌≤◌, ◌<◌, arith, ◌⊎◌, ◌∙◌, inl, inr, ⊎_elim, ℕ, true, List, [], ◌∷◌, ◌++◌, length, Option, None, Result, Ok, Err, refl, sym, ap, subst}
use Rattle.std.specs.Prelude.{IfOk, OnOk}
use mathlib.Core.List.{IsPrefix}
use Rattle.flow_types.specs.declared.plan.Plan.{Plan}
use Rattle.flow_types.specs.declared.numbers.Content.{Content}
use Rattle.flow_types.specs.declared.job.Job.{Job}
use Rattle.flow_types.specs.declared.job.Failure.{Failure}
use Rattle.flow_types.specs.declared.records.Record.{Record}
use Rattle.flow_types.specs.Serial.{Contents, Function}
use Rattle.run_history.specs.declared.answers.Check.{Check}
use Rattle.run_history.specs.declared.options.Options.{Options}
use Rattle.run_history.specs.Answers.{before_end, end_over}
use Rattle.run_history.specs.declared.moves.Move.{Move}
use Rattle.run_history.specs.Links.{records_of}
use Rattle.outside.specs.Disk.{Outcomes}
use Rattle.outside.specs.Files.{Files}
use Rattle.outside.specs.declared.fault.Fault.TheVariants as devices
use Rattle.desk.specs.declared.answers.Trouble.{Trouble}
use Rattle.desk.specs.declared.answers.StartFault.TheVariants as faults
use Rattle.flow_types.specs.Plans.{is_empty}
use Rattle.run_history.specs.History.{since_opening}
use Rattle.run_history.specs.Spent.{SpentOnce}
use Rattle.run_history.specs.Storage.{running_rules}
use Rattle.run_history.proofs.Spent.{idle-spent}
use Rattle.rule_graph.specs.Spelling.{plan_digest}
use Rattle.desk.specs.Kept.{IsLegal, Keeps, WasKept}
use Rattle.desk.specs.declared.answers.Trouble.TheVariants as trouble
use Rattle.desk.specs.State.{DeskState, HasCounts, IsCut, IsFine}
use Rattle.desk.proofs.Keeping.{not_cut}
use Rattle.local_run.specs.declared.halt.Halt.{Halt}
use Rattle.local_run.specs.declared.halt.Halt.TheVariants as halts
use Rattle.local_run.specs.Course.{Closed, GoesOn, HaltsBy, IsBroken}
use Rattle.local_run.specs.Links.{link_moves}
use Rattle.local_run.specs.declared.ended.Stopped.{Stopped}
use Rattle.local_run.specs.declared.ended.Stopped.TheVariants as stopped
use Rattle.local_run.specs.Runs.{Adds, HasCauses, IsAdmitted, IsClosedRun, IsCutRun, LosesNone, ended_by}
use Rattle.local_run.proofs.Going.{goes_records}

pub adds_records : {S : Type 0} (trust : Type 0) (gives : Function) (may_fail : Job → Failure → Type 0) (sources : Contents) (tells : Type 0) (files : S → Files) (may_leave : S → Outcomes) (moment : S → ℕ)
    (images_since : S → ℕ → Files → Type 0) (links : List Move) (d after : DeskState S) (all : List Record) → all ≡ records_of after.moves
    → GoesOn trust gives may_fail sources tells files may_leave moment images_since links d after → Adds trust gives may_fail sources d.plan (records_of d.moves) all
adds_records {S} trust gives may_fail sources tells files may_leave moment images_since links d after all are goes = record {
  more = goes.more;
  are = are ∙ goes_records trust gives may_fail sources tells files may_leave moment images_since links d after goes;
  honest = goes.honest;
}

-- where the run isn't cut short the desk works
pub fine_run : {S : Type 0} (d after : DeskState S) (before now : ℕ) (r : Result Check Halt) → HaltsBy after.trouble before now r → Closed d after r → (IsCutRun (ended_by r) → ⊥) → IsFine after.trouble
fine_run {S} d after before now (Ok check) halt closed whole = closed.0
fine_run {S} d after before now (Err (halts.Damaged file logged found)) halt closed whole = halt
fine_run {S} d after before now (Err halts.Runner) halt closed whole = halt.0
fine_run {S} d after before now (Err halts.Site) halt closed whole = absurd (whole tt)
fine_run {S} d after before now (Err halts.Memory) halt closed whole = absurd (whole tt)

cut_run : {S : Type 0} (d after : DeskState S) (before now : ℕ) (r : Result Check Halt) → HaltsBy after.trouble before now r → Closed d after r → IsCut after.trouble → IsCutRun (ended_by r)
cut_run {S} d after before now (Ok check) halt closed cut = not_cut after.trouble closed.0 cut
cut_run {S} d after before now (Err (halts.Damaged file logged found)) halt closed cut = not_cut after.trouble halt cut
cut_run {S} d after before now (Err halts.Runner) halt closed cut = not_cut after.trouble halt.0 cut
cut_run {S} d after before now (Err halts.Site) halt closed cut = tt
cut_run {S} d after before now (Err halts.Memory) halt closed cut = tt

-- a run that was started and stopped in no append isn't cut short
pub closed_whole : (how : Result Check Stopped) → IsClosedRun how → IsCutRun how → ⊥
closed_whole (Ok check) closed cut = cut
closed_whole (Err (stopped.Refused why)) closed cut = closed
closed_whole (Err (stopped.Halted (halts.Damaged file logged found))) closed cut = cut
closed_whole (Err (stopped.Halted halts.Runner)) closed cut = cut
closed_whole (Err (stopped.Halted halts.Site)) closed cut = closed
closed_whole (Err (stopped.Halted halts.Memory)) closed cut = closed
closed_whole (Err stopped.Hall) closed cut = cut
closed_whole (Err (stopped.Unheard fault)) closed cut = closed
closed_whole (Err (stopped.Unopened fault)) closed cut = closed

-- and nothing was wrong with its records
pub closed_admitted : (how : Result Check Stopped) → IsClosedRun how → IsAdmitted how
closed_admitted (Ok check) closed = tt
closed_admitted (Err (stopped.Refused why)) closed = absurd closed
closed_admitted (Err (stopped.Halted halt)) closed = tt
closed_admitted (Err stopped.Hall) closed = tt
closed_admitted (Err (stopped.Unheard fault)) closed = absurd closed
closed_admitted (Err (stopped.Unopened fault)) closed = absurd closed

none_left : (xs : List ℕ) → length xs ≤ 0 → is_empty xs ≡ true
none_left [] le = refl
none_left (x ∷ xs) le = absurd (omega (arith, le))

-- where nothing runs each attempt was closed once
pub idle_spent : (P : Plan) (H : List Record) → IsLegal P H → length (running_rules P H) ≤ 0 → SpentOnce (since_opening H)
idle_spent P H legal idle = idle-spent P (plan_digest P) H legal (none_left (running_rules P H) idle)

-- causes since an earlier count
pub causes_since : (first before now runner_before runner_now : ℕ) (how : Result Check Stopped) → first ≤ before → HasCauses before now runner_before runner_now how → HasCauses first now runner_before runner_now how
causes_since first before now b n (Ok check) le h = tt
causes_since first before now b n (Err (stopped.Refused (faults.OtherFlow logged found))) le h = tt
causes_since first before now b n (Err (stopped.Refused (faults.NotLegal at))) le h = tt
causes_since first before now b n (Err (stopped.Refused (faults.LogFull records))) le h = tt
causes_since first before now b n (Err (stopped.Refused (faults.StoredAboveLimit stored limit))) le h = tt
causes_since first before now b n (Err (stopped.Refused (faults.SourceMissing file))) le h = tt
causes_since first before now b n (Err (stopped.Refused (faults.SourceTooLarge file size))) le h = tt
causes_since first before now b n (Err (stopped.Refused (faults.SourceChanged file logged found))) le h = tt
causes_since first before now b n (Err (stopped.Refused (faults.FileDamaged file logged found))) le h = tt
causes_since first before now b n (Err (stopped.Refused (faults.Site old new))) le h = let up : before < now = h in omega (arith, le, up)
causes_since first before now b n (Err (stopped.Refused faults.Memory)) le h = tt
causes_since first before now b n (Err (stopped.Halted (halts.Damaged file logged found))) le h = tt
causes_since first before now b n (Err (stopped.Halted halts.Runner)) le h = h
causes_since first before now b n (Err (stopped.Halted halts.Site)) le h = let up : before < now = h in omega (arith, le, up)
causes_since first before now b n (Err (stopped.Halted halts.Memory)) le h = tt
causes_since first before now b n (Err stopped.Hall) le h = tt
causes_since first before now b n (Err (stopped.Unheard fault)) le h = tt
causes_since first before now b n (Err (stopped.Unopened devices.Failed)) le h = let up : before < now = h in omega (arith, le, up)
causes_since first before now b n (Err (stopped.Unopened devices.Memory)) le h = tt

pub on_ok : {A E : Type 0} (r : Result A E) (P Q : Type 0) → (P → Q) → OnOk r P → OnOk r Q
on_ok (Ok x) P Q f p = f p
on_ok (Err why) P Q f p = tt

cut_more : (fits : Plan → ℕ → Content → Option (List ℕ) → Type 0) (P : Plan) (log : List ℕ) (base : ℕ) (H : List Record) (cut cut2 : Type 0) (image : Files) → (cut → cut2) → WasKept fits P log base H cut image → WasKept fits P log base H cut2 image
cut_more fits P log base H cut cut2 image f kept = record {
  records = kept.records;
  since = kept.since;
  kept = kept.kept;
  known = ⊎_elim (λ (p : IsPrefix kept.records H). inl p) (λ (q : cut × ((x : Record) × (kept.records ≡ H ++ (x ∷ [])))). inr (f q.0, q.1)) kept.known;
}

module _ {S : Type 0} (fits : Plan → ℕ → Content → Option (List ℕ) → Type 0) (d after : DeskState S) (all : List Record) (trust : Type 0) (gives : Function) (may_fail : Job → Failure → Type 0) (sources : Contents)
    (tells : Type 0) (files : S → Files) (may_leave : S → Outcomes) (moment : S → ℕ) (images_since : S → ℕ → Files → Type 0) (links : List Move) where
  -- what was kept at each moment
  pub was_kept : (past : Type 0) (before now : ℕ) (r : Result Check Halt) (image : Files) → all ≡ records_of after.moves → GoesOn trust gives may_fail sources tells files may_leave moment images_since links d after
      → HaltsBy after.trouble before now r → Closed d after r → past ⊎ WasKept fits after.plan after.log after.base (records_of after.moves) (IsCut after.trouble) image
      → past ⊎ WasKept fits d.plan d.log d.base all (IsCutRun (ended_by r)) image
  was_kept past before now r image are goes halt closed left =
      ⊎_elim (λ (p : past). inl p)
      (λ (k : WasKept fits after.plan after.log after.base (records_of after.moves) (IsCut after.trouble) image). inr
      (subst (λ (P : Plan). WasKept fits P d.log d.base all (IsCutRun (ended_by r)) image) goes.plan
      (subst (λ (n : List ℕ). WasKept fits after.plan n d.base all (IsCutRun (ended_by r)) image) goes.log
      (subst (λ (b : ℕ). WasKept fits after.plan after.log b all (IsCutRun (ended_by r)) image) goes.base
      (subst (λ (G : List Record). WasKept fits after.plan after.log after.base G (IsCutRun (ended_by r)) image) (sym are)
      (cut_more fits after.plan after.log after.base (records_of after.moves) (IsCut after.trouble) (IsCutRun (ended_by r)) image (cut_run d after before now r halt closed) k)))))) left

  -- and what is kept now
  pub is_kept : (image : Files) → all ≡ records_of after.moves → GoesOn trust gives may_fail sources tells files may_leave moment images_since links d after → Keeps fits after.plan after.log (records_of after.moves) image → Keeps fits d.plan d.log all image
  is_kept image are goes k =
      subst (λ (P : Plan). Keeps fits P d.log all image) goes.plan
      (subst (λ (n : List ℕ). Keeps fits after.plan n all image) goes.log (subst (λ (G : List Record). Keeps fits after.plan after.log G image) (sym are) k))

rose : (first now : ℕ) (t : Trouble) → IsBroken t → HasCounts first now t → first < now
rose first now trouble.Fine broken counts = absurd broken
rose first now (trouble.Broken before after) broken counts = let start = counts.0 in let up = counts.1 in let le = counts.2 in omega (arith, start, up, le)
rose first now trouble.Wants broken counts = absurd broken

pub causes_run : (first now before after : ℕ) (t : Trouble) (r : Result Check Halt) → HaltsBy t before after r → HasCounts first now t → HasCauses first now before after (ended_by r)
causes_run first now before after t (Ok check) halt counts = tt
causes_run first now before after t (Err (halts.Damaged file logged found)) halt counts = tt
causes_run first now before after t (Err halts.Runner) halt counts = halt.1
causes_run first now before after t (Err halts.Site) halt counts = rose first now t halt counts
causes_run first now before after t (Err halts.Memory) halt counts = tt

-- no record is taken back
pub longer : {S : Type 0} (trust : Type 0) (gives : Function) (may_fail : Job → Failure → Type 0) (sources : Contents) (tells : Type 0) (files : S → Files) (may_leave : S → Outcomes) (moment : S → ℕ)
    (images_since : S → ℕ → Files → Type 0) (links : List Move) (d after : DeskState S) → GoesOn trust gives may_fail sources tells files may_leave moment images_since links d after
    → length (records_of d.moves) ≤ length (records_of after.moves)
longer {S} trust gives may_fail sources tells files may_leave moment images_since links d after goes =
    let same = ap length (goes_records trust gives may_fail sources tells files may_leave moment images_since links d after goes) in
    omega (arith, same, length-append (records_of d.moves) goes.more)

-- where no link ever joined, a run that came to its end gave no attempt up
pub loses_none : {S : Type 0} (trust : Type 0) (gives : Function) (may_fail : Job → Failure → Type 0) (sources : Contents) (tells : Type 0) (files : S → Files) (may_leave : S → Outcomes) (moment : S → ℕ)
    (images_since : S → ℕ → Files → Type 0) (links : List Move) (d after : DeskState S) (all : List Record) (r : Result Check Halt) → d.stop ≡ None → link_moves after.moves ≡ [] → all ≡ records_of after.moves
    → GoesOn trust gives may_fail sources tells files may_leave moment images_since links d after → Closed d after r → OnOk (ended_by r) (LosesNone (records_of d.moves) all)
loses_none {S} trust gives may_fail sources tells files may_leave moment images_since links d after all (Ok check) unset unlinked are goes closed =
    (goes.more, are ∙ goes_records trust gives may_fail sources tells files may_leave moment images_since links d after goes, goes.alone (closed.1 ∙ unset) unlinked)
loses_none {S} trust gives may_fail sources tells files may_leave moment images_since links d after all (Err halt) unset unlinked are goes closed = tt

-- its answer is what an end of its records answers
pub ends_run : {S : Type 0} (trust : Type 0) (gives : Function) (may_fail : Job → Failure → Type 0) (sources : Contents) (tells : Type 0) (files : S → Files) (may_leave : S → Outcomes) (moment : S → ℕ)
    (images_since : S → ℕ → Files → Type 0) (links : List Move) (d after : DeskState S) (all : List Record) (r : Result Check Halt) → d.stop ≡ None → all ≡ records_of after.moves
    → GoesOn trust gives may_fail sources tells files may_leave moment images_since links d after → Closed d after r
    → IfOk r (λ check. after.stop ≡ None → check ≡ end_over after.plan after.options (before_end (records_of after.moves)) None)
    → IfOk (ended_by r) (λ check. check ≡ end_over d.plan d.options (before_end all) None)
ends_run {S} trust gives may_fail sources tells files may_leave moment images_since links d after all (Ok check) unset are goes closed ends =
    ends (closed.1 ∙ unset)
    ∙ ap (λ (P : Plan). end_over P after.options (before_end (records_of after.moves)) None) goes.plan
    ∙ ap (λ (O : Options). end_over d.plan O (before_end (records_of after.moves)) None) goes.options
    ∙ ap (λ (G : List Record). end_over d.plan d.options (before_end G) None) (sym are)
ends_run {S} trust gives may_fail sources tells files may_leave moment images_since links d after all (Err halt) unset are goes closed ends = tt
