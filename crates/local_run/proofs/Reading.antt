-- What the reading of inputs leaves of a desk.
use Rattle.std.proofs.Common.{◌≡◌, ◌∙◌, ⊎_elim, ℕ, true, List, [], Some, Result, Ok, Err, refl, sym, ap, subst, true≢false}
use Rattle.std.specs.Prelude.{is_some, unwrap_or}
use Rattle.flow_types.specs.declared.plan.Plan.{Plan}
use Rattle.flow_types.specs.declared.plan.Port.{Port}
use Rattle.flow_types.specs.declared.job.Given.{Given}
use Rattle.flow_types.specs.declared.numbers.Content.{Content}
use Rattle.flow_types.specs.declared.numbers.FileNo.{FileNo}
use Rattle.flow_types.specs.declared.records.Record.{Record}
use Rattle.flow_types.specs.declared.job.Job.{Job}
use Rattle.flow_types.specs.declared.job.Failure.{Failure}
use Rattle.flow_types.specs.Serial.{Contents, Function}
use Rattle.run_history.specs.declared.states.FileState.{FileState}
use Rattle.run_history.specs.declared.states.FileState.TheVariants as file
use Rattle.run_history.specs.Links.{records_of}
use Rattle.run_history.specs.States.{file_state}
use Rattle.run_history.specs.Storage.{is_present, size_in}
use Rattle.run_history.specs.Laws.{IsPresent}
use Rattle.outside.specs.Disk.{Outcomes}
use Rattle.outside.specs.Files.{Files}
use Rattle.desk.specs.declared.answers.Trouble.{Trouble}
use Rattle.desk.specs.declared.answers.Trouble.TheVariants as trouble
use Rattle.desk.specs.declared.answers.InputRefused.{InputRefused}
use Rattle.desk.specs.declared.answers.InputRefused.TheVariants as refused
use Rattle.desk.specs.Inputs.{Looks}
use Rattle.desk.specs.State.{DeskState, IsFine}
use Rattle.local_run.specs.Collecting.{IsUntouched}
use Rattle.local_run.specs.Course.{GoesOn, LeavesAlone}
use Rattle.local_run.specs.Jobs.{ReadsOver, given_at}
use Rattle.local_run.proofs.Alone.{reads_alone}
use Rattle.local_run.proofs.Going.{stays}

by_state : (s : FileState) → is_some (size_in s) ≡ true → (c : Content) × (s ≡ file.Present c)
by_state (file.Present content) is = (content, refl)
by_state file.Absent is = absurd (true≢false (sym is))
by_state file.Collected is = absurd (true≢false (sym is))

-- what was logged of a file that is present
pub logged_of : (P : Plan) (H : List Record) (f : ℕ) → is_present P H f ≡ true → (c : Content) × IsPresent P H f c
logged_of P H f is = by_state (file_state P H f) is

-- a look at a file of a desk that works
pub looks_over : {S : Type 0} (count : S → ℕ) (d : DeskState S) (f : FileNo) (content : Content) (r : Result (List ℕ) InputRefused) (after : DeskState S) → IsFine d.trouble → Looks count d f content r after → ReadsOver d r after
looks_over {S} count d f content (Ok bytes) after fine h = h.1
looks_over {S} count d f content (Err (refused.Damaged named told found)) after fine h = h.3
looks_over {S} count d f content (Err (refused.Broken before now)) after fine h =
    ⊎_elim (λ was. absurd (subst IsFine was.0 fine)) (λ new. new.5) h
looks_over {S} count d f content (Err refused.Memory) after fine h =
    ⊎_elim (λ lacks. ⊎_elim (λ was. absurd (subst IsFine was.0 fine)) (λ new. subst (λ (a : DeskState S). a ≡ record d { trouble = a.trouble; site = a.site }) (sym new.1) refl) lacks)
    (λ same. subst (λ (a : DeskState S). a ≡ record d { trouble = a.trouble; site = a.site }) (sym same.1) refl) h

-- why one isn't read is why all aren't
pub err_over : {S : Type 0} (A B : Type 0) (d mid after : DeskState S) (why : InputRefused) → mid ≡ record d { site = mid.site } → ReadsOver {A = A} mid (Err why) after → ReadsOver {A = B} d (Err why) after
err_over {S} A B d mid after (refused.Damaged f logged found) same h = subst (λ (m : DeskState S). after ≡ record m { site = after.site }) same h
err_over {S} A B d mid after (refused.Broken before now) same h = subst (λ (m : DeskState S). after ≡ record m { trouble = trouble.Broken before now; site = after.site }) same h
err_over {S} A B d mid after refused.Memory same h = subst (λ (m : DeskState S). after ≡ record m { trouble = after.trouble; site = after.site }) same h

-- a desk that reads left as it was is one at which memory may be wanting
pub wanting : {S : Type 0} (d after : DeskState S) → after ≡ record d { site = after.site } → after ≡ record d { trouble = after.trouble; site = after.site }
wanting {S} d after same = subst (λ (a : DeskState S). a ≡ record d { trouble = a.trouble; site = a.site }) (sym same) refl

-- one read after others
pub ok_over : {S : Type 0} (d mid after : DeskState S) → mid ≡ record d { site = mid.site } → after ≡ record mid { site = after.site } → after ≡ record d { site = after.site }
ok_over {S} d mid after same h = subst (λ (m : DeskState S). after ≡ record m { site = after.site }) same h

-- an input as it is due
pub given_due : (contents : Contents) (port : Port) (given : Given) (bytes : List ℕ) → given.remote ≡ port.remote → given.content ≡ bytes → contents port.file.0 ≡ Some bytes → given ≡ given_at contents port
given_due contents port given bytes remote content is = λ i. record { remote = remote i; content = (content ∙ ap (λ o. unwrap_or o []) (sym is)) i }

module _ {S : Type 0} (trust : Type 0) (gives : Function) (may_fail : Job → Failure → Type 0) (sources : Contents) (tells : Type 0) (files : S → Files) (may_leave : S → Outcomes) (moment : S → ℕ)
    (images_since : S → ℕ → Files → Type 0) where
  abbrev pub Goes : DeskState S → DeskState S → Type 0
  Goes d after = GoesOn trust gives may_fail sources tells files may_leave moment images_since [] d after

  abbrev pub Alone : DeskState S → S → Type 0
  Alone d s = tells → LeavesAlone files may_leave moment images_since (IsUntouched d.plan d.log (records_of d.moves)) d.site s

  by_trouble : (d after : DeskState S) (t : Trouble) → after ≡ record d { trouble = t; site = after.site } → (IsFine t → IsFine d.trouble) → Alone d after.site → Goes d after
  by_trouble d after t same works others =
      subst (λ (a : DeskState S). Alone d a.site → Goes d a) (sym same) (stays trust gives may_fail sources tells files may_leave moment images_since d d.stop t after.site (λ none. none) works) others

  over_answer : (A : Type 0) (d after : DeskState S) (r : Result A InputRefused) → IsFine d.trouble → ReadsOver d r after → Alone d after.site → Goes d after
  over_answer A d after (Ok inputs) fine h others = by_trouble d after d.trouble h (λ still. still) others
  over_answer A d after (Err (refused.Damaged f logged found)) fine h others = by_trouble d after d.trouble h (λ still. still) others
  over_answer A d after (Err (refused.Broken before now)) fine h others = by_trouble d after (trouble.Broken before now) h (λ still. fine) others
  over_answer A d after (Err refused.Memory) fine h others = by_trouble d after after.trouble h (λ still. fine) others

  -- the reading of files adds nothing
  pub reads_goes : (A : Type 0) (d after : DeskState S) (r : Result A InputRefused) → IsFine d.trouble → ReadsOver d r after
      → (tells → LeavesAlone files may_leave moment images_since (λ m. Unit {0}) d.site after.site) → Goes d after
  reads_goes A d after r fine h others = over_answer A d after r fine h (λ told. reads_alone files may_leave moment images_since d.plan d.log (records_of d.moves) d.site after.site (others told))
