-- From what a crash may leave at the entry to what it may leave once the log was read.
use Rattle.std.proofs.Common.{◌≡◌, ◌≢◌, ◌≤◌, ◌⊎◌, ◌∙◌, inl, inr, ⊎_elim, ℕ, Bool, true, false, cond, List, [], ◌∷◌, length, Option, Some, None, Result, refl, sym, ap, subst, true≢false}
use Rattle.std.specs.Prelude.{unwrap_or}
use Rattle.std.specs.List.{list_any}
use Rattle.std.specs.Option.{option_map_or}
use Rattle.std.specs.Str.{bytes_eq}
use Rattle.std.proofs.lemmas.Slice.Eq.{bytes_eq-Decides}
use Rattle.flow_types.specs.declared.plan.Plan.{Plan}
use Rattle.flow_types.specs.declared.numbers.Content.{Content}
use Rattle.flow_types.specs.declared.records.Record.{Record}
use Rattle.flow_types.specs.Plans.{maker_of, makes, sources_of}
use Rattle.run_history.specs.declared.states.FileState.{FileState}
use Rattle.run_history.specs.declared.states.FileState.TheVariants as file
use Rattle.run_history.specs.History.{last_said, part}
use Rattle.run_history.specs.States.{drops, made_state, opened_sources, outs_in, present_with, row_of, sources_in}
use Rattle.run_history.specs.Laws.{IsPresent}
use Rattle.outside.specs.Disk.{IsImage, LeavesOnly, Outcomes}
use Rattle.outside.specs.Files.{Files}
use Rattle.txn_log.specs.Spells.{IsLogOf, IsUnbegun, Spells}
use Rattle.log_recover.specs.Laws.{SpellsOneList}
use Rattle.log_recover.specs.Recovery.{IsRecovering}
use Rattle.file_store.specs.Outputs.{file_name}
use Rattle.run_history.specs.declared.answers.Check.{Check}
use Rattle.outside.proofs.Moments.{weakened}
use Rattle.desk.specs.Kept.{IsLegal, Keeps, ReadsStay, StaysBeside, WasKept}
use Rattle.desk.proofs.Others.{then_stays}
use Rattle.local_run.specs.declared.ended.Stopped.{Stopped}
use Rattle.local_run.specs.Course.{IsUnmade}
use Rattle.local_run.specs.Runs.{IsSparedName}
use Rattle.desk.proofs.Keeping.{log_spells}
use Rattle.local_run.specs.Moments.{IsBefore, IsMoment, IsResumable, KeepsSome}

no_row : (f : ℕ) (fs : List ℕ) (c : Content) → present_with (row_of f fs []) ≡ file.Present c → ⊥
no_row f [] c is = true≢false (ap is_absent is)
  where
    is_absent : FileState → Bool
    is_absent file.Absent = true
    is_absent file.Collected = false
    is_absent (file.Present content) = false
no_row f (g ∷ fs) c is = true≢false (ap is_absent is)
  where
    is_absent : FileState → Bool
    is_absent file.Absent = true
    is_absent file.Collected = false
    is_absent (file.Present content) = false

none_made : (P : Plan) (G : List Record) (f : ℕ) (maker : Option ℕ) (c : Content) → part G ≡ [] → option_map_or (made_state P G f) maker (present_with (row_of f (sources_of P) (opened_sources G))) ≡ file.Present c → ⊥
none_made P G f None c none is =
    no_row f (sources_of P) c (ap (λ (xs : List Record). present_with (row_of f (sources_of P) (unwrap_or (last_said sources_in xs) []))) (sym none) ∙ is)
none_made P G f (Some r) c none is = true≢false (ap is_absent (absent ∙ is))
  where
    is_absent : FileState → Bool
    is_absent file.Absent = true
    is_absent file.Collected = false
    is_absent (file.Present content) = false

    absent : file.Absent ≡ made_state P G f r
    absent = ap (λ (xs : List Record). option_map_or (λ o. cond (list_any (drops f) (part G)) file.Collected (present_with (row_of f (makes P r) o))) (last_said (outs_in r) xs) file.Absent) (sym none)

-- In a part that isn't begun no file is present.
pub none_present : (P : Plan) (G : List Record) (f : ℕ) (c : Content) → part G ≡ [] → IsPresent P G f c → ⊥
none_present P G f c none is = none_made P G f (maker_of P f) c none is

-- the image, with the log as it is read
abbrev mixed : List ℕ → Option (List ℕ) → Files → Files
mixed log there image m = cond (bytes_eq m log) there (image m)

at_log : (log : List ℕ) (there : Option (List ℕ)) (image : Files) → mixed log there image log ≡ there
at_log log there image = ap (λ b. cond b there (image log)) ((bytes_eq-Decides log log).1 refl)

beside : (log : List ℕ) (there : Option (List ℕ)) (image : Files) (m : List ℕ) → m ≢ log → mixed log there image m ≡ image m
beside log there image m other = by_test (bytes_eq m log) refl
  where
    by_test : (t : Bool) → bytes_eq m log ≡ t → cond (bytes_eq m log) there (image m) ≡ image m
    by_test true is = absurd (other ((bytes_eq-Decides m log).0 is))
    by_test false is = ap (λ b. cond b there (image m)) is

is_mixed : (outcomes : Outcomes) (log : List ℕ) (there : Option (List ℕ)) (image : Files) → outcomes log there → ((m : List ℕ) → m ≢ log → outcomes m (image m)) → IsImage outcomes (mixed log there image)
is_mixed outcomes log there image here others m = by_test (bytes_eq m log) refl
  where
    by_test : (t : Bool) → bytes_eq m log ≡ t → outcomes m (cond (bytes_eq m log) there (image m))
    by_test true is = subst (λ (file : Option (List ℕ)). outcomes m file) (sym (ap (λ b. cond b there (image m)) is)) (subst (λ (n : List ℕ). outcomes n there) (sym ((bytes_eq-Decides m log).0 is)) here)
    by_test false is = subst (λ (file : Option (List ℕ)). outcomes m file) (sym (ap (λ b. cond b there (image m)) is)) (others m (λ same. true≢false (sym ((bytes_eq-Decides m log).1 same) ∙ is)))

-- What is known of the site once the log was read: the log spells the records, and under each other name there is nothing new.
pub record WasRead (log : List ℕ) (H : List Record) (there : Option (List ℕ)) (old new : Outcomes) : Type 0 where
  pub one : SpellsOneList
  pub reads : old log there
  pub spelled : Spells H there
  pub logged : (file : Option (List ℕ)) → new log file → IsLogOf H file
  pub crash : (m : List ℕ) (file : Option (List ℕ)) → m ≢ log → new m file → old m file

module _ (fits : Plan → ℕ → Content → Option (List ℕ) → Type 0) (P : Plan) (log : List ℕ) (H : List Record) (apart : (f : ℕ) → file_name P f ≢ log) where
  by_some : (old new : Outcomes) (there : Option (List ℕ)) (image : Files) → WasRead log H there old new → IsImage new image → KeepsSome fits P log (mixed log there image) → Keeps fits P log H image
  by_some old new there image read is some =
      let same : some.0 ≡ H = read.one some.0 H there (subst (Spells some.0) (at_log log there image) some.1.spells) read.spelled in
      let k : Keeps fits P log H (mixed log there image) = subst (λ (G : List Record). Keeps fits P log G (mixed log there image)) same some.1 in
      record {
        spells = log_spells H (image log) (read.logged (image log) (is log));
        legal = k.legal;
        files = λ f c present. subst (fits P f c) (beside log there image (file_name P f) (apart f)) (k.files f c present);
      }

  by_none : (old new : Outcomes) (there : Option (List ℕ)) (image : Files) → WasRead log H there old new → IsImage new image → H ≡ [] → Keeps fits P log H image
  by_none old new there image read is none = record {
    spells = log_spells H (image log) (read.logged (image log) (is log));
    legal = subst (λ (G : List Record). IsLegal P G) (sym none) refl;
    files = λ f c present. absurd (none_present P H f c (ap part none) present);
  }

  -- what was resumable is kept once the log was read
  pub kept_read : (old new : Outcomes) (there : Option (List ℕ)) → WasRead log H there old new → IsResumable fits P log H old → (image : Files) → IsImage new image → Keeps fits P log H image
  kept_read old new there read resumable image is =
      ⊎_elim (λ (none : H ≡ []). by_none old new there image read is none)
      (λ (some : (image : Files) → IsImage old image → KeepsSome fits P log image).
      by_some old new there image read is (some (mixed log there image) (is_mixed old log there image read.reads (λ m other. read.crash m (image m) other (is m))))) resumable

-- the moments before the log was read, and those of the run
pub all_moments : {S : Type 0} (moment : S → ℕ) (images_since : S → ℕ → Files → Type 0) (fits : Plan → ℕ → Content → Option (List ℕ) → Type 0) (P : Plan) (log : List ℕ) (files : Files) (outcomes : Outcomes) (H all : List Record) (cut : Type 0)
    (old new : S) (born : ℕ) (image : Files) → born ≤ moment old → LeavesOnly moment images_since old new (IsRecovering log (files log) outcomes)
    → images_since new born image ⊎ WasKept fits P log (length H) all cut image → images_since old born image ⊎ IsMoment fits P log files outcomes H all cut image
all_moments {S} moment images_since fits P log files outcomes H all cut old new born image later run left =
    ⊎_elim (λ (was : images_since new born image). ⊎_elim (λ (at_entry : images_since old born image). inl at_entry)
    (λ (here : IsRecovering log (files log) outcomes image). inr (inl (record { spelled = here.log; others = here.others }))) (run.before born image later was))
    (λ (k : WasKept fits P log (length H) all cut image). inr (inr k)) left

-- The same where the log has its name from the recovery.
module _ {S : Type 0} (may_leave : S → Outcomes) (moment : S → ℕ) (images_since : S → ℕ → Files → Type 0) (P : Plan) (name other : List ℕ) (same : other ≡ name) (G H : List Record) (these : G ≡ H) (files : Files) (old new : S) where
  pub keeping : (fits : Plan → ℕ → Content → Option (List ℕ) → Type 0) → ((f : ℕ) → file_name P f ≢ name) → SpellsOneList → may_leave old name (files name) → Spells G (files name)
      → ((file : Option (List ℕ)) → may_leave new other file → IsLogOf G file) → ((m : List ℕ) (file : Option (List ℕ)) → m ≢ name → may_leave new m file → may_leave old m file)
      → IsResumable fits P name H (may_leave old) → (image : Files) → IsImage (may_leave new) image → Keeps fits P other G image
  keeping fits apart one reads spelled logged crash resumable image is =
      subst (λ (n : List ℕ). Keeps fits P n G image) (sym same)
      (kept_read fits P name G apart (may_leave old) (may_leave new) (files name) (record {
        one = one;
        reads = reads;
        spelled = spelled;
        logged = λ file left. logged file (subst (λ (n : List ℕ). may_leave new n file) (sym same) left);
        crash = crash;
      }) (subst (λ (K : List Record). IsResumable fits P name K (may_leave old)) (sym these) resumable) image is)

  pub each_moment : (fits : Plan → ℕ → Content → Option (List ℕ) → Type 0) (all : List Record) (cut : Type 0) (born : ℕ) (image : Files) → born ≤ moment old
      → LeavesOnly moment images_since old new (IsRecovering name (files name) (may_leave old)) → images_since new born image ⊎ WasKept fits P other (length G) all cut image
      → images_since old born image ⊎ IsMoment fits P name files (may_leave old) H all cut image
  each_moment fits all cut born image later run left =
      all_moments moment images_since fits P name files (may_leave old) H all cut old new born image later run
      (subst (λ (n : List ℕ). images_since new born image ⊎ WasKept fits P n (length H) all cut image) same
      (subst (λ (K : List Record). images_since new born image ⊎ WasKept fits P other (length K) all cut image) these left))

  pub is_named : (fits : Plan → ℕ → Content → Option (List ℕ) → Type 0) (all : List Record) (image : Files) → Keeps fits P other all image → Keeps fits P name all image
  is_named fits all image k = subst (λ (n : List ℕ). Keeps fits P n all image) same k

-- from an image of a moment a call can go on
module _ (fits : Plan → ℕ → Content → Option (List ℕ) → Type 0) (P : Plan) (log : List ℕ) (files : Files) (outcomes : Outcomes) (H all : List Record) (cut : Type 0) (image : Files) where
  by_outcome : outcomes log (image log) → ((m : List ℕ) → m ≢ log → outcomes m (image m)) → IsImage outcomes image
  by_outcome here others m = by_test (bytes_eq m log) refl
    where
      by_test : (t : Bool) → bytes_eq m log ≡ t → outcomes m (image m)
      by_test true is = subst (λ (n : List ℕ). outcomes n (image n)) (sym ((bytes_eq-Decides m log).0 is)) here
      by_test false is = others m (λ same. true≢false (sym ((bytes_eq-Decides m log).1 same) ∙ is))

  before_keeps : ((there : Files) → IsImage outcomes there → KeepsSome fits P log there) → IsBefore log (files log) outcomes image → KeepsSome fits P log image
  before_keeps some was =
      ⊎_elim (λ (here : outcomes log (image log)). some image (by_outcome here was.others))
      (λ (unbegun : IsUnbegun (files log) × IsUnbegun (image log)). (
        [],
        record {
          spells = inl unbegun.1;
          legal = refl;
          files = λ f c present. absurd (none_present P [] f c refl present);
        },
      )) was.spelled

  pub goes_on_from : ((there : Files) → IsImage outcomes there → KeepsSome fits P log there) → IsMoment fits P log files outcomes H all cut image → KeepsSome fits P log image
  goes_on_from some left =
      ⊎_elim (λ (was : IsBefore log (files log) outcomes image). before_keeps some was) (λ (k : WasKept fits P log (length H) all cut image). (k.records, k.kept)) left

-- what stays of the files that no rule makes
module _ {S : Type 0} (files : S → Files) (may_leave : S → Outcomes) (moment : S → ℕ) (images_since : S → ℕ → Files → Type 0) (P : Plan) (name other : List ℕ) (same : other ≡ name) (old mid new : S) where
  pub others_joined : ((m : List ℕ) (file : Option (List ℕ)) → m ≢ name → may_leave mid m file → may_leave old m file)
      → LeavesOnly moment images_since old mid (IsRecovering name (files old name) (may_leave old)) → StaysBeside may_leave moment images_since (IsUnmade P other) mid new
      → StaysBeside may_leave moment images_since (IsUnmade P name) old new
  others_joined crash run stays =
      then_stays may_leave moment images_since (IsUnmade P name) old mid new
      (record {
        now = λ m file unmade left. crash m file unmade.0 left;
        any_moment = weakened moment images_since old mid (IsRecovering name (files old name) (may_leave old)) (λ image. (m : List ℕ) → IsUnmade P name m → may_leave old m (image m))
            run (λ image here m unmade. here.others m unmade.0);
      })
      (subst (λ (n : List ℕ). StaysBeside may_leave moment images_since (IsUnmade P n) mid new) same stays)

  pub reads_joined : (how : Result Check Stopped) → ((m : List ℕ) → m ≢ name → files mid m ≡ files old m) → ReadsStay files (IsSparedName P other how) mid new → ReadsStay files (IsSparedName P name how) old new
  reads_joined how others reads m spared = subst (λ (n : List ℕ). ReadsStay files (IsSparedName P n how) mid new) same reads m spared ∙ others m spared.0.0
