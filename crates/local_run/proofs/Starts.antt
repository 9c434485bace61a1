-- A start is refused for what stands in its way.
use Rattle.std.proofs.Common.{◌≡◌, ◌≤◌, ◌<◌, ◌+◌, ◌∙◌, ℕ, zero, suc, Bool, true, false, List, [], ◌∷◌, length, map, Option, Some, None, Result, Ok, Err, refl, ap, subst, arith}
use Rattle.std.specs.Prelude.{nat_lt, if◌then◌else◌}
use Rattle.std.specs.List.{range_with_len}
use Rattle.std.proofs.lemmas.Bool.{ltb-false, ltb-true}
use Rattle.flow_types.specs.declared.plan.Plan.{Plan}
use Rattle.flow_types.specs.declared.records.Record.{Record}
use Rattle.flow_types.specs.Plans.{file_numbers, is_empty, is_source}
use Rattle.run_history.specs.declared.options.Options.{Options}
use Rattle.run_history.specs.declared.states.FileState.{FileState}
use Rattle.run_history.specs.declared.answers.Check.{Check}
use Rattle.run_history.specs.Answers.{first_of, or_else}
use Rattle.run_history.specs.History.{part}
use Rattle.run_history.specs.States.{file_state}
use Rattle.outside.specs.Files.{Files}
use Rattle.file_store.specs.Outputs.{file_name}
use Rattle.desk.specs.declared.answers.StartRefused.{StartRefused}
use Rattle.desk.specs.declared.answers.StartFault.{StartFault}
use Rattle.desk.specs.declared.answers.StartFault.TheVariants as faults
use Rattle.desk.specs.Begins.{BeginsRun, FindsFiles, IsRefusal, IsUncutBy}
use Rattle.desk.specs.Openings.{AreSound, early_fault, file_fault, source_fault, state_fault}
use Rattle.desk.specs.State.{DeskState}
use Rattle.local_run.specs.declared.halt.Halt.{Halt}
use Rattle.local_run.specs.declared.ended.Stopped.{Stopped}
use Rattle.local_run.specs.Ends.{StartEnds, first_file_fault, run_fault}
use Rattle.local_run.specs.Runs.{ended_by}

-- nothing is said of these numbers
none_among : {A : Type 0} (said : ℕ → Option A) (a n : ℕ) → ((i : ℕ) → a ≤ i → i < a + n → said i ≡ None) → first_of (map said (range_with_len a n)) ≡ None
none_among said a zero none = refl
none_among said a (suc n) none =
    ap (λ o. or_else o (first_of (map said (range_with_len (a + 1) n)))) (none a (omega arith) (omega arith))
    ∙ none_among said (a + 1) n (λ i le lt. none i (omega (arith, le)) (omega (arith, lt)))

-- what is said of the least of them of which anything is said
least_among : {A : Type 0} (said : ℕ → Option A) (a n f : ℕ) (x : A) → a ≤ f → f < a + n → said f ≡ Some x → ((i : ℕ) → a ≤ i → i < f → said i ≡ None)
    → first_of (map said (range_with_len a n)) ≡ Some x
least_among said a zero f x le lt here before = absurd (let wrong : ⊥ = omega (arith, le, lt) in wrong)
least_among said a (suc n) f x le lt here before =
    by_test (nat_lt a f) refl (λ next. least_among said (a + 1) n f x next (omega (arith, lt)) here (λ i low high. before i (omega (arith, low)) high))
  where
    by_test : (b : Bool) → nat_lt a f ≡ b → (a + 1 ≤ f → first_of (map said (range_with_len (a + 1) n)) ≡ Some x) → or_else (said a) (first_of (map said (range_with_len (a + 1) n))) ≡ Some x
    by_test true is rest =
        let less : a < f = ltb-true a f is in
        ap (λ o. or_else o (first_of (map said (range_with_len (a + 1) n)))) (before a (omega arith) less) ∙ rest (omega (arith, less))
    by_test false is rest =
        let most : f ≤ a = ltb-false a f is in
        let same : f ≡ a = omega (arith, le, most) in
        ap (λ o. or_else o (first_of (map said (range_with_len (a + 1) n)))) (subst (λ k. said k ≡ Some x) same here)

sound_none : (P : Plan) (H : List Record) (files : Files) → AreSound P (is_empty (part H)) (file_state P H) files (length P.files) → first_file_fault P H files ≡ None
sound_none P H files sound = none_among (file_fault P (is_empty (part H)) (file_state P H) files) 0 (length P.files) (λ i le lt. sound i (omega (arith, lt)))

least_fault : (P : Plan) (H : List Record) (files : Files) (f : ℕ) (why : StartFault) → f < length P.files → file_fault P (is_empty (part H)) (file_state P H) files f ≡ Some why
    → AreSound P (is_empty (part H)) (file_state P H) files f → first_file_fault P H files ≡ Some why
least_fault P H files f why inside is sound = least_among (file_fault P (is_empty (part H)) (file_state P H) files) 0 (length P.files) f why (omega arith) (omega (arith, inside)) is (λ i le lt. sound i lt)

-- nothing stands in the way of a run where neither the records nor a file are at fault
pub none_stands : (P : Plan) (O : Options) (H : List Record) (files : Files) → early_fault P O H ≡ None → FindsFiles P H files (let found : Result (Unit {0}) StartFault = Ok tt in found) → run_fault P O H files ≡ None
none_stands P O H files early finds = ap (λ o. or_else o (or_else (first_file_fault P H files) None)) early ∙ ap (λ o. or_else o None) (sound_none P H files finds)

-- nothing stood in the way of a run that was started
pub started_free : {S : Type 0} (count : S → ℕ) (P : Plan) (O : Options) (H : List Record) (log : List ℕ) (time : ℕ) (tells : Type 0) (files : Files) (old : S) (d : DeskState S)
    → (let begun : Result (DeskState S) (StartRefused S) = Ok d in BeginsRun count P O log H time tells files old begun) → tells → run_fault P O H files ≡ None
started_free count P O H log time tells files old d h told = none_stands P O H files h.0 (h.1 told)

of_records : (early first : Option StartFault) (why : StartFault) → early ≡ Some why → first_of (early ∷ first ∷ []) ≡ Some why
of_records early first why is = ap (λ o. first_of (o ∷ first ∷ [])) is

of_files : (early first : Option StartFault) (why : StartFault) → early ≡ None → first ≡ Some why → first_of (early ∷ first ∷ []) ≡ Some why
of_files early first why none is = ap (λ o. first_of (o ∷ first ∷ [])) none ∙ ap (λ o. or_else o None) is

-- and one that was refused is so for what stood there
pub refused_ends : {S : Type 0} (count : S → ℕ) (P : Plan) (O : Options) (H : List Record) (tells : Type 0) (files : Files) (old new : S) (why : StartFault) → IsRefusal count P O H tells files old new why → tells
    → IsUncutBy why → run_fault P O H files ≡ Some why
refused_ends count P O H tells files old new (faults.OtherFlow logged found) h told uncut = of_records _ _ _ h.0
refused_ends count P O H tells files old new (faults.NotLegal at) h told uncut = of_records _ _ _ h.0
refused_ends count P O H tells files old new (faults.LogFull records) h told uncut = of_records _ _ _ h.0
refused_ends count P O H tells files old new (faults.StoredAboveLimit stored limit) h told uncut = of_records _ _ _ h.0
refused_ends count P O H tells files old new (faults.SourceMissing file) h told uncut =
    let least = h.1 told in of_files _ _ _ h.0 (least_fault P H files least.0 (faults.SourceMissing file) least.1 least.2 least.3)
refused_ends count P O H tells files old new (faults.SourceTooLarge file size) h told uncut =
    let least = h.1 told in of_files _ _ _ h.0 (least_fault P H files least.0 (faults.SourceTooLarge file size) least.1 least.2 least.3)
refused_ends count P O H tells files old new (faults.SourceChanged file logged found) h told uncut =
    let least = h.1 told in of_files _ _ _ h.0 (least_fault P H files least.0 (faults.SourceChanged file logged found) least.1 least.2 least.3)
refused_ends count P O H tells files old new (faults.FileDamaged file logged found) h told uncut =
    let least = h.1 told in of_files _ _ _ h.0 (least_fault P H files least.0 (faults.FileDamaged file logged found) least.1 least.2 least.3)
refused_ends count P O H tells files old new (faults.Site before after) h told uncut = absurd uncut
refused_ends count P O H tells files old new faults.Memory h told uncut = absurd uncut

-- a run of a desk that was started isn't refused
pub desk_starts : (r : Result Check Halt) → StartEnds None (ended_by r)
desk_starts (Ok check) = refl
desk_starts (Err halt) = refl

-- files that read the same have the same faults
same_fault : (P : Plan) (first : Bool) (states : ℕ → FileState) (old new : Files) (f : ℕ) → new (file_name P f) ≡ old (file_name P f) → file_fault P first states new f ≡ file_fault P first states old f
same_fault P true states old new f same = ap (λ there. if is_source P f then source_fault f there else None) same
same_fault P false states old new f same = ap (λ there. state_fault (is_source P f) f (states f) there) same

pub same_run_fault : (P : Plan) (O : Options) (H : List Record) (old new : Files) → ((f : ℕ) → new (file_name P f) ≡ old (file_name P f)) → run_fault P O H new ≡ run_fault P O H old
same_run_fault P O H old new same =
    ap (λ (said : ℕ → Option StartFault). first_of (early_fault P O H ∷ first_of (map said (file_numbers P)) ∷ []))
    (λ i f. (same_fault P (is_empty (part H)) (file_state P H) old new f (same f)) i)

-- what stood in the way of the run stands there at the entry, before the log was read
pub fault_joined : (P : Plan) (O : Options) (G H : List Record) (old new : Files) → G ≡ H → ((f : ℕ) → new (file_name P f) ≡ old (file_name P f)) → run_fault P O G new ≡ run_fault P O H old
fault_joined P O G H old new these same = ap (λ (K : List Record). run_fault P O K new) these ∙ same_run_fault P O H old new same

pub starts_joined : (P : Plan) (O : Options) (G H : List Record) (old new : Files) (how : Result Check Stopped) → G ≡ H → ((f : ℕ) → new (file_name P f) ≡ old (file_name P f))
    → StartEnds (run_fault P O G new) how → StartEnds (run_fault P O H old) how
starts_joined P O G H old new how these same ends = subst (λ (fault : Option StartFault). StartEnds fault how) (fault_joined P O G H old new these same) ends
