-- Files that aren't present: those that no rule makes, and all where the part is empty.
use Rattle.std.proofs.Common.{◌≡◌, ◌∙◌, ℕ, Bool, true, false, cond, List, [], ◌∷◌, length, refl, sym, ap, true≢false}
use Rattle.std.specs.Prelude.{filter, is_some, map, not, slice_get}
use Rattle.std.proofs.lemmas.List.Sums.{length-filter}
use Rattle.flow_types.specs.declared.plan.Plan.{Plan}
use Rattle.flow_types.specs.declared.records.Record.{Record}
use Rattle.flow_types.specs.Plans.{file_numbers, is_empty, made_files, maker_of}
use Rattle.run_history.specs.declared.moves.Move.TheVariants as moves
use Rattle.run_history.specs.History.{part}
use Rattle.run_history.specs.Links.{records_of}
use Rattle.run_history.specs.Storage.{is_present}
use Rattle.task_core.proofs.Blank.{records-logged}
use Rattle.outside.specs.Files.{Files}
use Rattle.file_store.specs.Outputs.{IsOther}
use Rattle.local_run.specs.Course.{IsUnmade}
use Rattle.local_run.proofs.Joining.{none_present}
use Rattle.local_run.proofs.Reading.{logged_of}
use Rattle.cleaning.specs.Cleanings.{AreGone, made_count, present_made}
use Rattle.cleaning.proofs.Listed.{kept_of, passed}

-- a name of no made file is that of none that is present
pub unmade_other : (P : Plan) (log : List ℕ) (H : List Record) (m : List ℕ) → IsUnmade P log m → IsOther P (present_made P H) m
unmade_other P log H m unmade k f is =
    unmade.1 f (kept_of (is_present P H) (λ g. is_some (maker_of P g) ≡ true) (made_files P) (λ i g at. passed (λ h. is_some (maker_of P h)) (file_numbers P) i g at) k f is)

-- ---- where the part is empty

pub is_nothing : {A : Type 0} (xs : List A) → is_empty xs ≡ true → xs ≡ []
is_nothing [] is = refl
is_nothing (x ∷ xs) is = absurd (true≢false (sym is))

pub absent_in : (P : Plan) (H : List Record) (f : ℕ) → part H ≡ [] → is_present P H f ≡ false
absent_in P H f none = by_test (is_present P H f) refl
  where
    by_test : (t : Bool) → is_present P H f ≡ t → t ≡ false
    by_test true is = let there = logged_of P H f is in absurd (none_present P H f there.0 none there.1)
    by_test false is = refl

none_kept : (p : ℕ → Bool) (xs : List ℕ) → ((x : ℕ) → p x ≡ false) → filter p xs ≡ []
none_kept p [] fails = refl
none_kept p (x ∷ xs) fails = ap (λ (t : Bool). cond t (x ∷ filter p xs) (filter p xs)) (fails x) ∙ none_kept p xs fails

pub none_made_present : (P : Plan) (H : List Record) → part H ≡ [] → present_made P H ≡ []
none_made_present P H none = none_kept (is_present P H) (made_files P) (λ f. absent_in P H f none)

pub none_counted : (P : Plan) (H : List Record) → part H ≡ [] → made_count P H ≡ 0
none_counted P H none = sym (length-filter (is_present P H) (made_files P)) ∙ ap (λ (l : List ℕ). length l) (none_made_present P H none)

pub none_to_go : (P : Plan) (H : List Record) (files : Files) → part H ≡ [] → AreGone P (present_made P H) files
none_to_go P H files none k f is = absurd (true≢false (sym (ap is_some (sym (ap (λ (l : List ℕ). slice_get l k) (none_made_present P H none)) ∙ is))))

-- ---- where a table says whether the part is begun

not_false : (e : Bool) → false ≡ not e → e ≡ true
not_false true is = refl
not_false false is = absurd (true≢false (sym is))

not_true : (e : Bool) → true ≡ not e → e ≡ false
not_true true is = absurd (true≢false is)
not_true false is = refl

same_part : (H : List Record) → not (is_empty (part (records_of (map moves.Logged H)))) ≡ not (is_empty (part H))
same_part H = ap (λ (K : List Record). not (is_empty (part K))) (records-logged H)

pub unbegun_by : (H : List Record) (begun : Bool) → begun ≡ not (is_empty (part (records_of (map moves.Logged H)))) → false ≡ begun → part H ≡ []
unbegun_by H begun is said = is_nothing (part H) (not_false (is_empty (part H)) (said ∙ is ∙ same_part H))

pub begun_by : (H : List Record) (begun : Bool) → begun ≡ not (is_empty (part (records_of (map moves.Logged H)))) → true ≡ begun → is_empty (part H) ≡ false
begun_by H begun is said = not_true (is_empty (part H)) (said ∙ is ∙ same_part H)
