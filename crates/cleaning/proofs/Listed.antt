-- Made files that are present, one number after another.
use Rattle.std.proofs.Common.{◌≡◌, ◌<◌, ◌≤◌, ◌+◌, ◌∙◌, ℕ, zero, suc, Bool, true, false, cond, List, [], ◌∷◌, ◌++◌, length, Some, refl, sym, ap, subst, true≢false, arith}
use Rattle.std.specs.Prelude.{◌&&◌, filter, is_some, map, slice_get}
use Rattle.std.specs.List.{range_with_len}
use Rattle.std.proofs.lemmas.List.Elements.{filter_agree}
use Rattle.std.proofs.lemmas.List.Sums.{length-filter}
use Rattle.std.proofs.lemmas.List.FromFn.{length-range_with_len}
use Rattle.flow_types.specs.declared.plan.Plan.{Plan}
use Rattle.flow_types.specs.declared.numbers.FileNo.{FileNo}
use Rattle.flow_types.specs.declared.records.Record.{Record}
use Rattle.flow_types.specs.Plans.{file_numbers, made_files, maker_of, numbers}
use Rattle.run_history.specs.declared.moves.Move.TheVariants as moves
use Rattle.run_history.specs.States.{file_state}
use Rattle.run_history.specs.Storage.{is_present, size_in}
use Rattle.task_core.specs.States.{TableState}
use Rattle.task_core.specs.Stands.{Stands}
use Rattle.task_core.proofs.Blank.{records-logged}
use Rattle.task_core.proofs.Numbers.{filter-more}
use Rattle.cleaning.specs.Cleanings.{made_count, numbers_of, present_made}
use Rattle.cleaning.specs.Present.{is_there, put_where}
use Rattle.cleaning.proofs.Gone.{some_is}

-- ---- the list as it grows

-- one number more
pub numbers_push : (files : List FileNo) (f : FileNo) → numbers_of (files ++ (f ∷ [])) ≡ numbers_of files ++ (f.0 ∷ [])
numbers_push [] f = refl
numbers_push (g ∷ files) f = ap (λ (l : List ℕ). g.0 ∷ l) (numbers_push files f)

pub there_more : (t : TableState) (n : ℕ) → filter (is_there t) (numbers (n + 1)) ≡ filter (is_there t) (numbers n) ++ put_where (is_there t n) n
there_more t n = filter-more (is_there t) n (is_there t n) refl

-- ---- what it has at the end

both_by : (q p : ℕ → Bool) (x : ℕ) (xs : List ℕ) (made : Bool) → filter (λ y. q y && p y) xs ≡ filter p (filter q xs)
    → cond (made && p x) (x ∷ filter (λ y. q y && p y) xs) (filter (λ y. q y && p y) xs) ≡ filter p (cond made (x ∷ filter q xs) (filter q xs))
both_by q p x xs true so = ap (λ (l : List ℕ). cond (p x) (x ∷ l) l) so
both_by q p x xs false so = so

filter_both : (q p : ℕ → Bool) (xs : List ℕ) → filter (λ y. q y && p y) xs ≡ filter p (filter q xs)
filter_both q p [] = refl
filter_both q p (x ∷ xs) = both_by q p x xs (q x) (filter_both q p xs)

pub present_by : (t : TableState) (H : List Record) → Stands t (map moves.Logged H) → filter (is_there t) (file_numbers t.plan) ≡ present_made t.plan H
present_by t H stands =
    filter_agree (is_there t) (λ f. is_some (maker_of t.plan f) && is_present t.plan H f)
    (λ f. ap (λ s. is_some (maker_of t.plan f) && is_some (size_in s)) (stands.files f ∙ ap (λ (K : List Record). file_state t.plan K f) (records-logged H))) (file_numbers t.plan)
    ∙ filter_both (λ f. is_some (maker_of t.plan f)) (is_present t.plan H) (file_numbers t.plan)

-- ---- its members

got_by : (x : ℕ) (xs : List ℕ) (Q : ℕ → Type 0) (t : Bool) → (t ≡ true → Q x) → ((k f : ℕ) → slice_get xs k ≡ Some f → Q f) → (k f : ℕ) → slice_get (cond t (x ∷ xs) xs) k ≡ Some f → Q f
got_by x xs Q true first rest zero f is = subst Q (some_is x f is) (first refl)
got_by x xs Q true first rest (suc k) f is = rest k f is
got_by x xs Q false first rest k f is = rest k f is

-- each member of a filter passes
pub passed : (p : ℕ → Bool) (xs : List ℕ) (k f : ℕ) → slice_get (filter p xs) k ≡ Some f → p f ≡ true
passed p [] k f is = absurd (true≢false (sym (ap is_some is)))
passed p (x ∷ xs) k f is = got_by x (filter p xs) (λ y. p y ≡ true) (p x) (λ passes. passes) (passed p xs) k f is

-- and has what each of the list has
pub kept_of : (p : ℕ → Bool) (Q : ℕ → Type 0) (xs : List ℕ) → ((k f : ℕ) → slice_get xs k ≡ Some f → Q f) → (k f : ℕ) → slice_get (filter p xs) k ≡ Some f → Q f
kept_of p Q [] each k f is = absurd (true≢false (sym (ap is_some is)))
kept_of p Q (x ∷ xs) each k f is = got_by x (filter p xs) Q (p x) (λ passes. each zero x refl) (kept_of p Q xs (λ i g at. each (suc i) g at)) k f is

in_range : (a n k f : ℕ) → slice_get (range_with_len a n) k ≡ Some f → f < a + n
in_range a zero k f is = absurd (true≢false (sym (ap is_some is)))
in_range a (suc n) zero f is = let same = some_is a f is in omega (arith, same)
in_range a (suc n) (suc k) f is = let lt = in_range (a + 1) n k f is in omega (arith, lt)

pub there_inside : (t : TableState) (k f : ℕ) → slice_get (filter (is_there t) (file_numbers t.plan)) k ≡ Some f → f < length t.plan.files
there_inside t k f is =
    kept_of (is_there t) (λ g. g < length t.plan.files) (file_numbers t.plan) (λ i g at. let lt = in_range 0 (length t.plan.files) i g at in omega (arith, lt)) k f is

filter_less : (p : ℕ → Bool) (xs : List ℕ) → length (filter p xs) ≤ length xs
filter_less p [] = omega arith
filter_less p (x ∷ xs) = by_test (p x) (filter_less p xs)
  where
    by_test : (t : Bool) → length (filter p xs) ≤ length xs → length (cond t (x ∷ filter p xs) (filter p xs)) ≤ length (x ∷ xs)
    by_test true le = omega (arith, le)
    by_test false le = omega (arith, le)

length_numbers : (files : List FileNo) → length (numbers_of files) ≡ length files
length_numbers [] = refl
length_numbers (f ∷ files) = ap suc (length_numbers files)

pub there_few : (t : TableState) (files : List FileNo) → numbers_of files ≡ filter (is_there t) (file_numbers t.plan) → length files ≤ length t.plan.files
there_few t files is =
    let long = length_numbers files in
    let same = ap (λ (l : List ℕ). length l) is in
    let few = filter_less (is_there t) (file_numbers t.plan) in
    let all = length-range_with_len 0 (length t.plan.files) in
    omega (arith, long, same, few, all)

-- as many as are counted
pub counted : (P : Plan) (H : List Record) (files : List FileNo) → numbers_of files ≡ present_made P H → length files ≡ made_count P H
counted P H files is = sym (length_numbers files) ∙ ap (λ (l : List ℕ). length l) is ∙ length-filter (is_present P H) (made_files P)
