-- Sums and lists of which the front was looked at.
use Rattle.std.proofs.Common.{◌≡◌, ◌≤◌, ◌<◌, ◌+◌, ℕ, Bool, true, false, cond, ◌&&◌, List, [], ◌∷◌, ◌++◌, length, drop, take, get_or, Some, refl, sym, ap, ◌∙◌, ◌-◌, arith}
use Rattle.std.specs.Prelude.{nat_eq, nat_le, nat_lt, sum_by}
use Rattle.std.specs.List.{list_all, starts_with}
use Rattle.std.proofs.lemmas.Bool.{leb-true}
use Rattle.std.proofs.lemmas.List.{drop_more, length-drop, take_all}
use Rattle.std.proofs.lemmas.List.Folds.{list_all-append, list_all-map}
use Rattle.std.proofs.lemmas.List.Sums.{sum_by-cons}
use Rattle.flow_types.specs.declared.job.Want.{Want}
use Rattle.flow_types.specs.declared.plan.Port.{Port}
use Rattle.flow_types.specs.Names.{is_folder_of}
use Rattle.flow_types.specs.Plans.{all_pairs}
use Rattle.task_book.specs.Submissions.{are_apart, bytes_of, made_names, taken_names, unknown_file}

pub next_item : {A : Type 0} (xs : List A) (i : ℕ) (x : A) → i < length xs → x ≡ get_or xs i x → drop i xs ≡ x ∷ drop (i + 1) xs
next_item xs i x lt is = drop_more xs i x lt ∙ ap (λ (y : _). y ∷ drop (i + 1) xs) (sym is)

pub sum_step : {A : Type 0} (f : A → ℕ) (xs : List A) (i : ℕ) (x : A) → i < length xs → x ≡ get_or xs i x → sum_by f (drop i xs) ≡ f x + sum_by f (drop (i + 1) xs)
sum_step f xs i x lt is = ap (sum_by f) (next_item xs i x lt is) ∙ sum_by-cons f x (drop (i + 1) xs)

unless : (b : Bool) → (b ≡ true → ⊥) → false ≡ b
unless true none = absurd (none refl)
unless false none = refl

pub too_much : (total limit : ℕ) → limit < total → false ≡ nat_le total limit
too_much total limit over = unless (nat_le total limit) (λ is. let few : total ≤ limit = leb-true total limit is in absurd (omega arith))

pub unknown_step : (count : ℕ) (ports : List Port) (i : ℕ) (p : Port) → i < length ports → p ≡ get_or ports i p
    → unknown_file count (drop i ports) ≡ cond (nat_lt p.file.0 count) (unknown_file count (drop (i + 1) ports)) (Some p.file)
unknown_step count ports i p lt is = ap (unknown_file count) (next_item ports i p lt is)

-- ---- names

both : (b c d : Bool) → (b && (c && d)) ≡ ((b && c) && d)
both true c d = refl
both false c d = refl

below : (folder name : List ℕ) → is_folder_of folder name ≡ (starts_with nat_eq name folder && starts_with nat_eq (drop (length folder) name) (47 ∷ []))
below [] name = refl
below (a ∷ folder) [] = refl
below (a ∷ folder) (b ∷ name) = ap (λ t. nat_eq a b && t) (below folder name) ∙ both (nat_eq a b) _ _

whole_rest : (f n : List ℕ) → take (length n - length f) (drop (length f) n) ≡ drop (length f) n
whole_rest f n = take_all (length n - length f) (drop (length f) n) (let same : length (drop (length f) n) ≡ length n - length f = length-drop (length f) n in omega (arith, same))

pub then_below : (f n : List ℕ) (r : Bool) → starts_with nat_eq n f ≡ true → r ≡ starts_with nat_eq (take (length n - length f) (drop (length f) n)) (47 ∷ []) → r ≡ is_folder_of f n
then_below f n r begins value = value ∙ ap (λ rest. starts_with nat_eq rest (47 ∷ [])) (whole_rest f n) ∙ sym (ap (λ t. t && starts_with nat_eq (drop (length f) n) (47 ∷ [])) begins) ∙ sym (below f n)

pub else_below : (f n : List ℕ) (r : Bool) → r ≡ starts_with nat_eq n f → r ≡ false → r ≡ is_folder_of f n
else_below f n r value other = other ∙ sym (ap (λ t. t && starts_with nat_eq (drop (length f) n) (47 ∷ [])) (sym value ∙ other)) ∙ sym (below f n)

pub made_step : (wants : List Want) (i : ℕ) (w : Want) → i < length wants → w ≡ get_or wants i w
    → all_pairs are_apart (made_names (drop i wants)) ≡ (list_all (are_apart w.remote) (made_names (drop (i + 1) wants)) && all_pairs are_apart (made_names (drop (i + 1) wants)))
made_step wants i w lt is = ap (λ (ws : List Want). all_pairs are_apart (made_names ws)) (next_item wants i w lt is)

pub taken_step : (ports : List Port) (made : List (List ℕ)) (i : ℕ) (p : Port) → i < length ports → p ≡ get_or ports i p
    → all_pairs are_apart (taken_names (drop i ports) ++ made)
    ≡ (list_all (are_apart p.remote) (taken_names (drop (i + 1) ports) ++ made) && all_pairs are_apart (taken_names (drop (i + 1) ports) ++ made))
taken_step ports made i p lt is = ap (λ (ps : List Port). all_pairs are_apart (taken_names ps ++ made)) (next_item ports i p lt is)

-- ---- files

pub bytes_more : (files : List (List ℕ)) (content : List ℕ) → bytes_of (files ++ content ∷ []) ≡ bytes_of files + length content
bytes_more [] content = let one = sum_by-cons (λ (c : List ℕ). length c) content [] in omega (arith, one)
bytes_more (f ∷ files) content =
    let whole = sum_by-cons (λ (c : List ℕ). length c) f (files ++ content ∷ []) in
    let part = sum_by-cons (λ (c : List ℕ). length c) f files in
    let rest = bytes_more files content in
    omega (arith, whole, part, rest)

-- what is so of each name is so of the inputs' and of the outputs'
pub all_names : (p : List ℕ → Bool) (ports : List Port) (wants : List Want)
    → list_all p (taken_names ports ++ made_names wants) ≡ (list_all (λ (port : Port). p port.remote) ports && list_all (λ (want : Want). p want.remote) wants)
all_names p ports wants =
    list_all-append p (taken_names ports) (made_names wants)
    ∙ ap (λ (b : Bool). b && list_all p (made_names wants)) (list_all-map p (λ (port : Port). port.remote) ports)
    ∙ ap (λ (b : Bool). list_all (λ (port : Port). p port.remote) ports && b) (list_all-map p (λ (want : Want). want.remote) wants)

pub made_all : (p : List ℕ → Bool) (wants : List Want) → list_all p (made_names wants) ≡ list_all (λ (want : Want). p want.remote) wants
made_all p wants = list_all-map p (λ (want : Want). want.remote) wants
