-- Tables that say something of each name.
use Rattle.std.proofs.Common.{◌≡◌, ℕ, ◌+◌, ◌<◌, Bool, true, false, cond, ◌||◌, List, [], ◌∷◌, ◌++◌, length, map, take, drop, fold, get_or, set, Some, None, inl, inr, refl, ap, sym, ◌∙◌, subst, arith, IsTrue, get_or-set_same, get_or-set_other}
use Rattle.std.specs.Prelude.{position, nat_lt, slice_get}
use Rattle.std.specs.List.{list_any, position_or_len}
use Rattle.std.specs.Option.{option_map}
use Rattle.std.specs.Str.{bytes_eq}
use Rattle.std.specs.declared.cmp.Ordering.TheVariants.{Less}
use Rattle.std.proofs.Math.ListN.{length-set}
use Rattle.std.proofs.lemmas.Bool.{cases_eq, cases_lt, ltb-false, true≢false, false_from_ne_true}
use Rattle.std.proofs.lemmas.Cmp.{nat_list_cmp_total, tied_itself}
use Rattle.std.proofs.lemmas.List.{same_lists, length-map, get_or-map, take_all, drop_all, append-nil}
use Rattle.std.proofs.lemmas.List.Folds.{Any-from_list_any, list_any_more}
use Rattle.std.proofs.lemmas.List.Quantifiers.{position-Some}
use Rattle.std.proofs.lemmas.List.Sums.{fails_before_first, fold_more}
use Rattle.std.proofs.lemmas.Map.Keys.{Less-from_sorted}
use Rattle.std.proofs.lemmas.Option.{slice_get-map, slice_get-get_or}
use Rattle.std.proofs.lemmas.Slice.Eq.{bytes_eq-Decides}
use Rattle.rule_graph.specs.Checked.{IsAscending}
use Rattle.rule_graph.specs.Numbering.{is_known}
use Rattle.rule_graph.proofs.NamePlaces.{by_bytes}

-- functions that agree give one table
pub map_same : {A B : Type 0} (f g : A → B) (xs : List A) → ((x : A) → f x ≡ g x) → map f xs ≡ map g xs
map_same f g [] same = refl
map_same f g (x ∷ xs) same = cc (same x, map_same f g xs same)

-- the table with another value at a name
abbrev pub with_value : {T : Type 0} → (List ℕ → T) → List ℕ → T → List ℕ → T
with_value says x v n = cond (bytes_eq n x) v (says n)

-- the order of two names that are the same
not_less : (a b : List ℕ) → a ≡ b → by_bytes a b ≡ Less → ⊥
not_less a b same less = let e = subst (λ z. by_bytes a z ≡ Less) (sym same) less in cc (e, tied_itself nat_list_cmp_total a)

-- names at two places differ
differ : (names : List (List ℕ)) (i k : ℕ) → IsAscending names → i < length names → k < length names → (k ≡ i → ⊥) → get_or names k [] ≡ get_or names i [] → ⊥
differ names i k ascending i_inside k_inside other same =
    elim (cases_lt k i) [
      | inl before ↦ not_less (get_or names k []) (get_or names i []) same (Less-from_sorted by_bytes names k i [] ascending before i_inside)
      | inr after ↦
          let less : i < k = omega arith in
          not_less (get_or names i []) (get_or names k []) (sym same) (Less-from_sorted by_bytes names i k [] ascending less k_inside)
    ]

-- a write at the place of a name
pub put_found : {T : Type 0} (names : List (List ℕ)) (says : List ℕ → T) (x : List ℕ) (v : T) (i : ℕ) → IsAscending names → position (bytes_eq x) names ≡ Some i
    → set (map says names) i v ≡ map (with_value says x v) names
put_found names says x v i ascending found =
    let at = position-Some (bytes_eq x) names i [] found in
    let inside : i < length names = at.0 in
    let same : x ≡ get_or names i [] = (bytes_eq-Decides x (get_or names i [])).0 at.1 in
    let level : length (set (map says names) i v) ≡ length names = length-set (map says names) i v ∙ length-map names says in
    same_lists (set (map says names) i v) (map (with_value says x v) names) (level ∙ sym (length-map names (with_value says x v)))
    (λ k d h.
    let k_inside : k < length names = omega (arith, h, level) in
    let right = get_or-map (with_value says x v) names k [] d k_inside in
    elim (cases_eq k i) as (λ _. get_or (set (map says names) i v) k d ≡ get_or (map (with_value says x v) names) k d) [
      | inl here ↦
          let test : bytes_eq (get_or names k []) x ≡ true = (bytes_eq-Decides (get_or names k []) x).1 (ap (λ j. get_or names j []) here ∙ sym same) in
          ap (λ j. get_or (set (map says names) i v) j d) here ∙ get_or-set_same (map says names) i v d (omega (arith, inside, length-map names says))
          ∙ sym (right ∙ ap (λ b. cond b v (says (get_or names k []))) test)
      | inr there ↦
          let test : bytes_eq (get_or names k []) x ≡ false =
          false_from_ne_true (bytes_eq (get_or names k []) x) (λ b. differ names i k ascending inside k_inside there ((bytes_eq-Decides (get_or names k []) x).0 b ∙ same)) in
          get_or-set_other (map says names) i k v d there ∙ get_or-map says names k [] d k_inside
          ∙ sym (right ∙ ap (λ b. cond b v (says (get_or names k []))) test)
    ])

-- where there is no place, nothing passes
none_passes : {A : Type 0} (p : A → Bool) (xs : List A) → position p xs ≡ None → (k : ℕ) (d : A) → k < length xs → p (get_or xs k d) ≡ false
none_passes p xs none k d inside =
    fails_before_first p xs k d (reaches (nat_lt (position_or_len p xs) (length xs)) refl none)
  where
    reaches : (b : Bool) → nat_lt (position_or_len p xs) (length xs) ≡ b → cond b (Some (position_or_len p xs)) None ≡ None → k < position_or_len p xs
    reaches true e h = absurd (let wrong : ⊥ = cc h in wrong)
    reaches false e h = omega (arith, ltb-false (position_or_len p xs) (length xs) e)

-- a name that is none of the names changes nothing
pub put_none : {T : Type 0} (names : List (List ℕ)) (says : List ℕ → T) (x : List ℕ) (v : T) → position (bytes_eq x) names ≡ None → map says names ≡ map (with_value says x v) names
put_none names says x v none =
    same_lists (map says names) (map (with_value says x v) names) (length-map names says ∙ sym (length-map names (with_value says x v)))
    (λ k d h.
    let k_inside : k < length names = omega (arith, h, length-map names says) in
    let fails = none_passes (bytes_eq x) names none k [] k_inside in
    let test : bytes_eq (get_or names k []) x ≡ false =
    false_from_ne_true (bytes_eq (get_or names k []) x) (λ b. true≢false (sym ((bytes_eq-Decides x (get_or names k [])).1 (sym ((bytes_eq-Decides (get_or names k []) x).0 b))) ∙ fails)) in
    get_or-map says names k [] d k_inside ∙ sym (get_or-map (with_value says x v) names k [] d k_inside ∙ ap (λ b. cond b v (says (get_or names k []))) test))

-- a known name has a place
pub known_place : (names : List (List ℕ)) (x : List ℕ) → IsTrue (is_known names x) → position (bytes_eq x) names ≡ None → ⊥
known_place names x known none =
    let any = Any-from_list_any (bytes_eq x) names known in
    true≢false (sym any.4 ∙ ap (bytes_eq x) (sym any.3) ∙ none_passes (bytes_eq x) names none any.0 any.1 any.2)

-- what a table says at the place of a name
pub look_found : {T : Type 0} (names : List (List ℕ)) (says : List ℕ → T) (x : List ℕ) (i : ℕ) → position (bytes_eq x) names ≡ Some i → slice_get (map says names) i ≡ Some (says x)
look_found names says x i found =
    let at = position-Some (bytes_eq x) names i [] found in
    slice_get-map says names i ∙ ap (option_map says) (slice_get-get_or names i [] at.0)
    ∙ ap (λ n. Some (says n)) (sym ((bytes_eq-Decides x (get_or names i [])).0 at.1))

mark_bits : (b a h : Bool) → cond b true (a || h) ≡ (a || (h || b))
mark_bits true true h = refl
mark_bits true false true = refl
mark_bits true false false = refl
mark_bits false true h = refl
mark_bits false false true = refl
mark_bits false false false = refl

-- one more mark: what is said of an item more
pub marks_more : {A : Type 0} (names : List (List ℕ)) (says : List ℕ → Bool) (says_of : List ℕ → A → Bool) (items : List A) (i : ℕ) (item : A) (old new : List Bool) → i < length items
    → item ≡ get_or items i item
    → ((of : List ℕ → Bool) → old ≡ map of names → new ≡ map (λ n. cond (says_of n item) true (of n)) names)
    → old ≡ map (λ n. says n || list_any (says_of n) (take i items)) names
    → new ≡ map (λ n. says n || list_any (says_of n) (take (i + 1) items)) names
marks_more names says says_of items i item old new inside read step before =
    step (λ n. says n || list_any (says_of n) (take i items)) before
    ∙ map_same (λ n. cond (says_of n item) true (says n || list_any (says_of n) (take i items))) (λ n. says n || list_any (says_of n) (take (i + 1) items)) names
    (λ n. mark_bits (says_of n item) (says n) (list_any (says_of n) (take i items))
    ∙ ap (λ b. says n || b) (sym (list_any_more (says_of n) items i item inside ∙ ap (λ x. list_any (says_of n) (take i items) || says_of n x) (sym read))))

-- a table that is written through a borrow of its items
pub written_back : {A : Type 0} (new old : List A) (n : ℕ) → length new ≡ n → n ≡ length old → take n (new ++ drop (length new) old) ≡ new
written_back new old n level whole =
    ap (λ rest. take n (new ++ rest)) (drop_all (length new) old (omega (arith, level, whole))) ∙ ap (take n) (append-nil new) ∙ take_all n new (omega (arith, level))

-- either of two marks, as a choice
pub or_is : (a h : Bool) → (a || h) ≡ cond h true a
or_is true true = refl
or_is true false = refl
or_is false true = refl
or_is false false = refl

-- what a fold says of each name, with one more item
pub folds_more : {A T : Type 0} (names : List (List ℕ)) (says : List ℕ → T → A → T) (start : T) (items : List A) (i : ℕ) (item : A) (old new : List T) → i < length items
    → item ≡ get_or items i item
    → ((of : List ℕ → T) → old ≡ map of names → new ≡ map (λ n. says n (of n) item) names)
    → old ≡ map (λ n. fold (says n) start (take i items)) names
    → new ≡ map (λ n. fold (says n) start (take (i + 1) items)) names
folds_more names says start items i item old new inside read step before =
    step (λ n. fold (says n) start (take i items)) before
    ∙ map_same (λ n. says n (fold (says n) start (take i items)) item) (λ n. fold (says n) start (take (i + 1) items)) names
    (λ n. ap (says n (fold (says n) start (take i items))) read ∙ sym (fold_more (says n) start items i item inside))
