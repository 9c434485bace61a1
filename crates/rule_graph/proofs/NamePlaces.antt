-- The place of a name among strictly ascending names.
use Rattle.std.proofs.Common.{◌≡◌, ℕ, ◌+◌, ◌-◌, ◌/◌, ◌<◌, ◌≤◌, Bool, true, false, cond, List, [], length, get_or, Some, None, inl, inr, ap, sym, ◌∙◌, subst, arith}
use Rattle.std.specs.Prelude.{position, nat_lt}
use Rattle.std.specs.List.{position_or_len}
use Rattle.rule_graph.specs.Checked.{IsAscending}
use Rattle.std.specs.Cmp.Lexicographic.{slice_cmp}
use Rattle.std.specs.Ordering.{nat_cmp, ordering_reverse}
use Rattle.std.specs.Str.{bytes_eq}
use Rattle.std.specs.declared.cmp.Ordering.{Ordering}
use Rattle.std.specs.declared.cmp.Ordering.TheVariants.{Less, Equal, Greater}
use Rattle.std.proofs.lemmas.Cmp.{nat_list_cmp_total, tied_itself}
use Rattle.std.proofs.lemmas.Map.Keys.{Less-from_sorted}
use Rattle.std.proofs.lemmas.Map.Lookups.{exact_bytes}
use Rattle.std.proofs.lemmas.Bool.{cases_lt, lt-ltb, le-ltb, false_from_ne_true}
use Rattle.std.proofs.lemmas.List.Sums.{position_or_len_is}
use Rattle.std.proofs.lemmas.Slice.Eq.{bytes_eq-Decides}

-- names in the order of their bytes
abbrev pub by_bytes : List ℕ → List ℕ → Ordering
by_bytes = slice_cmp nat_cmp

greater_from_less : (a b : List ℕ) → by_bytes a b ≡ Less → by_bytes b a ≡ Greater
greater_from_less a b h = nat_list_cmp_total.antisymm b a ∙ ap ordering_reverse h

less_from_greater : (a b : List ℕ) → by_bytes a b ≡ Greater → by_bytes b a ≡ Less
less_from_greater a b h = nat_list_cmp_total.antisymm b a ∙ ap ordering_reverse h

-- what stands at or before a name that is before x is before x
pub below_here : (names : List (List ℕ)) (x : List ℕ) (i k : ℕ) → IsAscending names → i < length names → by_bytes (get_or names i []) x ≡ Less → k ≤ i
    → by_bytes (get_or names k []) x ≡ Less
below_here names x i k ascending inside here low =
    elim (cases_lt k i) as (λ _. by_bytes (get_or names k []) x ≡ Less) [
      | inl before ↦ nat_list_cmp_total.trans (get_or names k []) (get_or names i []) x (Less-from_sorted by_bytes names k i [] ascending before inside) here
      | inr after ↦ let same : i ≡ k = omega arith in subst (λ j. by_bytes (get_or names j []) x ≡ Less) same here
    ]

-- what stands at or behind a name that is behind x is behind x
pub above_here : (names : List (List ℕ)) (x : List ℕ) (i k : ℕ) → IsAscending names → i < length names → by_bytes (get_or names i []) x ≡ Greater → i ≤ k → k < length names
    → by_bytes (get_or names k []) x ≡ Greater
above_here names x i k ascending inside here low k_inside =
    elim (cases_lt i k) as (λ _. by_bytes (get_or names k []) x ≡ Greater) [
      | inl before ↦
          greater_from_less x (get_or names k [])
          (nat_list_cmp_total.trans x (get_or names i []) (get_or names k []) (less_from_greater (get_or names i []) x here) (Less-from_sorted by_bytes names i k [] ascending before k_inside))
      | inr after ↦ let same : i ≡ k = omega arith in subst (λ j. by_bytes (get_or names j []) x ≡ Greater) same here
    ]

-- names that don't tie differ
apart : (a x : List ℕ) → (by_bytes a x ≡ Equal → ⊥) → bytes_eq x a ≡ false
apart a x other = false_from_ne_true (bytes_eq x a) (λ same. other (subst (λ b. by_bytes b x ≡ Equal) ((bytes_eq-Decides x a).0 same) (tied_itself nat_list_cmp_total x)))

-- names that tie are the same
same_from_tie : (a x : List ℕ) → by_bytes a x ≡ Equal → bytes_eq x a ≡ true
same_from_tie a x tie = (bytes_eq-Decides x a).1 (sym (exact_bytes a x tie))

position_some : {A : Type 0} (p : A → Bool) (xs : List A) (i : ℕ) → position_or_len p xs ≡ i → i < length xs → position p xs ≡ Some i
position_some p xs i e inside =
    ap (λ n. cond (nat_lt n (length xs)) (Some n) None) e ∙ ap (λ b. cond b (Some i) None) (lt-ltb i (length xs) inside)

position_no : {A : Type 0} (p : A → Bool) (xs : List A) → position_or_len p xs ≡ length xs → position p xs ≡ None
position_no p xs e =
    ap (λ n. cond (nat_lt n (length xs)) (Some n) None) e ∙ ap (λ b. cond b (Some (length xs)) None) (le-ltb (length xs) (length xs) (omega arith))

-- the place at which a name ties with x
pub place_found : (names : List (List ℕ)) (x : List ℕ) (i : ℕ) → IsAscending names → i < length names → by_bytes (get_or names i []) x ≡ Equal
    → position (bytes_eq x) names ≡ Some i
place_found names x i ascending inside here =
    position_some (bytes_eq x) names i
    (position_or_len_is (bytes_eq x) names i [] (omega arith)
    (λ k before. apart (get_or names k []) x (λ tie. cc (Less-from_sorted by_bytes names k i [] ascending before inside, exact_bytes (get_or names k []) x tie, exact_bytes (get_or names i []) x here, tied_itself nat_list_cmp_total x)))
    (λ _. same_from_tie (get_or names i []) x here))
    inside

-- no place where each name stands before x or behind it
pub place_none : (names : List (List ℕ)) (x : List ℕ) → ((k : ℕ) → k < length names → by_bytes (get_or names k []) x ≡ Equal → ⊥) → position (bytes_eq x) names ≡ None
place_none names x other =
    position_no (bytes_eq x) names
    (position_or_len_is (bytes_eq x) names (length names) [] (omega arith) (λ k before. apart (get_or names k []) x (other k before)) (λ inside. absurd (omega arith)))

-- the middle of a range that isn't empty lies in it
pub middle_inside : (low high : ℕ) → low < high → low + (high - low) / 2 < high
middle_inside low high h = omega arith
