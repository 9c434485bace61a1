-- Tests that hold together, and lists of which each item passes.
use Rattle.std.proofs.Common.{◌≡◌, ◌+◌, ◌≤◌, ℕ, zero, suc, Bool, true, false, cond, not, ◌&&◌, List, [], ◌∷◌, Option, Some, None, refl, ap, ◌∙◌, sym, true≢false, arith}
use Rattle.std.specs.Prelude.{filter, find, nat_lt, is_some, is_none}
use Rattle.std.specs.List.{list_any, list_all, range_with_len}
use Rattle.std.proofs.lemmas.Bool.{and_parts, lt-ltb}

pub both : (a b : Bool) → a ≡ true → b ≡ true → (a && b) ≡ true
both a b p q = ap (λ c. c && b) p ∙ q

pub not_true : (b : Bool) → not b ≡ true → b ≡ false
not_true true h = sym h
not_true false h = refl

pub not_false : (b : Bool) → not b ≡ false → b ≡ true
not_false true h = refl
not_false false h = sym h

pub none_from : {A : Type 0} (o : Option A) → is_some o ≡ false → is_none o ≡ true
none_from None h = refl
none_from (Some x) h = absurd (true≢false h)

-- each item of a filtered list passes what each of the list passed
pub filter_keeps : {A : Type 0} (q p : A → Bool) (xs : List A) → list_all q xs ≡ true → list_all q (filter p xs) ≡ true
filter_keeps q p [] all = refl
filter_keeps q p (x ∷ xs) all = by_test (p x) (and_parts _ _ all).0 (filter_keeps q p xs (and_parts _ _ all).1)
  where
    by_test : (b : Bool) → q x ≡ true → list_all q (filter p xs) ≡ true → list_all q (cond b (x ∷ filter p xs) (filter p xs)) ≡ true
    by_test true here rest = ap (λ c. c && list_all q (filter p xs)) here ∙ rest
    by_test false here rest = rest

-- each item of a filtered list passes the filter
pub filter_all : {A : Type 0} (p : A → Bool) (xs : List A) → list_all p (filter p xs) ≡ true
filter_all p [] = refl
filter_all p (x ∷ xs) = by_test (p x) refl (filter_all p xs)
  where
    by_test : (b : Bool) → p x ≡ b → list_all p (filter p xs) ≡ true → list_all p (cond b (x ∷ filter p xs) (filter p xs)) ≡ true
    by_test true here rest = ap (λ c. c && list_all p (filter p xs)) here ∙ rest
    by_test false here rest = rest

-- where the filter leaves nothing, no item passes
pub filter_none : {A : Type 0} (p : A → Bool) (xs : List A) → filter p xs ≡ [] → list_all (λ x. not (p x)) xs ≡ true
filter_none p [] none = refl
filter_none p (x ∷ xs) none = by_test (p x) refl none (filter_none p xs)
  where
    by_test : (b : Bool) → p x ≡ b → cond b (x ∷ filter p xs) (filter p xs) ≡ [] → (filter p xs ≡ [] → list_all (λ y. not (p y)) xs ≡ true) → (not (p x) && list_all (λ y. not (p y)) xs) ≡ true
    by_test true here left rest = absurd cc
    by_test false here left rest = ap (λ c. not c && list_all (λ y. not (p y)) xs) here ∙ rest left

-- where the filter leaves something, some item passes
pub filter_some : {A : Type 0} (p : A → Bool) (xs : List A) (y : A) (ys : List A) → filter p xs ≡ y ∷ ys → list_any p xs ≡ true
filter_some p [] y ys left = absurd cc
filter_some p (x ∷ xs) y ys left = by_test (p x) refl left (filter_some p xs y ys)
  where
    by_test : (b : Bool) → p x ≡ b → cond b (x ∷ filter p xs) (filter p xs) ≡ y ∷ ys → (filter p xs ≡ y ∷ ys → list_any p xs ≡ true) → list_any p (x ∷ xs) ≡ true
    by_test true here left rest = grind (arith, here)
    by_test false here left rest = grind (arith, here, rest left)

pub find_some : {A : Type 0} (p : A → Bool) (xs : List A) (y : A) → find p xs ≡ Some y → list_any p xs ≡ true
find_some p [] y found = absurd cc
find_some p (x ∷ xs) y found = by_test (p x) refl found (find_some p xs y)
  where
    by_test : (b : Bool) → p x ≡ b → cond b (Some x) (find p xs) ≡ Some y → (find p xs ≡ Some y → list_any p xs ≡ true) → list_any p (x ∷ xs) ≡ true
    by_test true here found rest = grind (arith, here)
    by_test false here found rest = grind (arith, here, rest found)

pub range_all : (a n m : ℕ) → a + n ≤ m → list_all (λ r. nat_lt r m) (range_with_len a n) ≡ true
range_all a zero m le = refl
range_all a (suc n) m le = both (nat_lt a m) (list_all (λ r. nat_lt r m) (range_with_len (a + 1) n)) (lt-ltb a m (omega (arith, le))) (range_all (a + 1) n m (omega (arith, le)))
