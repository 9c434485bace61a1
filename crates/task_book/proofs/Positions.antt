-- The first item of a list that passes, and lists from which one item leaves or in which one changes.
use Rattle.std.proofs.Common.{◌≡◌, ℕ, zero, suc, ◌+◌, Bool, true, false, not, cond, ltb, List, [], ◌∷◌, ◌++◌, length, get_or, Option, Some, None, refl, sym, ap, subst, ◌∙◌, arith}
use Rattle.std.specs.Prelude.{position, slice_get, slice_set, remove}
use Rattle.std.specs.List.{AllByRecursion, position_or_len}
use Rattle.std.proofs.lemmas.Bool.{lt-ltb, le-ltb, ltb-true, ltb-false}
use Rattle.std.proofs.lemmas.Option.{slice_get-get_or, slice_get_within}

abbrev pub next : Option ℕ → Option ℕ
next None = None
next (Some at) = Some (suc at)

-- An item stands at the place and passes.
pub record IsFound {A : Type 0} (p : A → Bool) (xs : List A) (at : ℕ) : Type 0 where
  pub item : A
  pub is_there : slice_get xs at ≡ Some item
  pub passes : p item ≡ true

module _ {A : Type 0} (p : A → Bool) where
  abbrev before : List A → ℕ
  before xs = position_or_len p xs

  pub here : (x : A) (xs : List A) → p x ≡ true → position p (x ∷ xs) ≡ Some 0
  here x xs e =
      let none : before (x ∷ xs) ≡ 0 = ap (λ (b : Bool). cond (not b) (1 + before xs) 0) e in
      let n = length xs in
      ap (λ (k : ℕ). cond (ltb k (suc n)) (Some k) None) none ∙ ap (λ (b : Bool). cond b (Some 0) None) (lt-ltb 0 (suc n) (omega arith))

  ltb_suc : (a b : ℕ) (t : Bool) → ltb a b ≡ t → ltb (1 + a) (suc b) ≡ t
  ltb_suc a b true e = lt-ltb (1 + a) (suc b) (omega (arith, ltb-true a b e))
  ltb_suc a b false e = le-ltb (1 + a) (suc b) (omega (arith, ltb-false a b e))

  next_at : (q n : ℕ) (t : Bool) → ltb q n ≡ t → cond (ltb (1 + q) (suc n)) (Some (1 + q)) None ≡ next (cond (ltb q n) (Some q) None)
  next_at q n true h = let one : 1 + q ≡ suc q = omega arith in rw (h, ltb_suc q n true h) (ap (λ (k : ℕ). Some k) one)
  next_at q n false h = rw (h, ltb_suc q n false h) refl

  pub there : (x : A) (xs : List A) → p x ≡ false → position p (x ∷ xs) ≡ next (position p xs)
  there x xs e =
      let q = before xs in
      let n = length xs in
      let more : before (x ∷ xs) ≡ 1 + q = ap (λ (b : Bool). cond (not b) (1 + q) 0) e in
      ap (λ (k : ℕ). cond (ltb k (suc n)) (Some k) None) more ∙ next_at q n (ltb q n) refl

  abbrev some_at : ℕ → Option ℕ
  some_at at = Some at

  first_is : (at k : ℕ) → some_at k ≡ Some at → k ≡ at
  first_is at k e = cc

  found_by : (x : A) (xs : List A) (at : ℕ) (b : Bool) (r : Option ℕ) → p x ≡ b → position p xs ≡ r → position p (x ∷ xs) ≡ Some at
      → ((k : ℕ) → position p xs ≡ Some k → IsFound p xs k) → IsFound p (x ∷ xs) at
  found_by x xs at true r e f is later =
      let zeroth : 0 ≡ at = first_is at 0 (sym (here x xs e) ∙ is) in
      record { item = x; is_there = ap (λ (k : ℕ). slice_get (x ∷ xs) k) (sym zeroth); passes = e }
  found_by x xs at false None e f is later =
      absurd (let wrong : ⊥ = cc (sym (there x xs e ∙ ap next f) ∙ is) in wrong)
  found_by x xs at false (Some k) e f is later =
      let same : suc k ≡ at = first_is at (suc k) (sym (there x xs e ∙ ap next f) ∙ is) in
      let found = later k f in
      record { item = found.item; is_there = ap (λ (j : ℕ). slice_get (x ∷ xs) j) (sym same) ∙ found.is_there; passes = found.passes }

  pub found : (xs : List A) (at : ℕ) → position p xs ≡ Some at → IsFound p xs at
  found [] at is = absurd cc
  found (x ∷ xs) at is = found_by x xs at (p x) (position p xs) refl refl is (λ k f. found xs k f)

module _ {A : Type 0} where
  -- one item less
  pub less_long : (xs : List A) (at : ℕ) (x : A) → slice_get xs at ≡ Some x → 1 + length (remove xs at) ≡ length xs
  less_long [] at x is = absurd cc
  less_long (y ∷ ys) zero x is = omega arith
  less_long (y ∷ ys) (suc at) x is = let more = less_long ys at x is in omega (arith, more)

  -- as many items
  pub as_long : (xs : List A) (at : ℕ) (y : A) → length (slice_set xs at y) ≡ length xs
  as_long [] zero y = refl
  as_long [] (suc at) y = refl
  as_long (x ∷ xs) zero y = refl
  as_long (x ∷ xs) (suc at) y = ap (λ (n : ℕ). suc n) (as_long xs at y)

  -- what is so of each is so of each that is left
  pub all_left : (P : A → Type 0) (xs : List A) (at : ℕ) → AllByRecursion P xs → AllByRecursion P (remove xs at)
  all_left P [] zero all = tt
  all_left P [] (suc at) all = tt
  all_left P (x ∷ xs) zero all = all.1
  all_left P (x ∷ xs) (suc at) all = (all.0, all_left P xs at all.1)

  -- and so of the one at a place
  pub all_at : (P : A → Type 0) (xs : List A) (at : ℕ) (x : A) → slice_get xs at ≡ Some x → AllByRecursion P xs → P x
  all_at P [] at x is all = absurd cc
  all_at P (y ∷ ys) zero x is all = let same : y ≡ x = cc in subst P same all.0
  all_at P (y ∷ ys) (suc at) x is all = all_at P ys at x is all.1

  -- and so of each, where one changes to one of which it is so
  pub all_set : (P : A → Type 0) (xs : List A) (at : ℕ) (y : A) → P y → AllByRecursion P xs → AllByRecursion P (slice_set xs at y)
  all_set P [] zero y is all = tt
  all_set P [] (suc at) y is all = tt
  all_set P (x ∷ xs) zero y is all = (is, all.1)
  all_set P (x ∷ xs) (suc at) y is all = (all.0, all_set P xs at y is all.1)

  pub all_more : (P : A → Type 0) (xs : List A) (y : A) → P y → AllByRecursion P xs → AllByRecursion P (xs ++ y ∷ [])
  all_more P [] y is all = (is, tt)
  all_more P (x ∷ xs) y is all = (all.0, all_more P xs y is all.1)

  -- what was taken out of a place stood there
  pub stood : (xs : List A) (at : ℕ) (x y : A) → slice_get xs at ≡ Some y → x ≡ get_or xs at x → slice_get xs at ≡ Some x
  stood xs at x y there is = slice_get-get_or xs at x (slice_get_within xs at y there) ∙ ap (λ (z : A). Some z) (sym is)

  pub same_item : (xs : List A) (at : ℕ) (x y : A) → slice_get xs at ≡ Some x → slice_get xs at ≡ Some y → x ≡ y
  same_item xs at x y one other = let both = sym one ∙ other in cc

module _ {A : Type 0} (p : A → Bool) where
  none_by : (x : A) (xs : List A) (b : Bool) → p x ≡ b → position p (x ∷ xs) ≡ None → (p x ≡ false) × (position p xs ≡ None)
  none_by x xs true e is = absurd (let wrong : ⊥ = cc (here p x xs e, is) in wrong)
  none_by x xs false e is = (e, next_none (position p xs) (sym (there p x xs e) ∙ is))
    where
      next_none : (r : Option ℕ) → next r ≡ None → r ≡ None
      next_none None same = refl
      next_none (Some k) same = absurd (let wrong : ⊥ = cc in wrong)

  -- where no place is found, no item passes
  pub none_passes_at : (xs : List A) → position p xs ≡ None → AllByRecursion (λ (x : A). p x ≡ false) xs
  none_passes_at [] is = tt
  none_passes_at (x ∷ xs) is = let both = none_by x xs (p x) refl is in (both.0, none_passes_at xs both.1)
