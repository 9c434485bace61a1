-- One of a list, by its place.
use Rattle.std.proofs.Common.{◌≡◌, ◌<◌, ℕ, zero, suc, List, [], ◌∷◌, ◌++◌, Option, Some, length, refl, sym, ap, arith, true≢false}
use Rattle.std.specs.Prelude.{is_some, remove, slice_get, slice_set, unwrap_or}

-- It stands between these, also once it is replaced, and these are left where it is removed.
pub record SplitAt {A : Type 0} (xs : List A) (at : ℕ) (x : A) : Type 0 where
  pub before : List A
  pub behind : List A
  pub are : xs ≡ before ++ (x ∷ behind)
  pub place : length before ≡ at
  pub set : (y : A) → slice_set xs at y ≡ before ++ (y ∷ behind)
  pub rest : remove xs at ≡ before ++ behind

pub split_at : {A : Type 0} (xs : List A) (at : ℕ) (x : A) → slice_get xs at ≡ Some x → SplitAt xs at x
split_at [] at x is = absurd (true≢false (sym (ap is_some is)))
split_at {A} (y ∷ ys) zero x is =
    let same : y ≡ x = ap (λ (o : Option A). unwrap_or o x) is in
    record { before = []; behind = ys; are = ap (λ (z : A). z ∷ ys) same; place = refl; set = λ z. refl; rest = refl }
split_at {A} (y ∷ ys) (suc at) x is =
    let s = split_at ys at x is in
    record {
      before = y ∷ s.before;
      behind = s.behind;
      are = ap (λ (l : List A). y ∷ l) s.are;
      place = ap suc s.place;
      set = λ z. ap (λ (l : List A). y ∷ l) (s.set z);
      rest = ap (λ (l : List A). y ∷ l) s.rest;
    }

-- what stands behind so many
pub at_length : {A : Type 0} (before : List A) (x : A) (behind : List A) → slice_get (before ++ (x ∷ behind)) (length before) ≡ Some x
at_length [] x behind = refl
at_length (y ∷ before) x behind = at_length before x behind

pub rest_length : {A : Type 0} (before : List A) (x : A) (behind : List A) → remove (before ++ (x ∷ behind)) (length before) ≡ before ++ behind
rest_length [] x behind = refl
rest_length {A} (y ∷ before) x behind = ap (λ (l : List A). y ∷ l) (rest_length before x behind)

pub inside_length : {A : Type 0} (before : List A) (x : A) (behind : List A) → length before < length (before ++ (x ∷ behind))
inside_length [] x behind = omega arith
inside_length (y ∷ before) x behind = let rest = inside_length before x behind in omega (arith, rest)
