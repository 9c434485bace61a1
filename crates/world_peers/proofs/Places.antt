-- What is found, and where it stands.
use Rattle.std.proofs.Common.{◌≡◌, ℕ, suc, ◌+◌, Bool, true, false, not, cond, ltb, List, [], ◌∷◌, length, Option, Some, None, refl, ap, sym, ◌∙◌, arith}
use Rattle.std.specs.Prelude.{find, position, slice_get}
use Rattle.std.specs.List.{position_or_len}
use Rattle.std.proofs.lemmas.Bool.{ltb-false}
use Rattle.std.proofs.lemmas.Option.{slice_get_past}

found_by : {A : Type 0} (test : A → Bool) (x : A) (xs : List A) (b : Bool) → find test xs ≡ slice_get xs (position_or_len test xs)
    → cond b (Some x) (find test xs) ≡ slice_get (x ∷ xs) (cond (not b) (1 + position_or_len test xs) 0)
found_by test x xs true rest = refl
found_by test x xs false rest = rest ∙ ap (slice_get (x ∷ xs)) (let one : suc (position_or_len test xs) ≡ 1 + position_or_len test xs = omega arith in one)

found_is : {A : Type 0} (test : A → Bool) (xs : List A) → find test xs ≡ slice_get xs (position_or_len test xs)
found_is test [] = refl
found_is test (x ∷ xs) = found_by test x xs (test x) (found_is test xs)

place_by : (n at : ℕ) (below : Bool) → cond below (Some n) None ≡ Some at → n ≡ at
place_by n at true is = cc
place_by n at false is = absurd (let h : ⊥ = cc in h)

-- the item at the place is the one that is found
pub place_found : {A : Type 0} (test : A → Bool) (xs : List A) (at : ℕ) → position test xs ≡ Some at → slice_get xs at ≡ find test xs
place_found test xs at is =
    sym (found_is test xs ∙ ap (slice_get xs) (place_by (position_or_len test xs) at (ltb (position_or_len test xs) (length xs)) is))

past_end : {A : Type 0} (xs : List A) (n : ℕ) (below : Bool) → ltb n (length xs) ≡ below → (let none : Option ℕ = None in cond below (Some n) None ≡ none) → (let none : Option A = None in slice_get xs n ≡ none)
past_end xs n true is none = absurd (let h : ⊥ = cc in h)
past_end xs n false is none = slice_get_past xs n (ltb-false n (length xs) is)

-- where there is no place nothing is found
pub none_found : {A : Type 0} (test : A → Bool) (xs : List A) → (let none : Option ℕ = None in position test xs ≡ none) → (let none : Option A = None in find test xs ≡ none)
none_found test xs is = found_is test xs ∙ past_end xs (position_or_len test xs) (ltb (position_or_len test xs) (length xs)) refl is
