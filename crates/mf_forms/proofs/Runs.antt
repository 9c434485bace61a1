-- What stands between the items that pass a test, taken off from the front.
use Rattle.std.proofs.Common.{◌≡◌, ℕ, zero, suc, ◌+◌, ◌<◌, Bool, true, false, not, cond, ltb, eqb, List, [], ◌∷◌, length, get_or, drop, filter, refl, sym, ap, subst, ◌∙◌, inl, inr, arith, length-drop}
use Rattle.std.proofs.lemmas.Bool.{cases_lt, lt-ltb, both_ways, eqb-true, eqb-false}
use Rattle.std.proofs.lemmas.List.{drop_more, take_all, drop_all, get_or-drop}
use Rattle.std.proofs.lemmas.List.Folds.{length-prefix_len}
use Rattle.std.proofs.lemmas.List.Splits.{slice_split_first, slice_split_none}
use Rattle.std.proofs.lemmas.List.Sums.{prefix_len_stops, passes_at_first, fails_before_first}
use Rattle.std.specs.List.{slice_split, before_first, after_first, position_or_len, prefix_len}
use Rattle.mf_forms.specs.Words.{is_blank, runs, words, first_word, without_front}

module _ {X : Type 0} (p : X → Bool) where
  -- an item at the front that passes stands in no run
  pub runs-passing : (x : X) (xs : List X) → p x ≡ true → runs p (x ∷ xs) ≡ runs p xs
  runs-passing x xs h = rw h refl

  front_by : (x : X) (xs : List X) (b : Bool) → p x ≡ b → runs p (drop (prefix_len p xs) xs) ≡ runs p xs → runs p (drop (cond b (1 + prefix_len p xs) 0) (x ∷ xs)) ≡ runs p (x ∷ xs)
  front_by x xs true h more = let e : 1 + prefix_len p xs ≡ suc (prefix_len p xs) = omega arith in rw e (more ∙ sym (runs-passing x xs h))
  front_by x xs false h more = refl

  pub runs-front : (xs : List X) → runs p (drop (prefix_len p xs) xs) ≡ runs p xs
  runs-front [] = refl
  runs-front (x ∷ xs) = front_by x xs (p x) refl (runs-front xs)

  -- a first part that isn't empty is a run
  runs-part : (xs part : List X) (parts : List (List X)) → 0 < length part → slice_split p xs ≡ part ∷ parts → runs p xs ≡ part ∷ filter (λ (run : List X). ltb 0 (length run)) parts
  runs-part xs part parts filled is = let t : ltb 0 (length part) ≡ true = lt-ltb 0 (length part) filled in rw (is, t) refl

  -- the first run ends before the first item that passes
  pub runs-first : (xs : List X) → 0 < length (before_first p xs) → runs p xs ≡ before_first p xs ∷ runs p (drop (length (before_first p xs)) xs)
  runs-first [] filled = absurd (omega (arith, filled))
  runs-first (x ∷ xs) filled =
      let ys : List X = x ∷ xs in
      let at : length (before_first p ys) ≡ position_or_len p ys = length-prefix_len (λ y. not (p y)) ys in
      elim (cases_lt (position_or_len p ys) (length ys)) [
        | inl lt ↦
            let rest : drop (length (before_first p ys)) ys ≡ get_or ys (position_or_len p ys) x ∷ after_first p ys = rw at (drop_more ys (position_or_len p ys) x lt) in
            let same : runs p (drop (length (before_first p ys)) ys) ≡ runs p (after_first p ys) =
            ap (λ zs. runs p zs) rest ∙ runs-passing (get_or ys (position_or_len p ys) x) (after_first p ys) (passes_at_first p ys x lt) in
            runs-part ys (before_first p ys) (slice_split p (after_first p ys)) filled (slice_split_first p ys x lt) ∙ ap (λ rs. before_first p ys ∷ rs) (sym same)
        | inr ge ↦
            let none : slice_split p ys ≡ ys ∷ [] = slice_split_none p ys (λ k d lt. fails_before_first p ys k d (omega (arith, ge, lt))) in
            let whole : before_first p ys ≡ ys = take_all (position_or_len p ys) ys ge in
            let rest : drop (length (before_first p ys)) ys ≡ [] = drop_all (length (before_first p ys)) ys (omega (arith, at, ge)) in
            runs-part ys ys [] (subst (λ zs. 0 < length zs) whole filled) none
            ∙ ap (λ zs. zs ∷ []) (sym whole) ∙ ap (λ zs. before_first p ys ∷ runs p zs) (sym rest)
      ]

  -- no run is left where nothing stands behind what passes at the front
  pub runs-none : (xs : List X) → length (before_first p (drop (prefix_len p xs) xs)) ≡ 0 → runs p xs ≡ []
  runs-none [] empty = refl
  runs-none (x ∷ xs) empty =
      let ys : List X = x ∷ xs in
      let f : List X = drop (prefix_len p ys) ys in
      let at : length (before_first p f) ≡ position_or_len p f = length-prefix_len (λ y. not (p y)) f in
      elim (cases_lt (prefix_len p ys) (length ys)) [
        | inl lt ↦
            let filled : 0 < length f = omega (arith, lt, length-drop (prefix_len p ys) ys) in
            let passes : p (get_or f 0 x) ≡ true = subst (λ k. p (get_or f k x) ≡ true) (sym at ∙ empty) (passes_at_first p f x (omega (arith, at, empty, filled))) in
            let there : get_or f 0 x ≡ get_or ys (prefix_len p ys) x = get_or-drop (prefix_len p ys) ys 0 x ∙ ap (λ k. get_or ys k x) (omega arith) in
            absurd (both_ways (p (get_or f 0 x)) (ap p there ∙ prefix_len_stops p ys x lt) passes)
        | inr ge ↦ sym (runs-front ys) ∙ ap (λ zs. runs p zs) (drop_all (prefix_len p ys) ys ge)
      ]

  pub next_run : (xs : List X) → 0 < length (before_first p (drop (prefix_len p xs) xs))
      → runs p xs ≡ before_first p (drop (prefix_len p xs) xs) ∷ runs p (drop (length (before_first p (drop (prefix_len p xs) xs))) (drop (prefix_len p xs) xs))
  next_run xs filled = sym (runs-front xs) ∙ runs-first (drop (prefix_len p xs) xs) filled

-- ---- words

pub words-none : (text word : List ℕ) → word ≡ first_word text → eqb (length word) 0 ≡ true → words text ≡ []
words-none text word is empty = runs-none is_blank text (ap length (sym is) ∙ eqb-true (length word) 0 empty)

filled_from : (n : ℕ) → (n ≡ 0 → ⊥) → 0 < n
filled_from zero h = absurd (h refl)
filled_from (suc n) h = omega arith

pub words-next : (text word rest : List ℕ) → word ≡ first_word text → rest ≡ drop (length (first_word text)) (without_front text) → eqb (length word) 0 ≡ false → words text ≡ word ∷ words rest
words-next text word rest is behind filled =
    let some : 0 < length (first_word text) = subst (λ w. 0 < length w) is (filled_from (length word) (eqb-false (length word) 0 filled)) in
    next_run is_blank text some ∙ ap (λ r. first_word text ∷ words r) (sym behind) ∙ ap (λ w. w ∷ words rest) (sym is)
