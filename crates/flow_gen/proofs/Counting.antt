-- One more number of a range.
use Rattle.std.proofs.Common.{◌≡◌, ◌+◌, ℕ, zero, suc, List, [], ◌∷◌, ◌++◌, map, ap, ◌∙◌, arith}
use Rattle.std.proofs.lemmas.List.{map-append}
use Rattle.std.specs.List.{range_with_len}
use Rattle.flow_types.specs.Plans.{numbers}

range-suc : (a n : ℕ) → range_with_len a (suc n) ≡ range_with_len a n ++ ((a + n) ∷ [])
range-suc a zero = let same : a ≡ a + 0 = omega arith in ap (λ (x : ℕ). x ∷ []) same
range-suc a (suc n) =
    let same : a + 1 + n ≡ a + suc n = omega arith in
    ap (λ (xs : List ℕ). a ∷ xs) (range-suc (a + 1) n ∙ ap (λ (x : ℕ). range_with_len (a + 1) n ++ (x ∷ [])) same)

numbers-more : (n : ℕ) → numbers (n + 1) ≡ numbers n ++ (n ∷ [])
numbers-more n =
    let next : n + 1 ≡ suc n = omega arith in
    let last : 0 + n ≡ n = omega arith in
    ap (range_with_len 0) next ∙ range-suc 0 n ∙ ap (λ (x : ℕ). range_with_len 0 n ++ (x ∷ [])) last

-- what is made of each number below n + 1
pub made_more : {A : Type 0} (f : ℕ → A) (n : ℕ) → map f (numbers (n + 1)) ≡ map f (numbers n) ++ (f n ∷ [])
made_more f n = ap (map f) (numbers-more n) ∙ map-append f (numbers n) (n ∷ [])
