-- Empty contents.
use Rattle.std.specs.Prelude.{◌≡◌, ℕ, suc, List, [], ◌∷◌, length, map, refl}
use Rattle.std.proofs.Common.{ap}

-- an empty content for each name
abbrev pub blanks : List (List ℕ) → List (List ℕ)
blanks names = map (λ name. []) names

pub length-blanks : (names : List (List ℕ)) → length (blanks names) ≡ length names
length-blanks [] = refl
length-blanks (name ∷ names) = ap (λ (n : ℕ). suc n) (length-blanks names)
