-- Texts that are joined piece by piece.
use Rattle.std.specs.Prelude.{◌≡◌, ℕ, ◌<◌, Bool, true, false, List, [], ◌∷◌, ◌++◌, length}

-- a text, behind a separator where it isn't the first
abbrev pub piece : Bool → List ℕ → List ℕ → List ℕ
piece true separator t = t
piece false separator t = separator ++ t

-- the piece stands at the end, or it would have made the text too long
abbrev pub AddsPiece : List ℕ → List ℕ → Bool → List ℕ → Type 0
AddsPiece old p true new = new ≡ old ++ p
AddsPiece old p false new = 16777216 < length (old ++ p)

-- what is still to be joined
abbrev pub remaining : Bool → List ℕ → List (List ℕ) → List ℕ
remaining first separator [] = []
remaining first separator (t ∷ ts) = piece first separator t ++ remaining false separator ts
