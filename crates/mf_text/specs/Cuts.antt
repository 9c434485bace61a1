-- The pieces of a text as a relation: how each is spelled, and what may stand behind it.
use Rattle.std.specs.Prelude.{◌≡◌, ◌⊎◌, ℕ, true, false, List, [], ◌∷◌, ◌++◌, slice_index, ◌==◌}
use Rattle.mf_text.specs.Names.{begins_name, continues_name, is_variable}
use Rattle.mf_text.specs.Expansion.{Piece, plain, dollar, named, unclosed, holds, pieces}

-- nothing that a dollar before it expands
abbrev pub BeginsNothing : List ℕ → Type 0
BeginsNothing behind =
    ((slice_index behind 0 == 36) ≡ false) × ((slice_index behind 0 == 40) ≡ false) × ((slice_index behind 0 == 123) ≡ false)
    × (begins_name (slice_index behind 0) ≡ false)

-- a dollar and the text between two marks
abbrev pub Encloses : ℕ → ℕ → List ℕ → List ℕ → Type 0
Encloses opening closing text bytes = (bytes ≡ 36 ∷ opening ∷ (text ++ closing ∷ [])) × (holds closing text ≡ false)

-- a dollar and a mark that stays open
abbrev pub StaysOpen : ℕ → ℕ → List ℕ → List ℕ → Type 0
StaysOpen opening closing bytes behind = (bytes ≡ 36 ∷ opening ∷ []) × (holds closing behind ≡ false)

-- a dollar and a name that ends before what stands behind it
abbrev pub IsBareName : List ℕ → List ℕ → List ℕ → Type 0
IsBareName text bytes behind = (bytes ≡ 36 ∷ text) × (is_variable text ≡ true) × (continues_name (slice_index behind 0) ≡ false)

-- the bytes spell the piece, with these bytes behind them
abbrev pub Spells : Piece → List ℕ → List ℕ → Type 0
Spells (plain b) bytes behind = (bytes ≡ b ∷ []) × ((b == 36) ≡ false)
Spells dollar bytes behind = (bytes ≡ 36 ∷ 36 ∷ []) ⊎ ((bytes ≡ 36 ∷ []) × BeginsNothing behind)
Spells (named text) bytes behind = IsBareName text bytes behind ⊎ (Encloses 40 41 text bytes ⊎ Encloses 123 125 text bytes)
Spells unclosed bytes behind = StaysOpen 40 41 bytes behind ⊎ StaysOpen 123 125 bytes behind

-- the text consists of these pieces
abbrev pub IsCut : List Piece → List ℕ → Type 0
IsCut [] text = text ≡ []
IsCut (piece ∷ more) text =
    (bytes : List ℕ) × ((behind : List ℕ) × ((text ≡ bytes ++ behind) × (Spells piece bytes behind × IsCut more behind)))

-- a text consists of its pieces, and of no others
abbrev pub TextsAreCutOnce : Type 0
TextsAreCutOnce = (text : List ℕ) → IsCut (pieces text) text × ((ps : List Piece) → IsCut ps text → ps ≡ pieces text)
