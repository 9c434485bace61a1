-- A text as the code takes it apart: runs of plain bytes, and the pieces of its dollars.
use Rattle.std.specs.Prelude.{◌≡◌, ℕ, Bool, true, false, List, [], ◌∷◌, map, slice_index}
use Rattle.mf_text.specs.Names.{begins_name}
use Rattle.mf_text.specs.Expansion.{Piece, plain, dollar, named, unclosed, holds}
use Rattle.mf_text.specs.declared.parts.Part.{Part}
use Rattle.mf_text.specs.declared.parts.Part.TheVariants.{Plain, Dollar, Named, Unclosed}
use Rattle.mf_text.specs.declared.parts.Missing.{Missing}

-- the pieces that a part stands for
abbrev pub shown : Part → List Piece
shown (Plain text) = map plain text.now
shown Dollar = dollar ∷ []
shown (Named text) = named text.now ∷ []
shown Unclosed = unclosed ∷ []

-- the text holds no such closing mark, where one was missed already
abbrev pub Lacks : Bool → ℕ → List ℕ → Type 0
Lacks missed close text = missed ≡ true → holds close text ≡ false

-- the text holds none of the closing marks that were missed
abbrev pub LacksMissing : Missing → List ℕ → Type 0
LacksMissing missing text = Lacks missing.parenthesis 41 text × Lacks missing.brace 125 text

-- The text begins with no name.
abbrev pub BeginsNoName : List ℕ → Type 0
BeginsNoName text = begins_name (slice_index text 0) ≡ false
