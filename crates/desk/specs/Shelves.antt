-- Contents that were read and are kept.
use Rattle.std.specs.Prelude.{◌≡◌, ◌≤◌, ◌⊎◌, ℕ, ◌+◌, All, List, [], ◌∷◌, ◌++◌, drop, Some}
use Rattle.outside.specs.Files.{Files}
use Rattle.desk.specs.declared.inputs.shelf.Shelved.{Shelved}
use Rattle.desk.specs.Kept.{logged}

-- the least content that is kept
abbrev pub least_kept : ℕ
least_kept = 65536

-- the largest
abbrev pub most_kept : ℕ
most_kept = 67108864

-- the most bytes that are kept together
abbrev pub most_together : ℕ
most_together = 134217728

-- the bytes of all of them together
abbrev pub bytes_on : List Shelved → ℕ
bytes_on [] = 0
bytes_on (x ∷ xs) = x.content.size + bytes_on xs

-- The bytes have the size and the digest that stand beside them, and it is no size that isn't kept.
pub record IsShelved (x : Shelved) : Type 0 where
  pub whole : x.content ≡ logged x.bytes
  pub least : least_kept ≤ x.content.size
  pub most : x.content.size ≤ most_kept

-- Each content is as it may be kept, and together they are few bytes.
pub record IsShelf (kept : List Shelved) : Type 0 where
  pub each : All IsShelved kept
  pub together : bytes_on kept ≤ most_together

-- The oldest contents left, or none, and this one is the newest, or it isn't kept.
abbrev pub IsPutOn : List Shelved → Shelved → List Shelved → Type 0
IsPutOn before x after = (n : ℕ) × ((after ≡ drop n before) ⊎ (after ≡ drop n before ++ (x ∷ [])))

-- Each content is what stands under its name.
abbrev pub AreThere : List Shelved → Files → Type 0
AreThere kept files = All (λ x. files x.name ≡ Some x.bytes) kept
