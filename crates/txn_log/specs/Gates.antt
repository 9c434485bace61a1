-- Bytes behind a gate.
use Rattle.std.specs.Prelude.{◌≡◌, ◌≢◌, ◌⊎◌, ℕ, ◌-◌, List, ◌∷◌, ◌++◌, length, take, Option, Some, None}
use Rattle.outside.specs.Disk.{Outcomes}
use Rattle.outside.specs.Files.{Files}

-- the byte of an open gate
abbrev pub open_gate : ℕ
open_gate = 1

-- the byte that is written as a closed gate
abbrev pub closed_gate : ℕ
closed_gate = 0

-- A front, a gate that isn't open, and anything behind it.
pub record IsClosed (front bytes : List ℕ) : Type 0 where
  pub gate : ℕ
  pub rest : List ℕ
  pub shut : gate ≢ open_gate
  pub split : bytes ≡ front ++ gate ∷ rest

-- The file is there, and is this front before a closed gate.
abbrev pub Stands : List ℕ → Option (List ℕ) → Type 0
Stands front None = ⊥
Stands front (Some bytes) = IsClosed front bytes

-- what stands before the closed gate in what is written
abbrev pub staged : List ℕ → List ℕ
staged behind = take (length behind - 1) behind

-- the front with an entry behind an open gate
abbrev pub grown : List ℕ → List ℕ → List ℕ
grown front entry = front ++ open_gate ∷ entry

-- The file stands for the front, with the entry or without it.
abbrev pub StandsBeforeOrAfter : List ℕ → List ℕ → Option (List ℕ) → Type 0
StandsBeforeOrAfter front entry file = Stands front file ⊎ Stands (grown front entry) file

-- The file under the name stands for the front, with the entry or without it, and each other name has an outcome that it had.
pub record IsGrown (name front entry : List ℕ) (outcomes : Outcomes) (image : Files) : Type 0 where
  pub log : StandsBeforeOrAfter front entry (image name)
  pub others : (m : List ℕ) → m ≢ name → outcomes m (image m)
