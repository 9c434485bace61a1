-- What a crash may leave of a site's files.
use Rattle.std.specs.Prelude.{◌≡◌, ◌≢◌, ◌⊎◌, ℕ, ◌+◌, ◌≤◌, max, List, length, take, drop, Option, Some, None, Result, OnOk, IsErrOf}
use Rattle.outside.specs.declared.fault.Fault.{Fault}
use Rattle.outside.specs.declared.fault.Fault.TheVariants.{Memory}
use Rattle.outside.specs.Files.{Files}

-- what a crash may leave under each name: some bytes, or nothing
abbrev pub Outcomes : Type 1
Outcomes = List ℕ → Option (List ℕ) → Type 0

-- An image has under each name one of its outcomes, whatever it has under the others.
abbrev pub IsImage : Outcomes → Files → Type 0
IsImage outcomes image = (name : List ℕ) → outcomes name (image name)

-- After a write of n bytes that a crash cuts short there are any bytes in the range and past the old end, and the old
-- ones elsewhere. The file is as long as before, or longer up to the written end.
pub record Torn (at n : ℕ) (old new : List ℕ) : Type 0 where
  pub before : take at new ≡ take at old
  pub after : drop (at + n) new ≡ drop (at + n) old
  pub no_shorter : length old ≤ length new
  pub no_longer : length new ≤ max (length old) (at + n)

-- After a cut the bytes up to the new end stay, and behind it there are any bytes up to the old end.
pub record Shortened (len : ℕ) (old new : List ℕ) : Type 0 where
  pub front : take len new ≡ take len old
  pub no_longer : length new ≤ length old

-- A write that finds no file leaves none, or any bytes up to the written end.
abbrev pub IsTorn : ℕ → ℕ → Option (List ℕ) → Option (List ℕ) → Type 0
IsTorn at n None None = Unit {0}
IsTorn at n None (Some new) = length new ≤ at + n
IsTorn at n (Some old) None = ⊥
IsTorn at n (Some old) (Some new) = Torn at n old new

-- A cut leaves a file where there is one.
abbrev pub IsShortened : ℕ → Option (List ℕ) → Option (List ℕ) → Type 0
IsShortened len None None = Unit {0}
IsShortened len None (Some new) = ⊥
IsShortened len (Some old) None = ⊥
IsShortened len (Some old) (Some new) = Shortened len old new

-- A removed name is gone, or returns with any bytes up to its length.
abbrev pub IsRemoved : Option (List ℕ) → Option (List ℕ) → Type 0
IsRemoved old None = Unit {0}
IsRemoved None (Some new) = ⊥
IsRemoved (Some old) (Some new) = length new ≤ length old

-- There is no outcome that wasn't one before.
abbrev pub Within : Outcomes → Outcomes → Type 0
Within old new = (name : List ℕ) (entry : Option (List ℕ)) → new name entry → old name entry

-- A call that writes under one name: each outcome there is an earlier one after a step. Under every other name, and at
-- Memory under this one too, each is an earlier one.
pub record Follows {T : Type 0} (result : Result T Fault) (name : List ℕ) (step : Option (List ℕ) → Option (List ℕ) → Type 0)
    (old new : Outcomes) : Type 0 where
  pub here : (entry : Option (List ℕ)) → new name entry → (before : Option (List ℕ)) × old name before × step before entry
  pub others : (m : List ℕ) (entry : Option (List ℕ)) → m ≢ name → new m entry → old m entry
  pub refused : IsErrOf result Memory → (entry : Option (List ℕ)) → new name entry → old name entry

-- A sync makes no new outcome. At Ok a crash leaves under the name what a read gives.
pub record Settles {T : Type 0} (result : Result T Fault) (name : List ℕ) (files : Files) (old new : Outcomes) : Type 0 where
  pub within : Within old new
  pub durable : OnOk result ((entry : Option (List ℕ)) → new name entry → entry ≡ files name)

-- Time goes on by a call: since a time before it, a crash might have left what it might have left then, or may leave
-- what it may leave now.
pub record Elapses (before now : ℕ) (past since : ℕ → Files → Type 0) (outcomes : Outcomes) : Type 0 where
  pub later : before ≤ now
  pub nothing_else : (t : ℕ) (image : Files) → t ≤ before → since t image → past t image ⊎ IsImage outcomes image
  pub keeps : (t : ℕ) (image : Files) → t ≤ before → past t image → since t image

-- From the old state to the new one a crash at any moment leaves an image that has P. A run that began earlier leaves
-- no others besides those that it left by then.
pub record LeavesOnly {D : Type 0} (moment : D → ℕ) (images_since : D → ℕ → Files → Type 0) (old new : D) (P : Files → Type 0) : Type 0 where
  pub later : moment old ≤ moment new
  pub each : (image : Files) → images_since new (moment old) image → P image
  pub before : (t : ℕ) (image : Files) → t ≤ moment old → images_since new t image → images_since old t image ⊎ P image

-- The image has under the name an outcome after a step, and under each other name an outcome.
pub record IsStepped (name : List ℕ) (step : Option (List ℕ) → Option (List ℕ) → Type 0) (outcomes : Outcomes) (image : Files) : Type 0 where
  pub here : (before : Option (List ℕ)) × outcomes name before × step before (image name)
  pub others : (m : List ℕ) → m ≢ name → outcomes m (image m)
