-- What the calls of a site do to its files, as reads give them.
use Rattle.std.specs.Prelude.{◌≡◌, ◌≢◌, ℕ, ◌+◌, ◌-◌, min, List, [], ◌++◌, length, take, drop, Option, Some, None, Result, OnOk, IsErrOf}
use Rattle.outside.specs.declared.fault.Fault.{Fault}
use Rattle.outside.specs.declared.fault.Fault.TheVariants.{Memory}

-- what stands under each name: the bytes, or nothing where no file has it
abbrev pub Files : Type 0
Files = List ℕ → Option (List ℕ)

-- the bytes, none where there is no file
abbrev pub content : Option (List ℕ) → List ℕ
content None = []
content (Some bytes) = bytes

-- these bytes at this offset, the rest as it was
abbrev pub written : ℕ → List ℕ → List ℕ → List ℕ
written at bytes old = take at old ++ bytes ++ drop (at + length bytes) old

-- A read from `at` fills as much of `old` as the content has.
pub record Reads (bytes : List ℕ) (at : ℕ) (old new : List ℕ) (count : ℕ) : Type 0 where
  pub least : count ≡ min (length old) (length bytes - at)
  pub filled : new ≡ take count (drop at bytes) ++ drop count old

-- A call that writes under one name: at Ok it has this value there. No other name changes, and at Memory nothing does.
pub record Sets {T : Type 0} (result : Result T Fault) (name : List ℕ) (value : Option (List ℕ)) (old new : List ℕ → Option (List ℕ)) : Type 0 where
  pub done : OnOk result (new name ≡ value)
  pub others : (m : List ℕ) → m ≢ name → new m ≡ old m
  pub refused : IsErrOf result Memory → new name ≡ old name

-- A call that is to change nothing, but may lose what stands under the name where it fails.
pub record Keeps {T : Type 0} (result : Result T Fault) (name : List ℕ) (old new : List ℕ → Option (List ℕ)) : Type 0 where
  pub done : OnOk result (new name ≡ old name)
  pub others : (m : List ℕ) → m ≢ name → new m ≡ old m
  pub refused : IsErrOf result Memory → new name ≡ old name
