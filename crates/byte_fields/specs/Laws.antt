-- What it means that a reader and a spelling belong together, and that a reader stops at the least place.
use Rattle.std.specs.Prelude.{◌≡◌, ℕ, ◌+◌, ◌<◌, List, [], ◌++◌, length, take, get_or, Ok, Err}
use Rattle.byte_fields.specs.declared.fault.FieldFault.{FieldFault}
use Rattle.byte_fields.specs.Faults.{left_of}
use Rattle.byte_fields.specs.Reading.{Reader}

-- Each is a byte's value.
abbrev pub IsBytes : List ℕ → Type 0
IsBytes bytes = (i : ℕ) → get_or bytes i 0 < 256

-- what a reader took off the front
pub record Takes (bytes text rest : List ℕ) : Type 0 where
  pub parts : bytes ≡ text ++ rest
  pub rest_fits : IsBytes rest

-- What is read is spelled so, and what is spelled so is read, whatever follows.
pub record IsField {A : Type 0} (spell : A → List ℕ) (fits : A → Type 0) (read : Reader A) : Type 0 where
  pub takes : (bytes : List ℕ) (x : A) (rest : List ℕ) → IsBytes bytes → read bytes ≡ Ok (x, rest) → Takes bytes (spell x) rest × fits x
  pub again : (x : A) (rest : List ℕ) → fits x → read (spell x ++ rest) ≡ Ok (x, rest)

-- A value was read off the front, and whatever stands behind has no part in it.
pub record Consumes {A : Type 0} (read : Reader A) (bytes : List ℕ) (x : A) (rest : List ℕ) : Type 0 where
  pub front : List ℕ
  pub parts : bytes ≡ front ++ rest
  pub same : (other : List ℕ) → read (front ++ other) ≡ Ok (x, other)

-- The reader stopped at the least place: what stands before it can be completed to a value, and with the byte there, or with the end, it can't.
pub record Halts {A : Type 0} (read : Reader A) (bytes : List ℕ) (left : ℕ) : Type 0 where
  pub front : List ℕ
  pub behind : List ℕ
  pub parts : bytes ≡ front ++ behind
  pub there : length behind ≡ left
  pub more : List ℕ
  pub small : IsBytes more
  pub made : A
  pub begun : read (front ++ more) ≡ Ok (made, [])
  pub never : (other : List ℕ) → take 1 other ≡ take 1 behind → (e : FieldFault) × (read (front ++ other) ≡ Err e)

-- some bytes that are one field
pub record HasField {A : Type 0} (read : Reader A) : Type 0 where
  pub bytes : List ℕ
  pub value : A
  pub small : IsBytes bytes
  pub read_so : read bytes ≡ Ok (value, [])

-- A reader that stops at the least place.
pub record IsPrompt {A : Type 0} (read : Reader A) : Type 0 where
  pub consumes : (bytes : List ℕ) (x : A) (rest : List ℕ) → read bytes ≡ Ok (x, rest) → Consumes read bytes x rest
  pub halts : (bytes : List ℕ) (e : FieldFault) → read bytes ≡ Err e → Halts read bytes (left_of e)
  pub field : HasField read

-- The first n bytes, or all of them and their end where there are fewer, are those of the spelling of a value that fits.
pub record Begins {A : Type 0} (spell : A → List ℕ) (fits : A → Type 0) (n : ℕ) (bytes : List ℕ) : Type 0 where
  pub value : A
  pub value_fits : fits value
  pub same : take n bytes ≡ take n (spell value)

-- The least place at which the bytes leave the grammar: what stands before it begins a spelling, and with the byte there, or with the end, it doesn't.
pub record LeavesAt {A : Type 0} (spell : A → List ℕ) (fits : A → Type 0) (bytes : List ℕ) (at : ℕ) : Type 0 where
  pub before : Begins spell fits at bytes
  pub with_it : Begins spell fits (at + 1) bytes → ⊥
