-- What stands at a gate.
use Rattle.std.specs.Prelude.{◌≡◌, ◌≢◌, ◌≤◌, ◌<◌, ℕ, ◌+◌, List, [], ◌∷◌, ◌++◌, length, take, drop, Option, Some, None}
use Rattle.byteorder.specs.Endian.{big_bytes}
use Rattle.byte_fields.specs.Spelling.{counted}
use Rattle.flow_types.specs.declared.records.Record.{Record}
use Rattle.log_records.specs.Spelling.{spelling, HasSpelling, most_spelled}
use Rattle.txn_log.specs.Gates.{open_gate}
use Rattle.txn_log.specs.Logs.{around}
use Rattle.log_recover.specs.declared.step.Head.{Head}
use Rattle.log_recover.specs.declared.step.Head.TheVariants.{Shut, Length, Cut}
use Rattle.log_recover.specs.declared.step.Step.{Step}
use Rattle.log_recover.specs.declared.step.Step.TheVariants.{Closed, Entry, Bad}

-- The gate is there, and isn't open.
abbrev pub IsShut : List ℕ → Type 0
IsShut [] = ⊥
IsShut (gate ∷ rest) = gate ≢ open_gate

-- The gate is open, and behind it stands this record and then these bytes.
pub record IsEntry (r : Record) (bytes more : List ℕ) : Type 0 where
  pub fits : HasSpelling r
  pub text : bytes ≡ open_gate ∷ (counted (spelling r) ++ more)

-- There is no gate, or it is open and no record stands behind it.
pub record IsBroken (bytes : List ℕ) : Type 0 where
  pub not_shut : IsShut bytes → ⊥
  pub no_entry : (r : Record) (more : List ℕ) → IsEntry r bytes more → ⊥

-- what stands at this place of these bytes
abbrev pub Stands : List ℕ → ℕ → Step → Type 0
Stands bytes at Closed = IsShut (drop at bytes)
Stands bytes at (Entry r end) = IsEntry r (drop at bytes) (drop end bytes)
Stands bytes at Bad = IsBroken (drop at bytes)

-- There is no gate, or an open one and no whole length.
abbrev pub IsShort : List ℕ → Type 0
IsShort [] = Unit {0}
IsShort (gate ∷ rest) = (gate ≡ open_gate) × (length rest < 4)

-- what the first five bytes at a gate are, or as many as there are
abbrev pub IsHead : List ℕ → Head → Type 0
IsHead front Shut = IsShut front
IsHead front (Length len) = front ≡ open_gate ∷ big_bytes 4 len
IsHead front Cut = IsShort front

-- what the bytes at this place begin with
abbrev pub BeginsSo : List ℕ → ℕ → Head → Type 0
BeginsSo bytes at Shut = IsShut (drop at bytes)
BeginsSo bytes at (Length len) = drop at bytes ≡ open_gate ∷ (big_bytes 4 len ++ drop (at + 5) bytes)
BeginsSo bytes at Cut = IsBroken (drop at bytes)

-- The bytes from this place on are those of this record, or of none that is so long.
abbrev pub IsBody : List ℕ → ℕ → ℕ → Option Record → Type 0
IsBody bytes at len (Some r) = HasSpelling r × (length (spelling r) ≡ len) × (take len (drop at bytes) ≡ spelling r)
IsBody bytes at len None = (r : Record) (more : List ℕ) → HasSpelling r → length (spelling r) ≡ len → drop at bytes ≡ spelling r ++ more → ⊥

-- An entry ends behind its place and within the file, and is no longer than an entry can be.
abbrev pub EndsWithin : ℕ → ℕ → Step → Type 0
EndsWithin at size Closed = Unit {0}
EndsWithin at size (Entry r end) = (at < end) × (end ≤ size) × (end ≤ at + (around + most_spelled))
EndsWithin at size Bad = Unit {0}
