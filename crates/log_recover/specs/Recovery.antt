-- What recovery answers.
use Rattle.std.specs.Prelude.{Bool, true, false, ◌⊎◌, Option, Some, None, Result, Ok, Err, ◌≡◌, ◌≢◌, ◌≤◌, ◌<◌, ◌-◌, ◌^◌, ℕ, List, ◌++◌, length, take, drop}
use Rattle.std.specs.List.{AllByRecursion}
use Rattle.flow_types.specs.declared.records.Record.{Record}
use Rattle.log_records.specs.Spelling.{HasSpelling}
use Rattle.txn_log.specs.Spells.{header, front_of, IsSpelled, IsUnbegun, Spells, most_unbegun}
use Rattle.txn_log.specs.Logs.{farthest, LogState}
use Rattle.log_recover.specs.Steps.{IsBroken}
use Rattle.outside.specs.Disk.{Outcomes}
use Rattle.outside.specs.Files.{Files}
use Rattle.log_recover.specs.declared.fault.RecoverFault.{RecoverFault}
use Rattle.log_recover.specs.declared.fault.RecoverFault.TheVariants.{Site, BadHeader, BadRecord, Memory}
use Rattle.log_recover.specs.declared.found.Found.{Found}
use Rattle.log_recover.specs.declared.found.Found.TheVariants.{Records, Bad}

-- Up to this place the bytes are the front of these records.
pub record IsRead (bytes : List ℕ) (records : List Record) (at : ℕ) : Type 0 where
  pub fit : AllByRecursion HasSpelling records
  pub parts : bytes ≡ front_of records ++ drop at bytes
  pub place : at ≡ length (front_of records)

-- Some records stand before this place, and at it there is no gate, or an open one and no record.
pub record IsBadAt (bytes : List ℕ) (at : ℕ) : Type 0 where
  pub records : List Record
  pub before : IsRead bytes records at
  pub broken : IsBroken (drop at bytes)

-- what the bytes hold
abbrev pub IsFound : List ℕ → Found → Type 0
IsFound bytes (Records records gate) = IsSpelled records bytes × (gate ≡ length (front_of records))
IsFound bytes (Bad at) = IsBadAt bytes at

-- A gate is no farther than its records can put it.
abbrev pub IsNear : Found → Type 0
IsNear (Records records gate) = (length records < 2 ^ 32) × (gate ≤ farthest (length records))
IsNear (Bad at) = Unit {0}

-- whether the first eight bytes are a log's
abbrev pub IsHeader : List ℕ → Bool → Type 0
IsHeader bytes true = take 8 bytes ≡ header
IsHeader bytes false = take 8 bytes ≢ header

-- what reading a log that isn't too short answers
abbrev pub Resumes : List ℕ → Result (LogState × List Record) RecoverFault → Type 0
Resumes bytes (Ok p) = IsSpelled p.1 bytes × (p.0.gate ≡ length (front_of p.1))
Resumes bytes (Err BadHeader) = take 8 bytes ≢ header
Resumes bytes (Err (BadRecord at)) = IsBadAt bytes at
Resumes bytes (Err Site) = Unit {0}
Resumes bytes (Err Memory) = Unit {0}

-- The file is longer than a log that isn't begun, and its first eight bytes aren't a log's.
abbrev pub HasBadHeader : Option (List ℕ) → Type 0
HasBadHeader None = ⊥
HasBadHeader (Some bytes) = (most_unbegun < length bytes) × (take 8 bytes ≢ header)

-- The file is longer than a log that isn't begun, begins as one, and is damaged at this place.
abbrev pub HasBadRecord : Option (List ℕ) → ℕ → Type 0
HasBadRecord None at = ⊥
HasBadRecord (Some bytes) at = (most_unbegun < length bytes) × IsBadAt bytes at

-- What recovery answers: the records that the file spells, or what is wrong with its bytes.
abbrev pub Recovers : Option (List ℕ) → Result (LogState × List Record) RecoverFault → Type 0
Recovers file (Ok p) = Spells p.1 file
Recovers file (Err BadHeader) = HasBadHeader file
Recovers file (Err (BadRecord at)) = HasBadRecord file at
Recovers file (Err Site) = Unit {0}
Recovers file (Err Memory) = Unit {0}

-- The answer is these records, or a fault of the site, or want of memory.
abbrev pub IsThese : List Record → Result (LogState × List Record) RecoverFault → Type 0
IsThese records (Ok p) = p.1 ≡ records
IsThese records (Err BadHeader) = ⊥
IsThese records (Err (BadRecord at)) = ⊥
IsThese records (Err Site) = Unit {0}
IsThese records (Err Memory) = Unit {0}

-- The answer says that something is wrong with the bytes.
abbrev pub IsDamage : Result (LogState × List Record) RecoverFault → Type 0
IsDamage (Ok p) = ⊥
IsDamage (Err BadHeader) = Unit {0}
IsDamage (Err (BadRecord at)) = Unit {0}
IsDamage (Err Site) = ⊥
IsDamage (Err Memory) = ⊥

-- The answer is what the file holds: records, or what is wrong with its bytes.
abbrev pub IsTold : Result (LogState × List Record) RecoverFault → Type 0
IsTold (Ok p) = Unit {0}
IsTold (Err BadHeader) = Unit {0}
IsTold (Err (BadRecord at)) = Unit {0}
IsTold (Err Site) = ⊥
IsTold (Err Memory) = ⊥

-- An ample site stays ample where the answer is what the file holds, and otherwise until its count is at its last value.
pub record LeavesAmple (before after : Type 0) (now : ℕ) (result : Result (LogState × List Record) RecoverFault) : Type 0 where
  pub stays : before → IsTold result → after
  pub goes_on : before → now < 2 ^ 64 - 1 → after

-- The log that is answered is the one under this name, has as many records as the list, and takes records.
pub record IsNamed (name : List ℕ) (p : LogState × List Record) : Type 0 where
  pub same_name : p.0.name ≡ name
  pub many : p.0.count ≡ length p.1
  pub fine : p.0.trouble ≡ None

-- The file under the name isn't begun, and each other name has an outcome that it had.
pub record IsUnbegunAt (name : List ℕ) (outcomes : Outcomes) (image : Files) : Type 0 where
  pub log : IsUnbegun (image name)
  pub others : (m : List ℕ) → m ≢ name → outcomes m (image m)

-- The file under the name is as a crash might have left it before, or neither it nor the one that reads give was begun.
-- Each other name has an outcome that it had.
pub record IsRecovering (name : List ℕ) (file : Option (List ℕ)) (outcomes : Outcomes) (image : Files) : Type 0 where
  pub log : outcomes name (image name) ⊎ (IsUnbegun file × IsUnbegun (image name))
  pub others : (m : List ℕ) → m ≢ name → outcomes m (image m)

-- The file under the name spells the records, and each other name has an outcome that it had.
pub record IsKept (name : List ℕ) (records : List Record) (outcomes : Outcomes) (image : Files) : Type 0 where
  pub log : Spells records (image name)
  pub others : (m : List ℕ) → m ≢ name → outcomes m (image m)
