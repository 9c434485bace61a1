-- A log that stands on a site, and how it grows.
use Rattle.std.specs.Prelude.{◌≡◌, ◌≢◌, ◌≤◌, ◌<◌, ◌⊎◌, ℕ, ◌+◌, ◌*◌, List, [], ◌∷◌, ◌++◌, length, Option, Some, None, Result, Ok, Err}
use Rattle.outside.specs.declared.fault.Fault.{Fault}
use Rattle.outside.specs.declared.fault.Fault.TheVariants as outer
use Rattle.outside.specs.Disk.{Outcomes}
use Rattle.outside.specs.Files.{Files}
use Rattle.flow_types.specs.declared.records.Record.{Record}
use Rattle.log_records.specs.Spelling.{spelling, most_spelled}
use Rattle.txn_log.specs.declared.fault.LogFault.{LogFault}
use Rattle.txn_log.specs.declared.fault.LogFault.TheVariants as faults
use Rattle.txn_log.specs.Spells.{front_of, IsLogOf}

-- The records that an append may make of a log. One that has as many, or more, is full.
abbrev pub most_records : ℕ
most_records = 1000000

-- What is known of a log beside its file: its name, how many records it has, where its closed gate stands, the bytes
-- that are there for one append, and the fault after which it takes no record any more.
pub record LogState : Type 0 where
  pub name : List ℕ
  pub count : ℕ
  pub gate : ℕ
  pub room : ℕ
  pub trouble : Option Fault

-- the bytes of an entry beside its spelling: a gate before it, and its length
abbrev pub around : ℕ
around = 5

-- the farthest place of a closed gate behind so many records
abbrev pub farthest : ℕ → ℕ
farthest count = 8 + count * (around + most_spelled)

-- The log takes records.
abbrev pub IsFine : LogState → Type 0
IsFine log = log.trouble ≡ None

-- It has a place for one more.
abbrev pub TakesOne : LogState → Type 0
TakesOne log = IsFine log × (log.count < most_records)

-- An append of a record with so long a spelling takes no memory.
abbrev pub HasRoom : LogState → ℕ → Type 0
HasRoom log bytes = around + bytes ≤ log.room

-- Each of these outcomes of a file spells the records, with the closed gate at this place.
pub record IsAt (records : List Record) (gate : ℕ) (outcomes : Option (List ℕ) → Type 0) : Type 0 where
  pub place : gate ≡ length (front_of records)
  pub each : (file : Option (List ℕ)) → outcomes file → IsLogOf records file

-- The log is that of these records: so many, and each outcome of its file spells them.
pub record IsLog (log : LogState) (records : List Record) (outcomes : Outcomes) : Type 0 where
  pub many : log.count ≡ length records
  pub at : IsAt records log.gate (outcomes log.name)

-- The file under the name spells the records, or these and one more. Under each other name there is an outcome that was
-- one.
pub record IsAppended (name : List ℕ) (records : List Record) (r : Record) (outcomes : Outcomes) (image : Files) : Type 0 where
  pub log : IsLogOf records (image name) ⊎ IsLogOf (records ++ r ∷ []) (image name)
  pub others : (m : List ℕ) → m ≢ name → outcomes m (image m)

-- the log's fault for a fault of the site or want of memory
abbrev pub told_of : Fault → LogFault
told_of outer.Failed = faults.Site
told_of outer.Memory = faults.Memory

-- The log was in this trouble, and stays as it is, or it comes into it.
pub record Troubles (log : LogState) (fault : Fault) (after : LogState) : Type 0 where
  pub wide : log.room ≤ after.room
  pub then : after ≡ record log { room = after.room; trouble = Some fault }
  pub was : ((log.trouble ≡ Some fault) × (after ≡ log)) ⊎ TakesOne log

-- How an append ends. A log in trouble answers its fault, and one with the most records or more is full; both stay as they are.
-- Otherwise the log counts the record, and its gate stands behind it, or it is in trouble from then on.
abbrev pub Appends : {T : Type 0} → LogState → Record → Result T LogFault → LogState → Type 0
Appends log r (Ok done) after = TakesOne log × (log.room ≤ after.room)
    × (after ≡ record log { count = log.count + 1; gate = log.gate + (around + length (spelling r)); room = after.room })
Appends log r (Err faults.Full) after = IsFine log × (most_records ≤ log.count) × (after ≡ log)
Appends log r (Err faults.Site) after = Troubles log outer.Failed after
Appends log r (Err faults.Memory) after = Troubles log outer.Memory after
