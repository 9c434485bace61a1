-- What holds of the files of logs.
use Rattle.std.specs.Prelude.{◌≡◌, ℕ, List, Option}
use Rattle.flow_types.specs.declared.records.Record.{Record}
use Rattle.txn_log.specs.Spells.{Spells}
use Rattle.log_recover.specs.Recovery.{HasBadHeader, HasBadRecord}

-- A file spells one list of records at most.
abbrev pub SpellsOneList : Type 0
SpellsOneList = (records others : List Record) (file : Option (List ℕ)) → Spells records file → Spells others file → records ≡ others

-- A file that spells a list has no bad header.
abbrev pub HasAHeader : Type 0
HasAHeader = (records : List Record) (file : Option (List ℕ)) → Spells records file → HasBadHeader file → ⊥

-- A file that spells a list is damaged at no place.
abbrev pub IsWhole : Type 0
IsWhole = (records : List Record) (file : Option (List ℕ)) (at : ℕ) → Spells records file → HasBadRecord file at → ⊥
