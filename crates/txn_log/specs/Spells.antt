-- What bytes spell a list of records.
use Rattle.std.specs.Prelude.{◌≤◌, ◌⊎◌, ℕ, List, [], ◌∷◌, ◌++◌, length, codes, Option, Some, None}
use Rattle.std.specs.List.{AllByRecursion}
use Rattle.byte_fields.specs.Spelling.{counted}
use Rattle.flow_types.specs.declared.records.Record.{Record}
use Rattle.log_records.specs.Spelling.{spelling, HasSpelling}
use Rattle.txn_log.specs.Gates.{open_gate, IsClosed}

-- the first eight bytes of a log: MFLOG01 and a newline
abbrev pub header : List ℕ
header = codes "MFLOG01" ++ 10 ∷ []

-- each record behind an open gate: the length of its spelling, and the spelling
abbrev pub entries : List Record → List ℕ
entries [] = []
entries (r ∷ records) = open_gate ∷ (counted (spelling r) ++ entries records)

-- the header and the records: what stands before the closed gate
abbrev pub front_of : List Record → List ℕ
front_of records = header ++ entries records

-- The bytes spell the records: the header, each record behind an open gate, then a byte other than an open gate, then
-- anything. Each record has a spelling.
pub record IsSpelled (records : List Record) (bytes : List ℕ) : Type 0 where
  pub fit : AllByRecursion HasSpelling records
  pub closed : IsClosed (front_of records) bytes

-- The file is there and spells the records.
abbrev pub IsLogOf : List Record → Option (List ℕ) → Type 0
IsLogOf records None = ⊥
IsLogOf records (Some bytes) = IsSpelled records bytes

-- the most bytes of a file that counts as no log yet
abbrev pub most_unbegun : ℕ
most_unbegun = 9

-- There is no log yet: no file, or one that is too short.
abbrev pub IsUnbegun : Option (List ℕ) → Type 0
IsUnbegun None = Unit {0}
IsUnbegun (Some bytes) = length bytes ≤ most_unbegun

-- The file stands for the records. For no records it may also be a log that isn't begun.
abbrev pub Spells : List Record → Option (List ℕ) → Type 0
Spells [] file = IsUnbegun file ⊎ IsLogOf [] file
Spells (r ∷ records) file = IsLogOf (r ∷ records) file
