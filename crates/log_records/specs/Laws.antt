-- What holds of the grammar of records.
use Rattle.std.specs.Prelude.{◌≡◌, ◌↔◌, ℕ, List, Ok, Err}
use Rattle.byte_fields.specs.Laws.{IsBytes}
use Rattle.flow_types.specs.declared.records.Record.{Record}
use Rattle.log_records.specs.Spelling.{spelling, HasSpelling}
use Rattle.log_records.specs.Reading.{record_of}
use Rattle.log_records.specs.Answers.{Leaves}

-- A body is read as a record exactly where it is the record's spelling.
abbrev pub ReadsSpellings : Type 0
ReadsSpellings = (body : List ℕ) (r : Record) → IsBytes body → (record_of body ≡ Ok r) ↔ (HasSpelling r × (body ≡ spelling r))

-- A body is refused at a place exactly where that is the least place at which it leaves the grammar.
abbrev pub RefusesLeast : Type 0
RefusesLeast = (body : List ℕ) (at : ℕ) → IsBytes body → (record_of body ≡ Err at) ↔ Leaves body at

-- No two records have one spelling.
abbrev pub SpelledApart : Type 0
SpelledApart = (r s : Record) → HasSpelling r → HasSpelling s → spelling r ≡ spelling s → r ≡ s
