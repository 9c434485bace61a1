-- What a reader of records answers.
use Rattle.std.specs.Prelude.{◌≡◌, ◌⊎◌, ℕ, ◌-◌, List, Result, Ok, Err}
use Rattle.byteorder.specs.Endian.{big_number}
use Rattle.byte_fields.specs.Laws.{LeavesAt}
use Rattle.byte_fields.specs.Faults.{left_of}
use Rattle.byte_fields.specs.declared.fault.TakeFault.{TakeFault}
use Rattle.byte_fields.specs.declared.fault.TakeFault.TheVariants as takes
use Rattle.flow_types.specs.declared.records.Record.{Record}
use Rattle.log_records.specs.Spelling.{spelling, HasSpelling}
use Rattle.log_records.specs.declared.fault.RecordFault.{RecordFault}
use Rattle.log_records.specs.declared.fault.RecordFault.TheVariants.{Bad, Memory}

-- The answer is what the body is read as, but for want of memory.
abbrev pub Answers : Result Record RecordFault → Result Record ℕ → Type 0
Answers (Ok r) read = read ≡ Ok r
Answers (Err (Bad at)) read = read ≡ Err at
Answers (Err Memory) read = Unit {0}

-- the least place at which a body leaves the grammar of records
abbrev pub Leaves : List ℕ → ℕ → Type 0
Leaves body at = LeavesAt spelling HasSpelling body at

-- The fault is at the least place where the body leaves the grammar.
abbrev pub IsFaultOf : List ℕ → RecordFault → Type 0
IsFaultOf body (Bad at) = Leaves body at
IsFaultOf body Memory = Unit {0}

-- this record, or want of memory
abbrev pub IsOrMemory : Record → Result Record RecordFault → Type 0
IsOrMemory r (Ok s) = s ≡ r
IsOrMemory r (Err (Bad at)) = ⊥
IsOrMemory r (Err Memory) = Unit {0}

-- The kind byte is that of an Opened or a Done, the records that list contents.
abbrev pub MayList : List ℕ → Type 0
MayList body = (big_number 1 body ≡ 1) ⊎ (big_number 1 body ≡ 4)

-- what is answered to this fault in a body of this length
abbrev pub refused : ℕ → TakeFault → RecordFault
refused len (takes.Field fault) = Bad (len - left_of fault)
refused len takes.Memory = Memory
