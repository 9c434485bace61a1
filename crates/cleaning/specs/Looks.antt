-- What a look at a log answers.
use Rattle.std.specs.Prelude.{◌≡◌, ℕ, List, [], Option, Some, None, Result, Ok, Err, map}
use Rattle.flow_types.specs.declared.plan.Plan.{Plan}
use Rattle.flow_types.specs.declared.records.Record.{Record}
use Rattle.run_history.specs.declared.moves.Move.TheVariants as moves
use Rattle.task_core.specs.States.{TableState}
use Rattle.task_core.specs.Stands.{Stands}
use Rattle.txn_log.specs.Spells.{Spells}
use Rattle.log_recover.specs.declared.fault.RecoverFault.TheVariants as recovery
use Rattle.desk.specs.declared.answers.StartFault.{StartFault}
use Rattle.desk.specs.declared.answers.StartFault.TheVariants as faults
use Rattle.desk.specs.Histories.{history_fault}
use Rattle.local_run.specs.Moments.{IsUnread}
use Rattle.cleaning.specs.declared.answers.LookFault.{LookFault}
use Rattle.cleaning.specs.declared.answers.LookFault.TheVariants as looks
use Rattle.cleaning.specs.declared.answers.LookRefused.{LookRefused}

-- The fault is of the log's plan or of its records, or it is want of memory.
abbrev pub IsOfRecords : StartFault → Type 0
IsOfRecords (faults.OtherFlow logged found) = Unit {0}
IsOfRecords (faults.NotLegal at) = Unit {0}
IsOfRecords faults.Memory = Unit {0}
IsOfRecords why = ⊥

-- the same fault, as a look tells it
abbrev pub look_fault : StartFault → LookFault
look_fault (faults.OtherFlow logged found) = looks.OtherFlow logged found
look_fault (faults.NotLegal at) = looks.NotLegal at
look_fault why = looks.Memory

-- A log that spells these records is refused so: this is what is wrong with them, or the site failed, or memory was wanting.
abbrev pub IsLookFault : Plan → List Record → LookFault → Type 0
IsLookFault P H (looks.Log recovery.Site) = Unit {0}
IsLookFault P H (looks.Log recovery.BadHeader) = ⊥
IsLookFault P H (looks.Log (recovery.BadRecord at)) = ⊥
IsLookFault P H (looks.Log recovery.Memory) = Unit {0}
IsLookFault P H (looks.OtherFlow logged found) = history_fault P H ≡ Some (faults.OtherFlow logged found)
IsLookFault P H (looks.NotLegal at) = history_fault P H ≡ Some (faults.NotLegal at)
IsLookFault P H looks.Memory = Unit {0}

-- The log was read.
abbrev pub WasRead : LookFault → Type 0
WasRead (looks.Log why) = ⊥
WasRead (looks.OtherFlow logged found) = Unit {0}
WasRead (looks.NotLegal at) = Unit {0}
WasRead looks.Memory = Unit {0}

-- The refusal gives the records of the log back, or none where it isn't read.
abbrev pub GivesBack : List Record → LookFault → List Record → Type 0
GivesBack H (looks.Log why) given = given ≡ []
GivesBack H (looks.OtherFlow logged found) given = given ≡ H
GivesBack H (looks.NotLegal at) given = given ≡ H
GivesBack H looks.Memory given = given ≡ H

-- The file spells the records that are given back, or this is why it isn't read.
abbrev pub IsOfFile : Option (List ℕ) → LookFault → List Record → Type 0
IsOfFile file (looks.Log why) given = IsUnread file why
IsOfFile file (looks.OtherFlow logged found) given = Spells given file
IsOfFile file (looks.NotLegal at) given = Spells given file
IsOfFile file looks.Memory given = Spells given file

-- The site failed, or memory was wanting.
abbrev pub IsCutFault : LookFault → Type 0
IsCutFault (looks.Log recovery.Site) = Unit {0}
IsCutFault (looks.Log recovery.BadHeader) = ⊥
IsCutFault (looks.Log (recovery.BadRecord at)) = ⊥
IsCutFault (looks.Log recovery.Memory) = Unit {0}
IsCutFault (looks.OtherFlow logged found) = ⊥
IsCutFault (looks.NotLegal at) = ⊥
IsCutFault looks.Memory = Unit {0}

-- What a look at records answers: nothing is wrong with them, and the table stands behind them; or this is what is wrong.
abbrev pub Finds : Plan → List Record → Result TableState LookFault → Type 0
Finds P H (Ok t) = (history_fault P H ≡ None) × (t.plan ≡ P) × Stands t (map moves.Logged H)
Finds P H (Err why) = WasRead why × IsLookFault P H why

-- The records are given back, and nothing is wrong with them, or this is what is wrong.
abbrev pub Looks : Plan → List Record → Result (List Record) LookRefused → Type 0
Looks P H (Ok records) = (records ≡ H) × (history_fault P H ≡ None)
Looks P H (Err refused) = (refused.records ≡ H) × WasRead refused.why × IsLookFault P H refused.why

-- How a look ends at a log that spells these records: with them where nothing is wrong with them, else with the first that is; the site's failure and want of memory may come instead.
abbrev pub LookEnds : Plan → List Record → Result (List Record) LookRefused → Type 0
LookEnds P H (Ok records) = (records ≡ H) × (history_fault P H ≡ None)
LookEnds P H (Err refused) = IsLookFault P H refused.why × GivesBack H refused.why refused.records

-- The file spells the records of the answer, or this is why it isn't read.
abbrev pub ReadsLog : Option (List ℕ) → Result (List Record) LookRefused → Type 0
ReadsLog file (Ok records) = Spells records file
ReadsLog file (Err refused) = IsOfFile file refused.why refused.records

-- The log was read, whatever was found.
abbrev pub WasLogRead : Result (List Record) LookRefused → Type 0
WasLogRead (Ok records) = Unit {0}
WasLogRead (Err refused) = WasRead refused.why

-- The look was cut short: the site failed, or memory was wanting.
abbrev pub IsCutLook : Result (List Record) LookRefused → Type 0
IsCutLook (Ok records) = ⊥
IsCutLook (Err refused) = IsCutFault refused.why

-- The site failed.
abbrev pub IsSiteFault : LookFault → Type 0
IsSiteFault (looks.Log recovery.Site) = Unit {0}
IsSiteFault (looks.Log recovery.BadHeader) = ⊥
IsSiteFault (looks.Log (recovery.BadRecord at)) = ⊥
IsSiteFault (looks.Log recovery.Memory) = ⊥
IsSiteFault (looks.OtherFlow logged found) = ⊥
IsSiteFault (looks.NotLegal at) = ⊥
IsSiteFault looks.Memory = ⊥
