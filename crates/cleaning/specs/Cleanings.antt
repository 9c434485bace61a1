-- What a cleaning answers.
use Rattle.std.specs.Prelude.{◌≡◌, ◌<◌, ◌⊎◌, ◌&&◌, ◌++◌, ◌∷◌, [], ℕ, not, List, Option, Some, None, Result, Ok, Err, length, map, filter, count_by, nat_le, slice_get, if◌then◌else◌}
use Rattle.flow_types.specs.declared.plan.Plan.{Plan}
use Rattle.flow_types.specs.declared.numbers.FileNo.{FileNo}
use Rattle.flow_types.specs.declared.records.Record.{Record}
use Rattle.flow_types.specs.declared.records.Record.TheVariants as records
use Rattle.flow_types.specs.declared.records.EndKind.TheVariants as kinds
use Rattle.flow_types.specs.Plans.{is_empty, made_files}
use Rattle.run_history.specs.Answers.{first_of, where_so}
use Rattle.run_history.specs.History.{part}
use Rattle.run_history.specs.Legal.{most_records}
use Rattle.run_history.specs.Storage.{is_present}
use Rattle.outside.specs.Files.{Files}
use Rattle.txn_log.specs.Spells.{Spells}
use Rattle.file_store.specs.Outputs.{file_name}
use Rattle.desk.specs.declared.answers.StartFault.{StartFault}
use Rattle.desk.specs.declared.answers.StartFault.TheVariants as faults
use Rattle.desk.specs.Histories.{history_fault}
use Rattle.desk.specs.Kept.{IsLegal}
use Rattle.cleaning.specs.declared.answers.Cleaned.{Cleaned}
use Rattle.cleaning.specs.declared.answers.CleanFault.{CleanFault}
use Rattle.cleaning.specs.declared.answers.CleanFault.TheVariants as cleans
use Rattle.cleaning.specs.declared.answers.CleanRefused.{CleanRefused}
use Rattle.cleaning.specs.declared.answers.LookFault.TheVariants as looks
use Rattle.cleaning.specs.Looks.{GivesBack, IsCutFault, IsLookFault, IsOfFile, IsSiteFault}

-- the numbers of these files
abbrev pub numbers_of : List FileNo → List ℕ
numbers_of files = map (λ file. file.0) files

-- the record of a cleaning
abbrev pub cleaned : ℕ → Record
cleaned moment = records.Ended moment kinds.Cleaned

-- None of these files is there.
abbrev pub AreGone : Plan → List ℕ → Files → Type 0
AreGone P fs files = (k f : ℕ) → slice_get fs k ≡ Some f → files (file_name P f) ≡ None

-- the made files that are present by the records, ascending
abbrev pub present_made : Plan → List Record → List ℕ
present_made P H = filter (is_present P H) (made_files P)

-- how many made files are present by the records
abbrev pub made_count : Plan → List Record → ℕ
made_count P H = count_by (is_present P H) (made_files P)

-- Why a part isn't ended: what is wrong with the records, or that it is begun and its log is full.
abbrev pub clean_fault : Plan → List Record → Option StartFault
clean_fault P H = first_of (
    history_fault P H
    ∷ where_so (not (is_empty (part H)) && nat_le most_records (length H)) (faults.LogFull (length H))
    ∷ [])

-- what the log has once the part is ended, which may not be begun
abbrev pub ended_records : List Record → ℕ → List Record
ended_records H moment = if is_empty (part H) then H else (H ++ (cleaned moment ∷ []))

-- The records are these, or these and the end of the part.
abbrev pub AreEither : List Record → ℕ → List Record → Type 0
AreEither H moment given = (given ≡ H) ⊎ (given ≡ H ++ (cleaned moment ∷ []))

-- Over a log that spells these records a cleaning is refused so: this is what stands in its way, or the site failed, or memory was wanting.
abbrev pub IsCleanFault : Plan → List Record → CleanFault → Type 0
IsCleanFault P H (cleans.Look why) = IsLookFault P H why
IsCleanFault P H (cleans.LogFull count) = clean_fault P H ≡ Some (faults.LogFull count)
IsCleanFault P H cleans.Site = clean_fault P H ≡ None
IsCleanFault P H cleans.Memory = clean_fault P H ≡ None

-- How a cleaning ends at a log that spells these records: nothing stood in its way, and so many made files were present, or it is refused.
abbrev pub CleanEnds : Plan → List Record → Result Cleaned CleanRefused → Type 0
CleanEnds P H (Ok done) = (clean_fault P H ≡ None) × (done.removed ≡ made_count P H)
CleanEnds P H (Err refused) = IsCleanFault P H refused.why

-- The records that a refusal gives back: those of the log, behind the look with the end of the part or without it.
abbrev pub IsLeft : List Record → ℕ → CleanFault → List Record → Type 0
IsLeft H moment (cleans.Look why) given = GivesBack H why given
IsLeft H moment (cleans.LogFull count) given = given ≡ H
IsLeft H moment cleans.Site given = AreEither H moment given
IsLeft H moment cleans.Memory given = AreEither H moment given

-- the records that are given by a cleaning, of a log that spells these
abbrev pub GivesRecords : List Record → ℕ → Result Cleaned CleanRefused → Type 0
GivesRecords H moment (Ok done) = done.records ≡ ended_records H moment
GivesRecords H moment (Err refused) = IsLeft H moment refused.why refused.records

-- The file spells some records.
abbrev pub SpellsSome : Option (List ℕ) → Type 0
SpellsSome file = (H : List Record) × Spells H file

-- The file spells some records, or the cleaning is refused for why it isn't read.
abbrev pub IsCleanOfFile : Option (List ℕ) → CleanFault → List Record → Type 0
IsCleanOfFile file (cleans.Look why) given = IsOfFile file why given
IsCleanOfFile file (cleans.LogFull count) given = SpellsSome file
IsCleanOfFile file cleans.Site given = SpellsSome file
IsCleanOfFile file cleans.Memory given = SpellsSome file

-- the same of how a cleaning ended
abbrev pub CleansLog : Option (List ℕ) → Result Cleaned CleanRefused → Type 0
CleansLog file (Ok done) = SpellsSome file
CleansLog file (Err refused) = IsCleanOfFile file refused.why refused.records

-- the records that are given
abbrev pub records_in : Result Cleaned CleanRefused → List Record
records_in (Ok done) = done.records
records_in (Err refused) = refused.records

-- Nothing was wrong with the records.
abbrev pub WasAdmitted : CleanFault → Type 0
WasAdmitted (cleans.Look why) = ⊥
WasAdmitted (cleans.LogFull count) = Unit {0}
WasAdmitted cleans.Site = Unit {0}
WasAdmitted cleans.Memory = Unit {0}

-- Where nothing was wrong with the records they are legal, with the end of the part too.
abbrev pub GivesLegal : Plan → Result Cleaned CleanRefused → Type 0
GivesLegal P (Ok done) = IsLegal P done.records
GivesLegal P (Err refused) = WasAdmitted refused.why → IsLegal P refused.records

-- The site failed, or memory was wanting.
abbrev pub IsCutFor : CleanFault → Type 0
IsCutFor (cleans.Look why) = IsCutFault why
IsCutFor (cleans.LogFull count) = ⊥
IsCutFor cleans.Site = Unit {0}
IsCutFor cleans.Memory = Unit {0}

-- The log wasn't read.
abbrev pub IsUnreadFor : CleanFault → Type 0
IsUnreadFor (cleans.Look (looks.Log why)) = Unit {0}
IsUnreadFor why = ⊥

-- The cleaning was cut short: the site failed, or memory was wanting.
abbrev pub IsCutClean : Result Cleaned CleanRefused → Type 0
IsCutClean (Ok done) = ⊥
IsCutClean (Err refused) = IsCutFor refused.why

-- The site failed.
abbrev pub IsOfSite : CleanFault → Type 0
IsOfSite (cleans.Look why) = IsSiteFault why
IsOfSite (cleans.LogFull count) = ⊥
IsOfSite cleans.Site = Unit {0}
IsOfSite cleans.Memory = ⊥

-- A cleaning is refused for its site only where the count rose.
abbrev pub FailsRisen : ℕ → ℕ → Result Cleaned CleanRefused → Type 0
FailsRisen before now (Ok done) = Unit {0}
FailsRisen before now (Err refused) = IsOfSite refused.why → before < now

-- Behind a cleaning the part is empty.
abbrev pub EndsPart : Result Cleaned CleanRefused → Type 0
EndsPart (Ok done) = part done.records ≡ []
EndsPart (Err refused) = Unit {0}

-- Behind a cleaning none of the made files that were present is there.
abbrev pub HasGone : Plan → List Record → Files → Result Cleaned CleanRefused → Type 0
HasGone P H files (Ok done) = AreGone P (present_made P H) files
HasGone P H files (Err refused) = Unit {0}
