-- What a cleaning does behind the reading of the log.
use Rattle.std.specs.Prelude.{◌≡◌, ◌≤◌, ℕ, List, length, Result, Ok, Err}
use Rattle.flow_types.specs.declared.plan.Plan.{Plan}
use Rattle.flow_types.specs.declared.records.Record.{Record}
use Rattle.flow_types.specs.Serial.{Contents, Function}
use Rattle.outside.specs.Disk.{IsImage, LeavesOnly, Outcomes}
use Rattle.outside.specs.Files.{Files}
use Rattle.desk.specs.Kept.{IsElse, Keeps, WasKept}
use Rattle.local_run.specs.Course.{LeavesAlone}
use Rattle.local_run.specs.Runs.{Held, IsKeeping, IsStanding, SerialFits}
use Rattle.cleaning.specs.declared.answers.Cleaned.{Cleaned}
use Rattle.cleaning.specs.declared.answers.CleanFault.{CleanFault}
use Rattle.cleaning.specs.declared.answers.CleanFault.TheVariants as cleans
use Rattle.cleaning.specs.declared.answers.CleanRefused.{CleanRefused}
use Rattle.cleaning.specs.Cleanings.{CleanEnds, EndsPart, FailsRisen, GivesLegal, GivesRecords, HasGone, IsCutClean, IsCutFor, present_made, records_in}
use Rattle.cleaning.specs.Looks.{WasRead}

-- The log was read.
abbrev pub IsBehind : CleanFault → Type 0
IsBehind (cleans.Look why) = WasRead why
IsBehind (cleans.LogFull count) = Unit {0}
IsBehind cleans.Site = Unit {0}
IsBehind cleans.Memory = Unit {0}

-- the same of how a cleaning ended
abbrev pub WasBehind : Result Cleaned CleanRefused → Type 0
WasBehind (Ok done) = Unit {0}
WasBehind (Err refused) = IsBehind refused.why

-- The site is as it was where a cleaning is refused that wasn't cut short.
abbrev pub IsUnmoved : {S : Type 0} → S → S → Result Cleaned CleanRefused → Type 0
IsUnmoved old new (Ok done) = Unit {0}
IsUnmoved old new (Err refused) = (IsCutFor refused.why → ⊥) → new ≡ old

-- What a cleaning does over a log that stands for these records.
pub record CleansOver {S : Type 0} (tells : Type 0) (files : S → Files) (may_leave : S → Outcomes) (moment_of : S → ℕ) (images_since : S → ℕ → Files → Type 0) (count : S → ℕ)
    (P : Plan) (log : List ℕ) (H : List Record) (moment : ℕ) (old new : S) (result : Result Cleaned CleanRefused) : Type 0 where
  pub ends : CleanEnds P H result
  pub records : GivesRecords H moment result
  pub behind : WasBehind result
  pub legal : GivesLegal P result
  pub ended : EndsPart result
  pub unmoved : IsUnmoved old new result
  pub gone : tells → HasGone P H (files new) result
  pub kept : tells → IsKeeping P log H (may_leave old) → LeavesOnly moment_of images_since old new (WasKept Held P log (length H) (records_in result) (IsCutClean result))
  pub serial : tells → (gives : Function) (sources : Contents) → IsStanding gives sources P log H (may_leave old)
      → LeavesOnly moment_of images_since old new (WasKept (SerialFits gives sources) P log (length H) (records_in result) (IsCutClean result))
  pub now : tells → IsKeeping P log H (may_leave old) → (IsCutClean result → ⊥) → (image : Files) → IsImage (may_leave new) image → Keeps Held P log (records_in result) image
  pub others : tells → LeavesAlone files may_leave moment_of images_since (IsElse P log (present_made P H)) old new
  pub later : count old ≤ count new
  pub cause : FailsRisen (count old) (count new) result
