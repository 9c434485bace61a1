-- What a desk promises to a caller whose facts are all true.
use Rattle.std.specs.Prelude.{◌≤◌, ℕ, List, length, Option}
use Rattle.flow_types.specs.declared.plan.Plan.{Plan}
use Rattle.flow_types.specs.declared.records.Record.{Record}
use Rattle.flow_types.specs.Serial.{Contents, Function}
use Rattle.outside.specs.Disk.{Outcomes, IsImage}
use Rattle.outside.specs.Files.{Files}
use Rattle.file_store.specs.Outputs.{file_name}
use Rattle.desk.specs.Kept.{Fits, Keeps, Test}

-- The image keeps at least so many records.
pub record KeepsMore (fits : Test) (P : Plan) (log : List ℕ) (least : ℕ) (image : Files) : Type 0 where
  pub records : List Record
  pub since : least ≤ length records
  pub kept : Keeps fits P log records image

-- what the sources read as
abbrev pub sources_read : Plan → Files → ℕ → Option (List ℕ)
sources_read P files f = files (file_name P f)

-- A present file holds what was logged, and what the serial run leaves.
abbrev pub IsSerial : Function → Contents → Test
IsSerial gives sources = Fits (Unit {0}) gives sources

-- Each image keeps the records, with the files of the serial run.
abbrev pub IsStanding : Function → Contents → Plan → List ℕ → List Record → Outcomes → Type 0
IsStanding gives sources P log H outcomes = (image : Files) → IsImage outcomes image → Keeps (IsSerial gives sources) P log H image
