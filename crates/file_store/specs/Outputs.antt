-- Files of a plan that are written.
use Rattle.std.specs.Prelude.{◌≡◌, ◌≢◌, ◌<◌, ℕ, List, [], length, Option, Some, slice_get}
use Rattle.std.specs.Option.{option_map_or}
use Rattle.flow_types.specs.declared.plan.Plan.{Plan}
use Rattle.outside.specs.Disk.{Outcomes}
use Rattle.outside.specs.Files.{Files}

-- the name of a file of the plan
abbrev pub file_name : Plan → ℕ → List ℕ
file_name P f = option_map_or (λ row. row.name) (slice_get P.files f) []

-- These files are the plan's.
abbrev pub AreInside : Plan → List ℕ → Type 0
AreInside P fs = (k f : ℕ) → slice_get fs k ≡ Some f → f < length P.files

-- Each of these files has a name that no earlier one has.
abbrev pub DifferByName : Plan → List ℕ → Type 0
DifferByName P fs = (i k f g : ℕ) → slice_get fs i ≡ Some f → slice_get fs k ≡ Some g → k < i → file_name P g ≢ file_name P f

-- The name is that of none of these files.
abbrev pub IsOther : Plan → List ℕ → List ℕ → Type 0
IsOther P fs name = (k f : ℕ) → slice_get fs k ≡ Some f → name ≢ file_name P f

-- Each of the first n files has its content, and no other outcome.
abbrev pub Last : Plan → List ℕ → List (List ℕ) → ℕ → Outcomes → Type 0
Last P fs contents n outcomes = (k f : ℕ) (bytes : List ℕ) → k < n → slice_get fs k ≡ Some f → slice_get contents k ≡ Some bytes
    → (file : Option (List ℕ)) → outcomes (file_name P f) file → file ≡ Some bytes

-- Under the name of none of these files there is a new outcome.
abbrev pub StayBeside : Plan → List ℕ → Outcomes → Outcomes → Type 0
StayBeside P fs old new = (name : List ℕ) (file : Option (List ℕ)) → IsOther P fs name → new name file → old name file

-- Under each name that is of none of these files there is an outcome that was one.
abbrev pub IsBeside : Plan → List ℕ → Outcomes → Files → Type 0
IsBeside P fs outcomes image = (name : List ℕ) → IsOther P fs name → outcomes name (image name)
