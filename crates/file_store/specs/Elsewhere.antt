-- Images that changed under one name at most.
use Rattle.std.specs.Prelude.{◌≢◌, ℕ, List}
use Rattle.outside.specs.Disk.{Outcomes}
use Rattle.outside.specs.Files.{Files}

-- Under each other name there is an outcome that was one.
abbrev pub IsElsewhere : List ℕ → Outcomes → Files → Type 0
IsElsewhere name outcomes image = (m : List ℕ) → m ≢ name → outcomes m (image m)
