-- What is so of all entries.
use Rattle.std.specs.Prelude.{◌≡◌, ℕ, List, Option, None}
use Rattle.flow_types.specs.Serial.{Function}
use Rattle.flow_types.specs.declared.job.Job.{Job}
use Rattle.outside.specs.Files.{Files}
use Rattle.result_archive.specs.Entries.{IsEntry, IsFaithful}

-- A file is the entry of one job with one list of outputs, whatever the keys are.
abbrev pub EntriesAreOfOneJob : Type 0
EntriesAreOfOneJob =
    (job other : Job) (outs others : List (List ℕ)) (file : Option (List ℕ)) → IsEntry job outs file
    → IsEntry other others file → (job ≡ other) × (outs ≡ others)

-- An image without files is faithful.
abbrev pub NoFilesAreFaithful : Type 0
NoFilesAreFaithful =
    (gives : Function) (dir : List ℕ) (image : Files) → ((name : List ℕ) → image name ≡ None)
    → IsFaithful gives dir image
