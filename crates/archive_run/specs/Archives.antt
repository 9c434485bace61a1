-- An archive beside a flow.
use Rattle.std.specs.Prelude.{ℕ, List, Option, Some, None, All, if◌then◌else◌, length, nat_lt, slice_get, string_bytes}
use Rattle.std.proofs.Common.{String, Global}
use Rattle.flow_types.specs.Names.{name_of}
use Rattle.flow_types.specs.Serial.{Function}
use Rattle.flow_types.specs.declared.job.Job.{Job}
use Rattle.outside.specs.Disk.{IsImage, Outcomes}
use Rattle.outside.specs.Files.{Files}
use Rattle.result_archive.specs.Entries.{IsFaithful}

-- the most bytes of the folder's name: behind it there is room for a slash and a key
abbrev pub most_folder_bytes : ℕ
most_folder_bytes = 900

-- the name, where it isn't too long for a folder of entries
abbrev pub short_name : Option (List ℕ) → Option (List ℕ)
short_name None = None
short_name (Some name) = if nat_lt most_folder_bytes (length name) then None else Some name

-- the folder that a word names
abbrev pub folder_named : Option (String Global) → Option (List ℕ)
folder_named None = None
folder_named (Some word) = short_name (name_of (string_bytes word))

-- the folder of the archive, which the second word names
abbrev pub folder_of : List (String Global) → Option (List ℕ)
folder_of words = folder_named (slice_get words 1)

-- The archive and the runners can be trusted: the store tells its files and is faithful in every image, and each runner tells of every job.
pub record CanTrust {A R : Type 0} (tells : Type 0) (may_leave : A → Outcomes) (gives : Function) (told : R → Job → Type 0) (folder : List ℕ) (store : A) (runners : List R) : Type 0 where
  pub store_tells : tells
  pub faithful : (image : Files) → IsImage (may_leave store) image → IsFaithful gives folder image
  pub runners_tell : (job : Job) → All (λ r. told r job) runners
