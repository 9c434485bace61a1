-- What a site in memory is to contracts.
use Rattle.std.specs.Prelude.{◌≡◌, ℕ, List, [], ◌∷◌, ◌++◌, length, None, Result, OnOk, OnErr}
use Rattle.mem_outside.specs.declared.mem_site.MemSite.{MemSite}
use Rattle.mem_outside.specs.declared.step.Change.{Change}
use Rattle.mem_outside.specs.declared.step.Step.{Step}
use Rattle.outside.specs.Disk.{Outcomes, Elapses}
use Rattle.outside.specs.Files.{Files}
use Rattle.mem_outside.specs.Calls.{Calls, calls_in}
use Rattle.mem_outside.specs.Entries.{files_in}
use Rattle.mem_outside.specs.Steps.{leaves, reads, synced, images, up_to}

-- its files
abbrev pub files_of : MemSite → Files
files_of site = files_in site.entries

-- its calls
abbrev pub calls_of : MemSite → Calls
calls_of site = calls_in site.calls

-- the files that were on the disk before its first step
abbrev pub start_of : MemSite → Files
start_of site = files_in site.start

-- what was done to its files since then
abbrev pub steps_of : MemSite → List Step
steps_of site = site.steps.items

-- what a crash now may leave
abbrev pub leaves_of : MemSite → Outcomes
leaves_of site = leaves (start_of site) (steps_of site)

-- its disk time: each step is a moment
abbrev pub moment_of : MemSite → ℕ
moment_of site = length (steps_of site)

-- what a crash since a time might have left
abbrev pub images_of : MemSite → ℕ → Files → Type 0
images_of site = images (start_of site) (steps_of site)

-- Its disk time goes on by a call.
abbrev pub TimePasses : MemSite → MemSite → Type 0
TimePasses old new =
    Elapses (moment_of old) (moment_of new) (images_of old) (images_of new) (leaves_of new)

-- what a crash might have left when a call had ended
abbrev pub leaves_at : ℕ → MemSite → Outcomes
leaves_at call site = leaves (start_of site) (up_to call (steps_of site))

-- the disk time when a call had ended
abbrev pub moment_at : ℕ → MemSite → ℕ
moment_at call site = length (up_to call (steps_of site))

-- what reads gave when a call had ended
abbrev pub reads_at : ℕ → MemSite → Files
reads_at call site = reads (start_of site) (up_to call (steps_of site))

-- what each file was when it was last synced by then
abbrev pub synced_at : ℕ → MemSite → Files
synced_at call site = synced (start_of site) (up_to call (steps_of site))

-- there is no file
abbrev pub no_files : Files
no_files name = None

-- No step was done.
pub record IsStill (old new : MemSite) : Type 0 where
  pub start : start_of new ≡ start_of old
  pub steps : steps_of new ≡ steps_of old

-- The call was kept as the last step where it was done, under its number, and else nothing was.
pub record IsKept {E : Type 0} (result : Result (Unit {0}) E) (name : List ℕ) (change : Change) (old new : MemSite) : Type 0 where
  pub start : start_of new ≡ start_of old
  pub done : OnOk result (steps_of new ≡ steps_of old ++ record { call = (calls_of old).made; name = name; change = change } ∷ [])
  pub undone : OnErr result (steps_of new ≡ steps_of old)
