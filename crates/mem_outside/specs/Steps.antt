-- What steps make of the files of a site in memory, and what a crash after them may leave.
use Rattle.std.specs.Prelude.{◌≡◌, ◌⊎◌, ◌≤◌, ℕ, Bool, true, false, List, [], ◌∷◌, length, take, Option, Some, None, option_map, if◌then◌else◌, MatchBool, nat_lt}
use Rattle.std.specs.List.{before_first}
use Rattle.std.specs.Str.{bytes_eq}
use Rattle.outside.specs.Disk.{Outcomes, IsImage, IsTorn, IsShortened, IsRemoved}
use Rattle.outside.specs.Files.{Files, content, written}
use Rattle.mem_outside.specs.Entries.{with_file}
use Rattle.mem_outside.specs.declared.step.Change.{Change}
use Rattle.mem_outside.specs.declared.step.Change.TheVariants.{Put, Write, Cut, Remove, Sync}
use Rattle.mem_outside.specs.declared.step.Step.{Step}

-- what a read gives after a change
abbrev pub value_after : Change → Option (List ℕ) → Option (List ℕ)
value_after (Put bytes) entry = Some bytes
value_after (Write at bytes) entry = Some (written at bytes (content entry))
value_after (Cut len) entry = option_map (λ bytes. take len bytes) entry
value_after Remove entry = None
value_after Sync entry = entry

-- What a crash may make of an outcome, besides what a read gives. Of a file that was put or synced it makes nothing else.
abbrev pub Becomes : Change → Option (List ℕ) → Option (List ℕ) → Type 0
Becomes (Put bytes) old new = ⊥
Becomes (Write at bytes) old new = IsTorn at (length bytes) old new
Becomes (Cut len) old new = IsShortened len old new
Becomes Remove old new = IsRemoved old new
Becomes Sync old new = ⊥

-- what is there then is on the disk
abbrev pub is_durable : Change → Bool
is_durable (Put bytes) = true
is_durable (Write at bytes) = false
is_durable (Cut len) = false
is_durable Remove = false
is_durable Sync = true

-- the files after a step
abbrev pub stepped : Step → Files → Files
stepped step files = with_file step.name (value_after step.change (files step.name)) files

-- the files after all steps
abbrev pub files_after : List Step → Files → Files
files_after [] files = files
files_after (step ∷ rest) files = files_after rest (stepped step files)

-- of what is on the disk, what a step makes
abbrev pub settled : Step → Files → Files → Files
settled step files kept = if is_durable step.change then with_file step.name (value_after step.change (files step.name)) kept else kept

-- what was on the disk when each file was last synced
abbrev pub synced_after : List Step → Files → Files → Files
synced_after [] files kept = kept
synced_after (step ∷ rest) files kept = synced_after rest (stepped step files) (settled step files kept)

-- what a crash may leave after a step: under its name what a read gives, or what it makes of an earlier outcome
abbrev pub left : Step → Files → Outcomes → Outcomes
left step files outcomes name entry = MatchBool (bytes_eq step.name name)
    ((entry ≡ value_after step.change (files step.name)) ⊎ ((old : Option (List ℕ)) × outcomes name old × Becomes step.change old entry))
    (outcomes name entry)

-- what a crash may leave after all steps
abbrev pub left_after : List Step → Files → Outcomes → Outcomes
left_after [] files outcomes = outcomes
left_after (step ∷ rest) files outcomes = left_after rest (stepped step files) (left step files outcomes)

-- At the start what a read gives is on the disk.
abbrev pub on_disk : Files → Outcomes
on_disk files name entry = entry ≡ files name

-- what a crash may leave after these steps, from these files on
abbrev pub leaves : Files → List Step → Outcomes
leaves start steps = left_after steps start (on_disk start)

-- what reads give after these steps
abbrev pub reads : Files → List Step → Files
reads start steps = files_after steps start

-- what was on the disk after these steps when each file was last synced
abbrev pub synced : Files → List Step → Files
synced start steps = synced_after steps start start

-- An image of some moment, of which there is one after each step, since a time.
abbrev pub images : Files → List Step → ℕ → Files → Type 0
images start steps t image = (k : ℕ) × (t ≤ k) × (k ≤ length steps) × IsImage (leaves start (take k steps)) image

-- the steps up to a call and with it
abbrev pub up_to : ℕ → List Step → List Step
up_to call steps = before_first (λ step. nat_lt call step.call) steps
