-- What a turn may make of a desk.
use Rattle.std.specs.Prelude.{◌≡◌, ◌≢◌, ◌⊎◌, ℕ, List, true, is_some}
use Rattle.flow_types.specs.declared.plan.Plan.{Plan}
use Rattle.flow_types.specs.Plans.{maker_of, makes}
use Rattle.outside.specs.Disk.{Outcomes}
use Rattle.outside.specs.Files.{Files}
use Rattle.file_store.specs.Outputs.{IsOther, file_name}
use Rattle.desk.specs.Goes.{Goes}
use Rattle.desk.specs.Kept.{ReadsStay, StaysBeside}
use Rattle.desk.specs.State.{DeskState}

-- The name is neither the log's, nor that of a file that has a maker, nor that of an output of a rule.
abbrev pub IsUnmade : Plan → List ℕ → List ℕ → Type 0
IsUnmade P log m =
    (m ≢ log) × ((f : ℕ) → is_some (maker_of P f) ≡ true → m ≢ file_name P f) × ((r : ℕ) → IsOther P (makes P r) m)

module _ {S : Type 0} (tells : Type 0) (files : S → Files) (may_leave : S → Outcomes) (moment : S → ℕ)
    (images_since : S → ℕ → Files → Type 0) where
  -- Under each of these names a read gives what it gave before, and a crash leaves, at any moment since, only what it might have left before.
  abbrev pub Stay : (List ℕ → Type 0) → S → S → Type 0
  Stay beside old new = StaysBeside may_leave moment images_since beside old new × ReadsStay files beside old new

  -- The site was not touched, or the files that the run doesn't make stay.
  abbrev pub OthersStay : DeskState S → DeskState S → Type 0
  OthersStay before after =
      tells → (after.site ≡ before.site) ⊎ Stay (IsUnmade before.plan before.log) before.site after.site

  -- What every call of a desk keeps, of the files beside its own too.
  abbrev pub GoesOn : DeskState S → DeskState S → Type 0
  GoesOn before after = Goes before after × OthersStay before after
