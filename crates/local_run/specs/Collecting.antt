-- How a run collects files.
use Rattle.std.specs.Prelude.{◌≡◌, ◌≢◌, ℕ, Bool, true, false, not, List, ◌∷◌, ◌++◌, Option, Some, None, count_by, is_some}
use Rattle.std.specs.List.{list_any}
use Rattle.flow_types.specs.declared.plan.Plan.{Plan}
use Rattle.flow_types.specs.declared.records.EndKind.TheVariants as kinds
use Rattle.flow_types.specs.declared.records.Record.{Record}
use Rattle.flow_types.specs.declared.records.Record.TheVariants as records
use Rattle.flow_types.specs.Plans.{made_files, maker_of}
use Rattle.run_history.specs.declared.options.Mode.{Mode}
use Rattle.run_history.specs.History.{is_opening}
use Rattle.run_history.specs.States.{drops, file_state}
use Rattle.run_history.specs.Storage.{wanted}
use Rattle.run_history.specs.Answers.{is_collected_state}
use Rattle.outside.specs.Files.{Files}
use Rattle.file_store.specs.Outputs.{file_name}

-- file f was collected
abbrev pub is_collected : Plan → List Record → ℕ → Bool
is_collected P H f = is_collected_state (file_state P H f)

-- how many made files may still be dropped: those that aren't collected
abbrev pub drops_due : Plan → List Record → ℕ
drops_due P H = count_by (λ f. not (is_collected P H f)) (made_files P)

-- The record stands where this file is wanted for collection: a drop names it, and at a start, and at an end with all rules complete, there is none.
abbrev pub StandsWhere : Option ℕ → Record → Type 0
StandsWhere file (records.Dropped moment f) = file ≡ Some f.0
StandsWhere file (records.Started moment rule attempt link) = file ≡ None
StandsWhere file (records.Ended moment kinds.Complete) = file ≡ None
StandsWhere file x = Unit {0}

-- The records are these and more, and each of those stands where it may in this mode, by the records before it.
pub record CollectsBy (P : Plan) (mode : Mode) (H all : List Record) : Type 0 where
  pub more : List Record
  pub are : all ≡ H ++ more
  pub each : (before after : List Record) (x : Record) → more ≡ before ++ (x ∷ after) → StandsWhere (wanted P mode (H ++ before)) x

-- The same of each record behind the last opening.
abbrev pub RunCollects : Plan → Mode → List Record → Type 0
RunCollects P mode all = (before after : List Record) (x : Record) → all ≡ before ++ (x ∷ after) → list_any is_opening (x ∷ after) ≡ false → StandsWhere (wanted P mode before) x

-- The records are these and more, and no file that a drop among those names is there.
pub record AreGone (P : Plan) (files : Files) (H all : List Record) : Type 0 where
  pub more : List Record
  pub are : all ≡ H ++ more
  pub gone : (f : ℕ) → list_any (drops f) more ≡ true → files (file_name P f) ≡ None

-- The name is neither the log's nor that of a made file that isn't collected yet.
abbrev pub IsUntouched : Plan → List ℕ → List Record → List ℕ → Type 0
IsUntouched P log H m = (m ≢ log) × ((f : ℕ) → is_some (maker_of P f) ≡ true → is_collected P H f ≡ false → m ≢ file_name P f)
