-- Parts of a history, and the numbers of runs and attempts.
use Rattle.std.specs.Prelude.{ℕ, Bool, true, false, List, [], ◌∷◌, ◌++◌, Option, Some, None, count_by, fold, if◌then◌else◌}
use Rattle.std.specs.Option.{option_map_or}
use Rattle.flow_types.specs.declared.records.Record.{Record}
use Rattle.flow_types.specs.declared.records.Record.TheVariants as records
use Rattle.flow_types.specs.declared.records.EndKind.{EndKind}
use Rattle.flow_types.specs.declared.records.EndKind.TheVariants as kinds

-- what stands after the last item that passes, or all where none does
abbrev pub after_last : {A : Type 0} → (A → Bool) → List A → List A
after_last test xs = fold (λ kept x. if test x then [] else kept ++ (x ∷ [])) [] xs

-- what the last item says of which anything is said
abbrev pub last_said : {A B : Type 0} → (A → Option B) → List A → Option B
last_said says xs = fold (λ said x. option_map_or Some (says x) said) None xs

-- a record that begins a run
abbrev pub is_opening : Record → Bool
is_opening (records.Opened moment run retries limit plan sources) = true
is_opening (records.Resumed moment run retries limit) = true
is_opening _ = false

-- a record that starts an attempt
abbrev pub is_start : Record → Bool
is_start (records.Started moment rule attempt link) = true
is_start _ = false

-- a record that ends a run, or a part
abbrev pub is_end : Record → Bool
is_end (records.Ended moment kind) = true
is_end _ = false

-- an end by a cleaning
abbrev pub is_cleaned_kind : EndKind → Bool
is_cleaned_kind kinds.Cleaned = true
is_cleaned_kind _ = false

-- a record of a cleaning
abbrev pub is_cleaned : Record → Bool
is_cleaned (records.Ended moment kind) = is_cleaned_kind kind
is_cleaned _ = false

-- The part of a history: the records after its last cleaning, or all.
abbrev pub part : List Record → List Record
part H = after_last is_cleaned H

-- the records of the part after its last opening
abbrev pub since_opening : List Record → List Record
since_opening H = after_last is_opening (part H)

-- the number of the next run: so many openings stand in all of the log
abbrev pub next_run : List Record → ℕ
next_run H = count_by is_opening H

-- the number of the next attempt: so many starts stand in all of the log
abbrev pub next_attempt : List Record → ℕ
next_attempt H = count_by is_start H
