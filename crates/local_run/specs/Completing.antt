-- When a run can come to its end.
use Rattle.std.specs.Prelude.{◌≡◌, ◌≤◌, ◌+◌, ◌*◌, ℕ, true, not, List, [], length, Some, unwrap_or, sum_by, count_by}
use Rattle.flow_types.specs.declared.plan.Plan.{Plan}
use Rattle.flow_types.specs.declared.records.Record.{Record}
use Rattle.flow_types.specs.Plans.{is_source, made_files, most_bytes, most_input_bytes, rule_numbers, takes}
use Rattle.flow_types.specs.Serial.{Contents, Function, serial}
use Rattle.run_history.specs.Storage.{is_complete}
use Rattle.run_history.specs.Legal.{most_records}
use Rattle.outside.specs.Files.{Files}
use Rattle.file_store.specs.Outputs.{file_name}

-- Each source is there, and small enough.
abbrev pub HasSources : Plan → Files → Type 0
HasSources P files = (f : ℕ) → is_source P f ≡ true → (bytes : List ℕ) × (files (file_name P f) ≡ Some bytes) × (length bytes ≤ most_bytes)

-- In the serial run the inputs of each rule are together within their limit.
abbrev pub SerialInputsFit : Plan → Function → Contents → Type 0
SerialInputsFit P gives sources = (r : ℕ) → sum_by (λ f. length (unwrap_or (serial P gives sources f) [])) (takes P r) ≤ most_input_bytes

-- The log has room: two records for each rule that isn't complete, one for each made file, and two more.
abbrev pub HasRecordRoom : Plan → List Record → Type 0
HasRecordRoom P H = length H + 2 * count_by (λ r. not (is_complete H r)) (rule_numbers P) + length (made_files P) + 2 ≤ most_records
