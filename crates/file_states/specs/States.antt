-- The states of files, by their numbers.
use Rattle.std.specs.Prelude.{ℕ, List, Option, None, if◌then◌else◌, map, slice_get}
use Rattle.std.specs.Option.{option_map_or}
use Rattle.flow_types.specs.declared.plan.Plan.{Plan}
use Rattle.flow_types.specs.declared.numbers.Content.{Content}
use Rattle.flow_types.specs.Plans.{file_numbers, is_source, sources_of}
use Rattle.run_history.specs.declared.states.FileState.{FileState}
use Rattle.run_history.specs.declared.states.FileState.TheVariants as file
use Rattle.run_history.specs.States.{present_with, row_of}
use Rattle.run_history.specs.Storage.{size_in}

-- the state of file f before anything is made: a source is present with its row
abbrev pub first_state : Plan → List Content → ℕ → FileState
first_state P sources f = if is_source P f then present_with (row_of f (sources_of P) sources) else file.Absent

-- The first states of all files.
abbrev pub first_states : Plan → List Content → List FileState
first_states P sources = map (first_state P sources) (file_numbers P)

-- The size of file f among these states, where it is present.
abbrev pub size_at : List FileState → ℕ → Option ℕ
size_at states f = option_map_or size_in (slice_get states f) None
