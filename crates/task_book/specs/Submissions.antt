-- Which files and which tasks are taken.
use Rattle.std.specs.Prelude.{◌≡◌, ℕ, ◌+◌, Bool, true, not, ◌&&◌, ◌||◌, if◌then◌else◌, nat_le, nat_lt, List, [], ◌∷◌, ◌++◌, length, map, sum_by, Option, Some, None, slice_get, unwrap_or}
use Rattle.std.specs.List.{list_all}
use Rattle.std.specs.Option.{option_map_or}
use Rattle.std.specs.Str.{bytes_eq}
use Rattle.flow_types.specs.declared.job.Want.{Want}
use Rattle.flow_types.specs.declared.numbers.FileNo.{FileNo}
use Rattle.flow_types.specs.declared.plan.Port.{Port}
use Rattle.flow_types.specs.Names.{are_nested, is_name}
use Rattle.flow_types.specs.Plans.{all_pairs, env_bytes, most_bytes, most_command_bytes, most_files, most_input_bytes, most_inputs, most_outputs}
use Rattle.task_book.specs.declared.refused.FileRefused.{FileRefused}
use Rattle.task_book.specs.declared.refused.FileRefused.TheVariants as file
use Rattle.task_book.specs.declared.refused.SubmitRefused.{SubmitRefused}
use Rattle.task_book.specs.declared.refused.SubmitRefused.TheVariants as submit
use Rattle.task_book.specs.declared.task.Submission.{Submission}

-- ---- files

-- the most bytes of all files together
abbrev pub most_file_bytes : ℕ
most_file_bytes = 1073741824

-- the bytes of these files together
abbrev pub bytes_of : List (List ℕ) → ℕ
bytes_of files = sum_by (λ content. length content) files

-- a content of this length is too large beside these files
abbrev pub is_too_large : List (List ℕ) → ℕ → Bool
is_too_large files size = nat_lt most_bytes size || nat_lt most_file_bytes (bytes_of files + size)

-- why a content of this length isn't taken beside these files, where it isn't
abbrev pub file_refusal : List (List ℕ) → ℕ → Option FileRefused
file_refusal files size =
    if nat_le most_files (length files) then Some file.TooMany
    else if is_too_large files size then Some (file.TooLarge size) else None

-- ---- tasks

-- the most tasks that are held
abbrev pub most_held : ℕ
most_held = 100000

-- the first input that is none of so many files
abbrev pub unknown_file : ℕ → List Port → Option FileNo
unknown_file count [] = None
unknown_file count (port ∷ ports) =
    if nat_lt port.file.0 count then unknown_file count ports else Some port.file

-- the bytes of the inputs together, each as often as it is taken in
abbrev pub input_bytes : List (List ℕ) → List Port → ℕ
input_bytes files ports = sum_by (λ port. length (unwrap_or (slice_get files port.file.0) [])) ports

-- the most bytes of the outputs together
abbrev pub output_bytes : List Want → ℕ
output_bytes wants = sum_by (λ want. want.bound) wants

-- the remote names of the inputs
abbrev pub taken_names : List Port → List (List ℕ)
taken_names ports = map (λ port. port.remote) ports

-- the remote names of the outputs
abbrev pub made_names : List Want → List (List ℕ)
made_names wants = map (λ want. want.remote) wants

-- the remote names of the inputs and of the outputs
abbrev pub remotes_of : Submission → List (List ℕ)
remotes_of task = taken_names task.inputs ++ made_names task.outputs

-- two names differ, and neither is a folder of the other
abbrev pub are_apart : List ℕ → List ℕ → Bool
are_apart a b = not (bytes_eq a b) && not (are_nested a b)

-- no list, nor the command or the environment, passes its limit
abbrev pub is_short : Submission → Bool
is_short task =
    nat_le (length task.inputs) most_inputs && nat_le (length task.outputs) most_outputs
    && nat_le (length task.command) most_command_bytes
    && nat_le (env_bytes task.env) most_command_bytes

-- The bounds together, and so each of them, and the inputs together are within their limits.
abbrev pub is_small : List (List ℕ) → Submission → Bool
is_small files task =
    nat_le (output_bytes task.outputs) most_bytes
    && nat_le (input_bytes files task.inputs) most_input_bytes

-- The remote names are names, as they always are, and no two of them are one or are nested.
abbrev pub has_names_apart : Submission → Bool
has_names_apart task =
    list_all is_name (remotes_of task) && all_pairs are_apart (remotes_of task)

-- The task may be submitted, as far as its files are there.
abbrev pub is_good : List (List ℕ) → Submission → Bool
is_good files task = is_short task && is_small files task && has_names_apart task

-- why a task isn't taken beside so many that are held, where it isn't
abbrev pub submit_refusal : List (List ℕ) → ℕ → Submission → Option SubmitRefused
submit_refusal files held task =
    if nat_le most_held held then Some submit.TooMany
    else option_map_or (λ number. Some (submit.UnknownFile number))
    (unknown_file (length files) task.inputs)
    (if is_good files task then None else Some submit.BadSubmission)

-- The task is short enough to be sent: no list, nor the command or the environment, passes its
-- limit, and its remote names are names.
abbrev pub IsShort : Submission → Type 0
IsShort task = (is_short task ≡ true) × (list_all is_name (remotes_of task) ≡ true)
