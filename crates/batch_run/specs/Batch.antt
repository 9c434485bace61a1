-- A batch: a file with a command on each line, and what is printed of it.
use Rattle.std.specs.Prelude.{ℕ, ◌+◌, Bool, true, false, ◌&&◌, ◌==◌, if◌then◌else◌, nat_le, nat_lt, codes, List, [], ◌∷◌, ◌++◌, length, Option, Some, None}
use Rattle.std.specs.Fmt.{decimal}
use Rattle.std.specs.List.{enumerate_from, flat_map, slice_split}
use Rattle.std.specs.Option.{option_map_or}
use Rattle.std.specs.Str.{is_utf8}
use Rattle.command_words.specs.Numbers.{number_in}
use Rattle.flow_types.specs.declared.job.Outcome.{Outcome}
use Rattle.flow_types.specs.declared.job.Outcome.TheVariants as outcomes
use Rattle.flow_types.specs.declared.numbers.Amounts.{Amounts}
use Rattle.flow_types.specs.declared.numbers.Needs.TheVariants as needs
use Rattle.flow_types.specs.Names.{name_of}
use Rattle.flow_types.specs.Plans.{most_bytes, most_command_bytes}
use Rattle.task_book.specs.declared.task.Submission.{Submission}
use Rattle.task_book.specs.Submissions.{most_held}
use Rattle.batch_run.specs.declared.cause.BatchCause.{BatchCause}
use Rattle.batch_run.specs.declared.cause.BatchCause.TheVariants as causes
use Rattle.batch_run.specs.declared.ends.End.{End}
use Rattle.batch_run.specs.declared.ends.End.TheVariants as ends
use Rattle.batch_run.specs.declared.words.Ask.{Ask}

-- ---- words

-- what a port and a name ask for
abbrev pub ask_with : Option ℕ → Option (List ℕ) → Option Ask
ask_with (Some port) (Some file) = Some (record { port = port; file = file })
ask_with (Some port) None = None
ask_with None file = None

-- what the words ask for: the program's name, a port from 1 to 65,535 and a name
abbrev pub asked_by : List (List ℕ) → Option Ask
asked_by (program ∷ port ∷ file ∷ []) = ask_with (number_in 1 65535 port) (name_of file)
asked_by _ = None

-- ---- lines

-- what stands between the newlines of a text
abbrev pub lines_of : List ℕ → List (List ℕ)
lines_of text = slice_split (λ b. b == 10) text

-- a line that is UTF-8 and no longer than a command may be
abbrev pub is_good_line : List ℕ → Bool
is_good_line line = is_utf8 line && nat_le (length line) most_command_bytes

-- the first line that isn't, where these begin with the one of this number
abbrev pub bad_line_from : ℕ → List (List ℕ) → Option ℕ
bad_line_from n [] = None
bad_line_from n (line ∷ lines) = if is_good_line line then bad_line_from (n + 1) lines else Some n

-- what each task of a batch needs
abbrev pub one_core : Amounts
one_core = record { cores = 1; memory = 0; disk = 0 }

-- the task of a command: one core, no input, and the one output `out` of the default bound
abbrev pub batch_task : List ℕ → Submission
batch_task command = record {
  command = command;
  env = [];
  needs = needs.Stated one_core;
  inputs = [];
  outputs = record { remote = codes "out"; bound = most_bytes } ∷ [];
}

-- the task of a line that isn't empty
abbrev pub line_tasks : List ℕ → List Submission
line_tasks line = if length line == 0 then [] else batch_task line ∷ []

-- the tasks of a text, in the order of its lines
abbrev pub tasks_of : List ℕ → List Submission
tasks_of text = flat_map line_tasks (lines_of text)

-- why lines are no batch, where they aren't
abbrev pub lines_refusal : List (List ℕ) → Option BatchCause
lines_refusal lines = option_map_or (λ line. Some (causes.BadLine line)) (bad_line_from 1 lines)
    (if nat_lt most_held (length (flat_map line_tasks lines)) then Some causes.TooMany else None)

-- why a text is no batch
abbrev pub text_refusal : List ℕ → Option BatchCause
text_refusal text = lines_refusal (lines_of text)

-- ---- the printed lines

-- the bytes of the first of these contents
abbrev pub first_size : List (List ℕ) → ℕ
first_size [] = 0
first_size (content ∷ contents) = length content

-- how a task ended by its outcome
abbrev pub end_of : Outcome → End
end_of (outcomes.Success contents) = ends.Size (first_size contents)
end_of (outcomes.Failed why) = ends.Failed
end_of outcomes.NotRun = ends.Failed

-- the line of a task
abbrev pub line_of : ℕ → End → List ℕ
line_of id ends.Open = []
line_of id ends.Failed = decimal id ++ codes " failed\n"
line_of id (ends.Size size) = decimal id ++ codes " " ++ decimal size ++ codes "\n"

-- the lines of tasks in order
abbrev pub printed : List End → List ℕ
printed done = flat_map (λ numbered. line_of numbered.0 numbered.1) (enumerate_from 0 done)

-- the task was given
abbrev pub is_over : End → Bool
is_over ends.Open = false
is_over ends.Failed = true
is_over (ends.Size size) = true

-- ---- statuses

-- the exit status of a cause
abbrev pub status_of : BatchCause → ℕ
status_of causes.Done = 0
status_of causes.Usage = 2
status_of causes.FileMissing = 3
status_of (causes.BadLine line) = 3
status_of causes.TooMany = 3
status_of (causes.SiteFault before after) = 5
status_of (causes.HallFault before after) = 5
status_of (causes.SinkFault before after) = 5
status_of causes.Idle = 7
status_of causes.Memory = 8
