-- The tasks that a queue holds, while its peers work at them.
use Rattle.std.specs.Prelude.{◌≡◌, ◌≤◌, ℕ, List, map, None, length}
use Rattle.flow_types.specs.declared.numbers.Amounts.{Amounts}
use Rattle.links.specs.Honesty.{IsAtLeast}
use Rattle.task_book.specs.declared.task.Held.{Held}
use Rattle.task_book.specs.declared.task.Submission.{Submission}
use Rattle.task_book.specs.declared.task.TaskId.{TaskId}
use Rattle.task_book.specs.Kept.{Kept}
use Rattle.task_book.specs.Stages.{RunsOn}
use Rattle.flow_types.specs.declared.numbers.Needs.{Needs}
use Rattle.flow_types.specs.declared.numbers.Needs.TheVariants.{Whole, Stated}
use Rattle.flow_types.specs.Plans.{most_input_bytes}
use Rattle.task_book.specs.Submissions.{input_bytes, unknown_file}

-- a held task without its stage
abbrev pub work_of : Held → TaskId × Submission
work_of h = (h.id, h.task)

-- The same tasks are held, each under its id, and what was submitted, given and cancelled stays.
pub record IsSameWork (old new : Kept) : Type 0 where
  pub submitted : new.submitted ≡ old.submitted
  pub given : new.given ≡ old.given
  pub cancelled : new.cancelled ≡ old.cancelled
  pub held : map work_of new.held ≡ map work_of old.held

-- The same work goes on: no attempt runs that didn't run before.
pub record GoesOnAs (old new : Kept) : Type 0 where
  pub work : IsSameWork old new
  pub runs : RunsOn old.held new.held

-- The task takes in files alone that are there, and of them no more bytes than a task may.
pub record IsKnown (files : List (List ℕ)) (task : Submission) : Type 0 where
  pub there : unknown_file (length files) task.inputs ≡ None
  pub small : input_bytes files task.inputs ≤ most_input_bytes

-- The needs state no more than these amounts.
abbrev pub IsWithin : Amounts → Needs → Type 0
IsWithin least Whole = Unit {0}
IsWithin least (Stated amounts) = IsAtLeast amounts least
