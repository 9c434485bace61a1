-- What a queue keeps of its tasks.
use Rattle.std.specs.Prelude.{◌≡◌, ◌≤◌, ◌+◌, ◌==◌, ◌&&◌, ℕ, Bool, false, true, List, [], ◌∷◌, ◌++◌, length, map, count_by, position, remove, slice_get, slice_set, Option, None, Some}
use Rattle.flow_types.specs.declared.job.Outcome.{Outcome}
use Rattle.flow_types.specs.declared.numbers.AttemptNo.{AttemptNo}
use Rattle.task_book.specs.declared.task.Given.{Given}
use Rattle.task_book.specs.declared.task.Held.{Held}
use Rattle.task_book.specs.declared.task.Stage.{Stage}
use Rattle.task_book.specs.declared.task.Stage.TheVariants as stages
use Rattle.task_book.specs.declared.task.Submission.{Submission}
use Rattle.task_book.specs.declared.task.TaskId.{TaskId}

-- The ids that were submitted, that were given, each with its attempt, and that were cancelled, and
-- the tasks that are held, in the order in which they were submitted.
pub record Kept : Type 0 where
  pub submitted : List TaskId
  pub given : List Given
  pub cancelled : List TaskId
  pub held : List Held

-- nothing was submitted
abbrev pub nothing_kept : Kept
nothing_kept = record { submitted = []; given = []; cancelled = []; held = [] }

-- the ids of tasks that were given
abbrev pub ids_given : List Given → List TaskId
ids_given given = map (λ g. g.id) given

-- the ids of tasks that are held
abbrev pub ids_held : List Held → List TaskId
ids_held held = map (λ h. h.id) held

-- how often an id stands among these
abbrev pub times : ℕ → List TaskId → ℕ
times n ids = count_by (λ id. id.0 == n) ids

-- Given, cancelled and held ids are together the submitted ones, each once.
pub record AreKept (k : Kept) : Type 0 where
  pub together : (n : ℕ) → times n (ids_given k.given) + times n k.cancelled
      + times n (ids_held k.held) ≡ times n k.submitted
  pub once : (n : ℕ) → times n k.submitted ≤ 1

-- ---- a task comes

-- the next task to be submitted has this id
abbrev pub next_id : Kept → TaskId
next_id k = record { 0 = length k.submitted }

-- the task waits under this id
abbrev pub waiting_as : TaskId → Submission → Held
waiting_as id task = record { id = id; task = task; stage = stages.Waits }

-- the task was submitted under the next id
abbrev pub submitted_to : Kept → Submission → Kept
submitted_to k task = record k {
  submitted = k.submitted ++ next_id k ∷ [];
  held = k.held ++ waiting_as (next_id k) task ∷ [];
}

-- ---- a task leaves

-- where the task of an id stands
abbrev pub place_of : TaskId → List Held → Option ℕ
place_of id held = position (λ h. h.id.0 == id.0) held

-- the id was cancelled, whose task stands at this place
abbrev pub cancelled_at : Kept → TaskId → Option ℕ → Kept
cancelled_at k id None = k
cancelled_at k id (Some at) =
    record k { cancelled = k.cancelled ++ id ∷ []; held = remove k.held at }

-- the stage is an end
abbrev pub is_end : Stage → Bool
is_end stages.Waits = false
is_end (stages.Runs attempt) = false
is_end (stages.Ended attempt outcome) = true

-- Where the first task stands that came to its end. Ids rise, so it has the least.
abbrev pub place_ended : List Held → Option ℕ
place_ended held = position (λ h. is_end h.stage) held

-- the task at this place was given with this attempt
abbrev pub given_at : Kept → ℕ → Given → Kept
given_at k at g = record k { given = k.given ++ g ∷ []; held = remove k.held at }

-- A task at a place came to this end with this attempt.
abbrev pub IsEndedAt : List Held → ℕ → Given → Outcome → Type 0
IsEndedAt held at g outcome = (h : Held) × (slice_get held at ≡ Some h) × (h.id ≡ g.id)
    × (h.stage ≡ stages.Ended g.attempt outcome)

-- ---- a task goes on

-- the stage is a run with this attempt
abbrev pub is_run : AttemptNo → Stage → Bool
is_run attempt stages.Waits = false
is_run attempt (stages.Runs other) = other.0 == attempt.0
is_run attempt (stages.Ended other outcome) = false

-- the task has this id and runs with this attempt
abbrev pub is_running : TaskId → AttemptNo → Held → Bool
is_running id attempt h = (h.id.0 == id.0) && is_run attempt h.stage

-- where the task of an id stands that runs with this attempt
abbrev pub place_running : TaskId → AttemptNo → List Held → Option ℕ
place_running id attempt held = position (is_running id attempt) held

-- the task is in another stage
abbrev pub staged : Stage → Held → Held
staged stage h = record h { stage = stage }

-- the task at this place is in this stage
abbrev pub staged_by : List Held → ℕ → Stage → Option Held → List Held
staged_by held at stage None = held
staged_by held at stage (Some h) = slice_set held at (staged stage h)

-- the same by its place
abbrev pub staged_at : List Held → Option ℕ → Stage → List Held
staged_at held None stage = held
staged_at held (Some at) stage = staged_by held at stage (slice_get held at)
