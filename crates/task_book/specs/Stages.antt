-- Which held tasks run, and which came to their ends.
use Rattle.std.specs.Prelude.{◌≡◌, ◌⊎◌, List, [], ◌∷◌}
use Rattle.flow_types.specs.declared.job.Outcome.{Outcome}
use Rattle.flow_types.specs.declared.numbers.AttemptNo.{AttemptNo}
use Rattle.task_book.specs.declared.task.Held.{Held}
use Rattle.task_book.specs.declared.task.Stage.TheVariants as stages
use Rattle.task_book.specs.declared.task.Submission.{Submission}
use Rattle.task_book.specs.declared.task.TaskId.{TaskId}

-- A held task runs with the attempt.
abbrev pub Runs : List Held → AttemptNo → Submission → Type 0
Runs [] attempt task = ⊥
Runs (h ∷ held) attempt task =
    ((h.stage ≡ stages.Runs attempt) × (h.task ≡ task)) ⊎ Runs held attempt task

-- A held task came to this end with the attempt.
abbrev pub Ends : List Held → AttemptNo → Outcome → Submission → Type 0
Ends [] attempt outcome task = ⊥
Ends (h ∷ held) attempt outcome task =
    ((h.stage ≡ stages.Ended attempt outcome) × (h.task ≡ task)) ⊎ Ends held attempt outcome task

-- No further attempt runs.
abbrev pub RunsOn : List Held → List Held → Type 0
RunsOn old new = (attempt : AttemptNo) (task : Submission) → Runs new attempt task
    → Runs old attempt task

-- No further task came to its end.
abbrev pub EndsOn : List Held → List Held → Type 0
EndsOn old new = (attempt : AttemptNo) (outcome : Outcome) (task : Submission)
    → Ends new attempt outcome task → Ends old attempt outcome task

-- A task that came to its end did so before, or it ran with this attempt and ended so.
abbrev pub EndsWith : List Held → List Held → AttemptNo → Outcome → Type 0
EndsWith old new attempt outcome = (a : AttemptNo) (o : Outcome) (task : Submission)
    → Ends new a o task
    → Ends old a o task ⊎ ((a ≡ attempt) × (o ≡ outcome) × Runs old attempt task)

-- A task that runs did so before, or it is this one and runs with this attempt.
abbrev pub RunsWith : List Held → List Held → AttemptNo → Submission → Type 0
RunsWith old new attempt task = (a : AttemptNo) (t : Submission) → Runs new a t
    → Runs old a t ⊎ ((a ≡ attempt) × (t ≡ task))

-- The held task of the id runs with the attempt.
abbrev pub RunsAs : List Held → TaskId → AttemptNo → Type 0
RunsAs [] id attempt = ⊥
RunsAs (h ∷ held) id attempt =
    ((h.id ≡ id) × (h.stage ≡ stages.Runs attempt)) ⊎ RunsAs held id attempt

-- What runs ran before with the same attempt, and the task of the id runs with this one no more.
abbrev pub Stops : List Held → List Held → TaskId → AttemptNo → Type 0
Stops old new id attempt = (i : TaskId) (a : AttemptNo) → RunsAs new i a
    → RunsAs old i a × ((i ≡ id) → (a ≡ attempt) → ⊥)
