-- What the messages of a queue's links show of an outcome.
use Rattle.std.specs.Prelude.{◌⊎◌, ℕ, List, [], ◌∷◌}
use Rattle.flow_types.specs.declared.job.Failure.{Failure}
use Rattle.flow_types.specs.declared.job.Job.{Job}
use Rattle.flow_types.specs.declared.job.Outcome.{Outcome}
use Rattle.flow_types.specs.declared.numbers.AttemptNo.{AttemptNo}
use Rattle.flow_types.specs.Serial.{Function, given_by}
use Rattle.links.specs.declared.passing.Passed.{Passed}
use Rattle.links.specs.Honesty.{task_job}
use Rattle.task_book.specs.declared.task.Held.{Held}
use Rattle.task_book.specs.declared.task.Submission.{Submission}
use Rattle.task_book.specs.Stages.{Ends}
use Rattle.wq_seats.specs.Seats.{contents_of, task_of}
use Rattle.flow_types.specs.declared.messages.Message.TheVariants as messages
use Rattle.message_forms.specs.Streams.{Carries}
use Rattle.links.specs.Passings.{received_in, sent_in}
use Rattle.outside.specs.Jobs.{IsHonest}

-- The attempt's task is among the messages that were sent over the link, and its outcome among
-- those that were received.
pub record IsShownOn {L : Type 0} (history : L → List Passed) (task : Submission)
    (attempt : AttemptNo) (outcome : Outcome) (way : L) : Type 0 where
  pub asked : Carries (sent_in (history way)) (messages.Task (task_of attempt task))
  pub answered : Carries (received_in (history way)) (messages.Done attempt outcome)

-- It is so on one of these links.
abbrev pub IsShownBy : {L : Type 0} → (L → List Passed) → Submission → AttemptNo → Outcome
    → List L → Type 0
IsShownBy history task attempt outcome [] = ⊥
IsShownBy history task attempt outcome (way ∷ ways) =
    IsShownOn history task attempt outcome way ⊎ IsShownBy history task attempt outcome ways

-- the job of a task over the contents of these files
abbrev pub job_of : List (List ℕ) → Submission → Job
job_of files task = task_job (task_of (record { 0 = 0 }) task) (contents_of files)

-- A success is what the commands give for the task's job, and a failure one that it may fail with.
abbrev pub IsRightOf : Function → (Job → Failure → Type 0) → List (List ℕ) → Submission → Outcome
    → Type 0
IsRightOf gives may_fail files task outcome =
    IsHonest (given_by gives (job_of files task)) (may_fail (job_of files task)) outcome

-- Each task that came to its end had come to it before, or one of these links shows it.
abbrev pub ShowsEnds : {L : Type 0} → (L → List Passed) → List Held → List Held → List L → Type 0
ShowsEnds history old new ways = (attempt : AttemptNo) (outcome : Outcome) (task : Submission)
    → Ends new attempt outcome task
    → Ends old attempt outcome task ⊎ IsShownBy history task attempt outcome ways

-- Each task that came to its end did so as its job does.
abbrev pub AreRight : Function → (Job → Failure → Type 0) → List (List ℕ) → List Held → Type 0
AreRight gives may_fail files held = (attempt : AttemptNo) (outcome : Outcome) (task : Submission)
    → Ends held attempt outcome task → IsRightOf gives may_fail files task outcome

-- A task that came to its end had come to it before, or the link shows it.
abbrev pub ShowsOn : {L : Type 0} → (L → List Passed) → List Held → List Held → L → Type 0
ShowsOn history old new way = (attempt : AttemptNo) (outcome : Outcome) (task : Submission)
    → Ends new attempt outcome task
    → Ends old attempt outcome task ⊎ IsShownOn history task attempt outcome way

-- A task that came to its end had come to it before, or did so as its job does.
abbrev pub EndsRight : Function → (Job → Failure → Type 0) → List (List ℕ) → List Held → List Held
    → Type 0
EndsRight gives may_fail files old new = (attempt : AttemptNo) (outcome : Outcome)
    (task : Submission) → Ends new attempt outcome task
    → Ends old attempt outcome task ⊎ IsRightOf gives may_fail files task outcome
