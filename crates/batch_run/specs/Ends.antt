-- How a batch ends.
use Rattle.std.specs.Prelude.{◌≡◌, ◌≤◌, ◌<◌, ◌+◌, ◌⊎◌, ℕ, List, [], ◌∷◌, ◌++◌, length, map, take, true, slice_get, slice_set, Option, Some, None, Result, Ok, IfErr}
use Rattle.std.specs.List.{AllByRecursion, list_all}
use Rattle.flow_types.specs.declared.job.Failure.{Failure}
use Rattle.flow_types.specs.declared.job.Job.{Job}
use Rattle.flow_types.specs.declared.job.Outcome.{Outcome}
use Rattle.flow_types.specs.declared.numbers.Amounts.{Amounts}
use Rattle.flow_types.specs.declared.numbers.AttemptNo.{AttemptNo}
use Rattle.flow_types.specs.Serial.{Function}
use Rattle.links.specs.declared.passing.Passed.{Passed}
use Rattle.outside.specs.Files.{Files}
use Rattle.task_book.specs.declared.task.Held.{Held}
use Rattle.task_book.specs.declared.task.Ready.{Ready}
use Rattle.task_book.specs.declared.task.Submission.{Submission}
use Rattle.task_book.specs.Kept.{Kept}
use Rattle.task_book.specs.Stages.{Ends as EndsAt}
use Rattle.wq_submit.specs.declared.cause.QueueCame.{QueueCame}
use Rattle.wq_submit.specs.declared.cause.QueueCame.TheVariants as came
use Rattle.wq_submit.specs.declared.cause.WaitFault.{WaitFault}
use Rattle.wq_submit.specs.Queues.{AreIdle, IsWithin, work_of}
use Rattle.wq_submit.specs.Shown.{IsRightOf, IsShownOn}
use Rattle.batch_run.specs.declared.cause.BatchCause.{BatchCause}
use Rattle.batch_run.specs.declared.cause.BatchCause.TheVariants as causes
use Rattle.batch_run.specs.declared.ends.End.{End}
use Rattle.batch_run.specs.declared.ends.End.TheVariants as ends
use Rattle.batch_run.specs.declared.words.Ask.{Ask}
use Rattle.batch_run.specs.Batch.{end_of, is_over, printed, tasks_of, text_refusal}

-- ---- outcomes

-- A link shows the outcome: the task with an attempt is among the messages sent over it, and that
-- the attempt came to this outcome among those received.
abbrev pub IsShown : {L : Type 0} → (L → List Passed) → Submission → Outcome → Type 0
IsShown {L} history task outcome =
    (attempt : AttemptNo) × (way : L) × IsShownOn history task attempt outcome way

-- The outcome is a worker's: where links tell their bytes one shows it, and where they are honest
-- too it is one that the task's job may have.
abbrev pub IsBrought : {L : Type 0} → Type 0 → Type 0 → Function → (Job → Failure → Type 0)
    → (L → List Passed) → Submission → Outcome → Type 0
IsBrought tells fair gives may_fail history task outcome =
    (tells → IsShown history task outcome) × (fair → IsRightOf gives may_fail [] task outcome)

-- Each held task that came to its end is shown by some link.
abbrev pub AreShown : {L : Type 0} → (L → List Passed) → List Held → Type 0
AreShown history held = (attempt : AttemptNo) (outcome : Outcome) (task : Submission)
    → EndsAt held attempt outcome task → IsShown history task outcome

-- ---- the tasks

-- Each held task is that of its id among these.
abbrev pub AreOf : List Submission → Kept → Type 0
AreOf tasks k = AllByRecursion (λ w. slice_get tasks w.0.0 ≡ Some w.1) (map work_of k.held)

-- The end is that of an outcome of the task that was brought.
abbrev pub IsEndOf : (Submission → Outcome → Type 0) → Submission → End → Type 0
IsEndOf brought task end = (outcome : Outcome) × (end ≡ end_of outcome) × brought task outcome

-- Each of these tasks ended so, or isn't given yet.
abbrev pub MayEndSo : (Submission → Outcome → Type 0) → List Submission → List End → Type 0
MayEndSo brought [] [] = Unit {0}
MayEndSo brought (task ∷ tasks) (end ∷ more) =
    ((end ≡ ends.Open) ⊎ IsEndOf brought task end) × MayEndSo brought tasks more
MayEndSo brought [] (end ∷ more) = ⊥
MayEndSo brought (task ∷ tasks) [] = ⊥

-- Each of these tasks ended so.
abbrev pub EndSo : (Submission → Outcome → Type 0) → List Submission → List End → Type 0
EndSo brought [] [] = Unit {0}
EndSo brought (task ∷ tasks) (end ∷ more) = IsEndOf brought task end × EndSo brought tasks more
EndSo brought [] (end ∷ more) = ⊥
EndSo brought (task ∷ tasks) [] = ⊥

-- Each task was given.
abbrev pub AreOver : List End → Type 0
AreOver done = list_all is_over done ≡ true

-- Nothing was noted, or that one of the tasks ended so.
abbrev pub Notes : (Submission → Outcome → Type 0) → List Submission → List End → List End → Type 0
Notes brought tasks old new = (new ≡ old) ⊎ ((id : ℕ) × (task : Submission) × (end : End)
    × (slice_get tasks id ≡ Some task) × IsEndOf brought task end × (new ≡ slice_set old id end))

-- ---- an answer of `wait`

-- An answer that gives a task has this.
abbrev pub IfGiven : Result QueueCame WaitFault → (Ready → Type 0) → Type 0
IfGiven (Ok (came.Got ready)) fact = fact ready
IfGiven _ fact = Unit {0}

-- The outcome was brought of the task of its id among these.
pub record IsGiven (brought : Submission → Outcome → Type 0) (tasks : List Submission)
    (ready : Ready) : Type 0 where
  pub task : Submission
  pub there : slice_get tasks ready.id.0 ≡ Some task
  pub by : brought task ready.outcome

-- how the tasks ended, once an answer was noted
abbrev pub noted : Result QueueCame WaitFault → List End → List End
noted (Ok (came.Got ready)) done = slice_set done ready.id.0 (end_of ready.outcome)
noted _ done = done

-- An answer that all were idle is counted, and no other is.
abbrev pub CountsIdle : Result QueueCame WaitFault → ℕ → ℕ → Type 0
CountsIdle (Ok came.Idle) old new = new ≡ old + 1
CountsIdle _ old new = new ≡ old

-- ---- turns in which nothing came

-- how often `wait` may answer that it was idle
abbrev pub most_idles : ℕ
most_idles = 1000000

-- The links that lived while nothing came, and the hall's count of idle turns before and behind.
pub record Lull (L : Type 0) : Type 0 where
  pub low : ℕ
  pub high : ℕ
  pub live : List L

-- In each of these, the last one first, all were idle. They lie one behind the other.
abbrev pub AreLulls : {L : Type 0} → (L → ℕ) → ℕ → ℕ → List (Lull L) → Type 0
AreLulls idles before now [] = before ≤ now
AreLulls idles before now (l ∷ lulls) = AreLulls idles before l.low lulls
    × AreIdle idles l.low l.high l.live × (l.low ≤ l.high) × (l.high ≤ now)

-- So often nothing came while the hall's count of idle turns went from here to there.
abbrev pub WasIdle : {L : Type 0} → (L → ℕ) → ℕ → ℕ → ℕ → Type 0
WasIdle {L} idles before now count =
    (lulls : List (Lull L)) × (length lulls ≡ count) × AreLulls idles before now lulls

-- ---- causes

-- a count rose between these, of which it stood before and stands now
abbrev pub Rose : ℕ → ℕ → ℕ → ℕ → Type 0
Rose before now low high = (before ≤ low) × (low < high) × (high ≤ now)

-- The file has this text.
abbrev pub HasText : Type 0 → Files → List ℕ → List ℕ → Type 0
HasText tells files name text = tells → files name ≡ Some text

-- why no tasks were read of a file
abbrev pub ReadFails : Type 0 → Files → ℕ → ℕ → List ℕ → BatchCause → Type 0
ReadFails tells files before now name causes.FileMissing = tells → files name ≡ None
ReadFails tells files before now name (causes.BadLine line) = (text : List ℕ)
    × HasText tells files name text × (text_refusal text ≡ Some (causes.BadLine line))
ReadFails tells files before now name causes.TooMany = (text : List ℕ)
    × HasText tells files name text × (text_refusal text ≡ Some causes.TooMany)
ReadFails tells files before now name (causes.SiteFault low high) = Rose before now low high
ReadFails tells files before now name causes.Memory = Unit {0}
ReadFails tells files before now name causes.Done = ⊥
ReadFails tells files before now name causes.Usage = ⊥
ReadFails tells files before now name (causes.HallFault low high) = ⊥
ReadFails tells files before now name (causes.SinkFault low high) = ⊥
ReadFails tells files before now name causes.Idle = ⊥

-- The file is there and is a batch, and these are its tasks.
pub record IsBatch (tells : Type 0) (files : Files) (name : List ℕ) (tasks : List Submission)
    : Type 0 where
  pub text : List ℕ
  pub there : HasText tells files name text
  pub good : text_refusal text ≡ None
  pub tasks_are : tasks ≡ tasks_of text

-- why the tasks weren't all given
abbrev pub RunFails : Type 0 → ℕ → ℕ → BatchCause → Type 0
RunFails idle before now (causes.HallFault low high) = Rose before now low high
RunFails idle before now causes.Idle = idle
RunFails idle before now causes.Memory = Unit {0}
RunFails idle before now causes.Done = ⊥
RunFails idle before now causes.Usage = ⊥
RunFails idle before now causes.FileMissing = ⊥
RunFails idle before now (causes.BadLine line) = ⊥
RunFails idle before now causes.TooMany = ⊥
RunFails idle before now (causes.SiteFault low high) = ⊥
RunFails idle before now (causes.SinkFault low high) = ⊥

-- what became of a text that was printed
abbrev pub Prints : Type 0 → ℕ → ℕ → List ℕ → List ℕ → List ℕ → BatchCause → Type 0
Prints tells before now old new text causes.Done = tells → new ≡ old ++ text
Prints tells before now old new text (causes.SinkFault low high) =
    Rose before now low high × (tells → (n : ℕ) × (new ≡ old ++ take n text))
Prints tells before now old new text causes.Memory = tells → new ≡ old
Prints tells before now old new text _ = ⊥

-- The tasks need no more than these amounts.
abbrev pub AreFit : Amounts → List Submission → Type 0
AreFit least tasks = AllByRecursion (λ t. IsWithin least t.needs) tasks

-- Where it failed, then not since all were idle.
abbrev pub IsNotIdle : {T : Type 0} → Result T BatchCause → Type 0
IsNotIdle result = IfErr result (λ why. why ≡ causes.Idle → ⊥)

-- All is done, memory is wanting, or what was asked for is refused: the status is 0, 8, 2 or 3.
abbrev pub EndsWell : BatchCause → Type 0
EndsWell causes.Done = Unit {0}
EndsWell causes.Memory = Unit {0}
EndsWell causes.Usage = Unit {0}
EndsWell causes.FileMissing = Unit {0}
EndsWell (causes.BadLine line) = Unit {0}
EndsWell causes.TooMany = Unit {0}
EndsWell (causes.SiteFault low high) = ⊥
EndsWell (causes.HallFault low high) = ⊥
EndsWell (causes.SinkFault low high) = ⊥
EndsWell causes.Idle = ⊥

-- ---- the call

-- What the words ask for, the folder's files, and the counts of failures of the folder and of the
-- hall, before and now.
pub record Called : Type 0 where
  pub asked : Option Ask
  pub files : Files
  pub site_before : ℕ
  pub site_now : ℕ
  pub hall_before : ℕ
  pub hall_now : ℕ

-- The words ask for a batch with these tasks.
abbrev pub IsAsked : Type 0 → Called → List Submission → Type 0
IsAsked tells c tasks = (ask : Ask) × (c.asked ≡ Some ask) × IsBatch tells c.files ask.file tasks

-- The words ask for a file of which no tasks were read for this cause.
abbrev pub IsUnread : Type 0 → Called → BatchCause → Type 0
IsUnread tells c cause = (ask : Ask) × (c.asked ≡ Some ask)
    × ReadFails tells c.files c.site_before c.site_now ask.file cause

-- The words ask for a batch whose tasks weren't all given for this cause.
abbrev pub IsUndone : Type 0 → Type 0 → Called → BatchCause → Type 0
IsUndone tells idle c cause = (tasks : List Submission) × IsAsked tells c tasks
    × RunFails idle c.hall_before c.hall_now cause

-- Why a call stops before it prints: each refusal where it is said, a fault only where its count rose,
-- and Idle only where it was idle that often.
abbrev pub Stops : Type 0 → Type 0 → Called → BatchCause → Type 0
Stops tells idle c causes.Usage = c.asked ≡ None
Stops tells idle c causes.FileMissing = IsUnread tells c causes.FileMissing
Stops tells idle c (causes.BadLine line) = IsUnread tells c (causes.BadLine line)
Stops tells idle c causes.TooMany = IsUnread tells c causes.TooMany
Stops tells idle c (causes.SiteFault low high) = IsUnread tells c (causes.SiteFault low high)
Stops tells idle c (causes.HallFault low high) = IsUndone tells idle c (causes.HallFault low high)
Stops tells idle c causes.Idle = IsUndone tells idle c causes.Idle
Stops tells idle c causes.Memory = Unit {0}
Stops tells idle c causes.Done = ⊥
Stops tells idle c (causes.SinkFault low high) = ⊥

-- Each of the tasks ended by an outcome that was brought.
pub record Ended (brought : Submission → Outcome → Type 0) (tells : Type 0) (c : Called)
    : Type 0 where
  pub tasks : List Submission
  pub asked : IsAsked tells c tasks
  pub done : List End
  pub so : EndSo brought tasks done

-- How a call ends: it stops before anything is printed; or the tasks ended, and a line of each was
-- printed, in order, or the sink failed and may have taken a first part.
pub data Ends (brought : Submission → Outcome → Type 0) (tells prints idle : Type 0) (c : Called)
    (before now : ℕ) (old new : List ℕ) (cause : BatchCause) : Type 0 where
  stops : Stops tells idle c cause → new ≡ old
      → Ends brought tells prints idle c before now old new cause
  prints_so : (e : Ended brought tells c)
      → Prints prints before now old new (printed e.done) cause
      → Ends brought tells prints idle c before now old new cause

-- The cause is one for which nobody was listened for.
abbrev pub IsRefusal : BatchCause → Type 0
IsRefusal causes.Usage = Unit {0}
IsRefusal causes.FileMissing = Unit {0}
IsRefusal (causes.BadLine line) = Unit {0}
IsRefusal causes.TooMany = Unit {0}
IsRefusal (causes.SiteFault low high) = Unit {0}
IsRefusal causes.Done = ⊥
IsRefusal (causes.HallFault low high) = ⊥
IsRefusal (causes.SinkFault low high) = ⊥
IsRefusal causes.Idle = ⊥
IsRefusal causes.Memory = ⊥
