-- A queue of tasks.
pub use Rattle.wq_seats.specs.Works.{IsSameWork, IsWithin, work_of}
use Rattle.std.specs.Prelude.{◌≡◌, ◌≤◌, ◌<◌, ℕ, List, [], map, None, Some, Result, Ok, Err, ◌↔◌}
use Rattle.std.specs.List.{AllByRecursion}
use Rattle.flow_types.specs.declared.job.Failure.{Failure}
use Rattle.flow_types.specs.declared.job.Job.{Job}
use Rattle.flow_types.specs.declared.numbers.Amounts.{Amounts}
use Rattle.flow_types.specs.declared.numbers.AttemptNo.{AttemptNo}
use Rattle.flow_types.specs.Serial.{Function}
use Rattle.links.specs.declared.passing.Passed.{Passed}
use Rattle.task_book.specs.declared.task.Submission.{Submission}
use Rattle.task_book.specs.Kept.{Kept, IsEndedAt, given_at, place_ended}
use Rattle.task_book.specs.Stages.{Ends}
use Rattle.wq_seats.specs.Shown.{IsRightOf, AreRight, ShowsEnds}
use Rattle.task_book.specs.declared.task.Ready.{Ready}
use Rattle.wq_submit.specs.declared.cause.QueueCame.{QueueCame}
use Rattle.wq_submit.specs.declared.cause.QueueCame.TheVariants as came
use Rattle.wq_submit.specs.declared.cause.WaitFault.{WaitFault}
use Rattle.wq_submit.specs.declared.cause.WaitFault.TheVariants as faults
use Rattle.wq_company.specs.Rounds.{IsIdleHall, IsMet}
use Rattle.wq_company.specs.Companies.{AreSureOf, AreWithin}

-- The contents of the files by number, what is kept of the tasks, the links that are kept, left ones
-- too, those of them that live, and the number of the next attempt.
pub record QueueState (L : Type 0) : Type 0 where
  pub files : List (List ℕ)
  pub kept : Kept
  pub ways : List L
  pub live : List L
  pub next : ℕ

-- The task with the least id that came to its end is given with its attempt and outcome, and is held
-- no more.
pub record Gives (before after : Kept) (ready : Ready) : Type 0 where
  pub at : ℕ
  pub attempt : AttemptNo
  pub least : place_ended before.held ≡ Some at
  pub ended : IsEndedAt before.held at (record { id = ready.id; attempt = attempt }) ready.outcome
  pub after_is : after ≡ given_at before at (record { id = ready.id; attempt = attempt })

-- What a call of wait does with tasks: it goes on with them, and may then give one.
abbrev pub GoesOnTo : Kept → Result QueueCame WaitFault → Kept → Kept → Type 0
GoesOnTo old (Ok (came.Got ready)) before new = IsSameWork old before × Gives before new ready
GoesOnTo old (Ok came.Empty) before new = (before ≡ old) × (new ≡ old) × (old.held ≡ [])
GoesOnTo old (Ok came.Idle) before new = IsSameWork old before × (new ≡ before)
GoesOnTo old (Err fault) before new = IsSameWork old before × (new ≡ before)

-- The queue's links tell their bytes and are honest, and each task that came to its end did so as its
-- job does.
pub record IsTrusted {L : Type 0} (tells : Type 0) (gives : Function)
    (may_fail : Job → Failure → Type 0) (honest : L → Type 0) (q : QueueState L) : Type 0 where
  pub told : tells
  pub links : AllByRecursion honest q.ways
  pub ends : AreRight gives may_fail q.files q.kept.held

-- A task that was given came to its end as its job does.
abbrev pub GivesRight : Function → (Job → Failure → Type 0) → List (List ℕ) → Kept
    → Result QueueCame WaitFault → Type 0
GivesRight gives may_fail files before (Ok (came.Got ready)) = (attempt : AttemptNo)
    (task : Submission) → Ends before.held attempt ready.outcome task
    → IsRightOf gives may_fail files task ready.outcome
GivesRight gives may_fail files before _ = Unit {0}

-- A fault of the hall is told only where its count rose, between these two.
abbrev pub IsHallFault : ℕ → ℕ → Result QueueCame WaitFault → Type 0
IsHallFault before now (Err (faults.Hall low high)) =
    (before ≤ low) × (low < high) × (high ≤ now)
IsHallFault before now _ = Unit {0}

-- Nothing is held exactly where the answer says so.
abbrev pub IsEmptyExactly : Kept → Result QueueCame WaitFault → Type 0
IsEmptyExactly k answer = (answer ≡ Ok came.Empty) ↔ (k.held ≡ [])

-- What a call of wait does: it goes on with the tasks up to here, and may then give one. Each task
-- that came to its end in it is shown by one of the links that are kept then, and where the links
-- were honest what is given came to its end as its job does.
pub record Goes {L : Type 0} (tells : Type 0) (gives : Function)
    (may_fail : Job → Failure → Type 0) (history : L → List Passed) (fair : Type 0)
    (old new : QueueState L) (answer : Result QueueCame WaitFault) : Type 0 where
  pub before : Kept
  pub does : GoesOnTo old.kept answer before new.kept
  pub shows : tells → ShowsEnds history old.kept.held before.held new.ways
  pub right : fair → GivesRight gives may_fail old.files before answer

-- What a round came to: a task is given, or all were idle.
abbrev pub IsAfter : {L : Type 0} → QueueState L → QueueState L → QueueCame → Type 0
IsAfter old new (came.Got ready) =
    Gives old.kept new.kept ready × (new.ways ≡ old.ways) × (new.files ≡ old.files)
IsAfter old new came.Empty = ⊥
IsAfter old new came.Idle = new ≡ old

-- The call goes on: the same tasks are held, there are some, and none of them came to its end.
pub record IsUnder (old new : Kept) : Type 0 where
  pub work : IsSameWork old new
  pub none : place_ended new.held ≡ None
  pub some : new.held ≡ [] → ⊥

-- Over each link that lives nothing passed since it was last idle, and the hall was idle between
-- these counts, or as many links live as may.
pub record AreIdle {L : Type 0} (idles : L → ℕ) (before now : ℕ) (live : List L) : Type 0 where
  pub links : AllByRecursion (λ way. 0 < idles way) live
  pub hall : IsIdleHall before now live

-- It is so where the answer is that nobody came and no worker told anything.
abbrev pub IsIdleThen : {L : Type 0} → (L → ℕ) → ℕ → ℕ → List L
    → Result QueueCame WaitFault → Type 0
IsIdleThen idles before now live (Ok came.Idle) = AreIdle idles before now live
IsIdleThen idles before now live _ = Unit {0}

-- It is so, each link that lives is sure and offers that much, and no task that is held states more.
pub record IsStaffed {L X : Type 0} (sure : L → Type 0) (offers : L → Amounts → Type 0)
    (manned staffed : X → Amounts → Type 0) (least : Amounts) (hall : X) (q : QueueState L)
    : Type 0 where
  pub met : IsMet manned staffed least hall q.live
  pub links : AreSureOf sure offers least q.live
  pub tasks : AreWithin least (map work_of q.kept.held)

-- This is so, unless memory was wanting.
abbrev pub UnlessMemory : Result QueueCame WaitFault → Type 0 → Type 0
UnlessMemory (Ok c) fact = fact
UnlessMemory (Err (faults.Hall low high)) fact = fact
UnlessMemory (Err faults.Memory) fact = Unit {0}

-- A task is given, nothing is held, or memory was wanting.
abbrev pub IsAnswered : Result QueueCame WaitFault → Type 0
IsAnswered (Ok (came.Got ready)) = Unit {0}
IsAnswered (Ok came.Empty) = Unit {0}
IsAnswered (Ok came.Idle) = ⊥
IsAnswered (Err (faults.Hall low high)) = ⊥
IsAnswered (Err faults.Memory) = Unit {0}
