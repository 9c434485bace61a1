-- The peers of a queue together.
use Rattle.std.specs.Prelude.{◌≡◌, ◌<◌, ◌⊎◌, ℕ, Bool, false, if◌then◌else◌, List, [], ◌∷◌, map, Option}
use Rattle.std.specs.List.{AllByRecursion}
use Rattle.flow_types.specs.declared.job.Failure.{Failure}
use Rattle.flow_types.specs.declared.job.Job.{Job}
use Rattle.flow_types.specs.declared.numbers.Amounts.{Amounts}
use Rattle.flow_types.specs.declared.numbers.AttemptNo.{AttemptNo}
use Rattle.flow_types.specs.Serial.{Function}
use Rattle.links.specs.declared.passing.Passed.{Passed}
use Rattle.task_book.specs.declared.task.Held.{Held}
use Rattle.task_book.specs.declared.task.Submission.{Submission}
use Rattle.task_book.specs.declared.task.TaskId.{TaskId}
use Rattle.task_book.specs.Stages.{RunsAs, Runs}
use Rattle.wq_seats.specs.Turns.{IsSureOf, IsServed, IsOf, IsSureAt, IsReady}
use Rattle.wq_seats.specs.Seats.{RunsAt, SeatState}
use Rattle.wq_seats.specs.Works.{IsKnown, IsWithin}

-- The peers and the number of the next attempt.
pub record CompanyState (L : Type 0) : Type 0 where
  pub seats : List (SeatState L)
  pub next : ℕ

-- the links of these peers
abbrev pub ways_of : {L : Type 0} → List (SeatState L) → List L
ways_of seats = map (λ s. s.peer.way) seats

-- the links of those that aren't gone
abbrev pub live_of : {L : Type 0} → List (SeatState L) → List L
live_of [] = []
live_of (s ∷ seats) = if s.gone then live_of seats else s.peer.way ∷ live_of seats

-- which of these peers are gone
abbrev pub gone_of : {L : Type 0} → List (SeatState L) → List Bool
gone_of seats = map (λ s. s.gone) seats

-- Each of these peers that isn't gone is at work.
abbrev pub AreServed : {L : Type 0} → Function → (Job → Failure → Type 0) → (L → List Passed)
    → List (List ℕ) → List Held → ℕ → List (SeatState L) → Type 0
AreServed gives may_fail history files held next seats =
    AllByRecursion (IsServed gives may_fail history files held next) seats

-- ---- where tasks run

-- All attempts that run are before this one.
abbrev pub RunBefore : ℕ → List Held → Type 0
RunBefore next held = (attempt : AttemptNo) (task : Submission) → Runs held attempt task
    → attempt.0 < next

-- The task of the id runs with the attempt at one of these peers.
abbrev pub IsRunBy : {L : Type 0} → TaskId → AttemptNo → List (SeatState L) → Type 0
IsRunBy id attempt [] = ⊥
IsRunBy id attempt (s ∷ seats) = RunsAt id attempt s ⊎ IsRunBy id attempt seats

-- Each held task that runs does so at one of these peers.
abbrev pub AreRun : {L : Type 0} → List Held → List (SeatState L) → Type 0
AreRun held seats = (id : TaskId) (attempt : AttemptNo) → RunsAs held id attempt
    → IsRunBy id attempt seats

-- Each held task that runs does so at one of these peers, but for this one, which begins.
abbrev pub AreRunBut : {L : Type 0} → Option Held → AttemptNo → List Held → List (SeatState L)
    → Type 0
AreRunBut one begun held seats = (id : TaskId) (attempt : AttemptNo) → RunsAs held id attempt
    → IsRunBy id attempt seats ⊎ IsOf one begun id attempt

-- ---- links that are sure

-- Each of these peers that isn't gone is at a sure link, and offers at least these amounts.
abbrev pub AreSure : {L : Type 0} → (L → Type 0) → (L → Amounts → Type 0) → Amounts
    → List (SeatState L) → Type 0
AreSure sure offers least seats = AllByRecursion (IsSureAt sure offers least) seats

-- It is so of these peers still, and none is gone that wasn't.
pub record StaySure {L : Type 0} (sure : L → Type 0) (offers : L → Amounts → Type 0)
    (least : Amounts) (old new : List (SeatState L)) : Type 0 where
  pub surely : AreSure sure offers least new
  pub gone : gone_of new ≡ gone_of old

-- Each of these peers that isn't gone is ready.
abbrev pub AreReady : {L : Type 0} → Amounts → List (SeatState L) → Type 0
AreReady least seats = AllByRecursion (λ s. s.gone ≡ false → IsReady least s) seats

-- Each of these links is sure, and its peer offers at least these amounts.
abbrev pub AreSureOf : {L : Type 0} → (L → Type 0) → (L → Amounts → Type 0) → Amounts → List L
    → Type 0
AreSureOf sure offers least ways = AllByRecursion (IsSureOf sure offers least) ways

-- ---- the tasks that are held

-- Each of these tasks takes in files alone that are there, and of them no more bytes than it may.
abbrev pub AreKnown : List (List ℕ) → List (TaskId × Submission) → Type 0
AreKnown files works = AllByRecursion (λ w. IsKnown files w.1) works

-- Each of these tasks states no more than these amounts.
abbrev pub AreWithin : Amounts → List (TaskId × Submission) → Type 0
AreWithin least works = AllByRecursion (λ w. IsWithin least w.1.needs) works
