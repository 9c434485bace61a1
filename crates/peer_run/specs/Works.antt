-- A worker at work.
use Rattle.std.specs.Prelude.{◌≡◌, ◌≤◌, ◌+◌, ℕ, Bool, true, false, List, ◌++◌, length, Option, None}
use Rattle.flow_types.specs.declared.job.Failure.{Failure}
use Rattle.flow_types.specs.declared.job.Job.{Job}
use Rattle.flow_types.specs.declared.job.Outcome.{Outcome}
use Rattle.flow_types.specs.declared.job.Start.{Start}
use Rattle.flow_types.specs.Serial.{Function}
use Rattle.links.specs.declared.passing.Passed.{Passed}
use Rattle.links.specs.Passings.{received_in, sent_in}
use Rattle.links.specs.Peers.{IsRightLink}
use Rattle.message_forms.specs.Streams.{AreFramed, frames_of}
use Rattle.outside.specs.Jobs.{IsShaped}
use Rattle.wq_frames.specs.declared.feeder.FeedFault.{FeedFault}
use Rattle.wq_messages.specs.Spelling.{most_outputs}
use Rattle.worker_core.specs.Workers.{Worker, runs}
use Rattle.worker_pool.specs.Courses.{EndsAsTold, IfRun}
use Rattle.worker_pool.specs.Steers.{AllDue}
use Rattle.worker_pool.specs.declared.hand.Tally.{Tally}
use Rattle.peer_run.specs.Asked.{AllRows, AreAsked, WasPut}
use Rattle.peer_run.specs.Met.{Met, worker_of, said_of, heard_of, has_left, ended_of, AreInOrder}

-- what is seen of a link: what passed over it, the newest first, whether it is closed, and its count
-- of faults
pub record Way : Type 0 where
  pub history : List Passed
  pub closed : Bool
  pub faults : ℕ

-- that of a link with these members
abbrev pub way_of : {L : Type 0} → (L → List Passed) → (L → Bool) → (L → ℕ) → L → Way
way_of {L} history closed faults link =
    record { history = history link; closed = closed link; faults = faults link }

-- what came down: the bytes that no message took, the body taken last, the fault that it stopped at,
-- and how many bytes came in all
pub record EarState : Type 0 where
  pub rest : List ℕ
  pub body : List ℕ
  pub stop : Option FeedFault
  pub fed : ℕ

-- What fits a job in the pool has the job's shape.
abbrev pub IsShapedPool : (Job → Outcome → Type 0) → Type 0
IsShapedPool fits = (job : Job) (outcome : Outcome) → fits job outcome → IfRun (IsShaped job) outcome

-- What fits a job in the pool is what the commands say.
abbrev pub IsToldPool : Function → (Job → Failure → Type 0) → (Job → Outcome → Type 0) → Type 0
IsToldPool gives may_fail fits =
    (job : Job) (outcome : Outcome) → fits job outcome → EndsAsTold gives may_fail job outcome

-- It runs, and has no more outputs than can be told.
abbrev pub IsRunning : Worker → Start → Type 0
IsRunning w start = (runs start.attempt w ≡ true) × (length start.job.outputs ≤ most_outputs)

-- What a worker has come to that was this one first: it met some messages and ends of jobs, it is as
-- these make it, and said all that it says by them. What it keeps was put, and what waits was asked
-- for. The link had this count of faults first.
pub record Works (gives : Function) (may_fail : Job → Failure → Type 0) (tells told : Type 0)
    (fits : Job → Outcome → Type 0) (first : Worker) (faults : ℕ) (way : Way) (ear : EarState)
    (core : Worker) (waiting : List Start) (heard : Tally) (left : Bool) : Type 0 where
  pub past : List Met
  pub core_is : core ≡ worker_of first past
  pub in_order : AreInOrder fits first past waiting
  pub heard_is : heard ≡ ended_of past
  pub left_is : left ≡ has_left past
  pub running : AllDue (IsRunning core) waiting
  pub going : ear.stop ≡ None
  pub framed_all : AreFramed (heard_of past)
  pub fed_is : ear.fed ≡ length (frames_of (heard_of past)) + length ear.rest
  pub stream : tells → received_in way.history ≡ frames_of (heard_of past) ++ ear.rest
  pub rows : tells → AllRows (WasPut (received_in way.history)) core.cache.rows
  pub asked : tells → AreAsked (received_in way.history) waiting
  pub sent : tells → sent_in way.history ≡ frames_of (said_of first past)
  pub right : tells → told → IsRightLink gives may_fail way.history (said_of first past)
  pub closed : way.closed ≡ false
  pub later : faults ≤ way.faults

-- A worker at work over a pool whose jobs end so.
abbrev pub AtWork : Function → (Job → Failure → Type 0) → Type 0 → (Job → Outcome → Type 0)
    → Worker → ℕ → Way → EarState → Worker → List Start → Tally → Bool → Type 0
AtWork gives may_fail tells fits first faults way ear core waiting heard left =
    Works gives may_fail tells (IsToldPool gives may_fail fits) fits first faults way ear core
    waiting heard left
