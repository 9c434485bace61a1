-- A peer that came to a queue, and what was said to it.
use Rattle.std.specs.Prelude.{◌≡◌, ◌<◌, ◌⊎◌, ◌==◌, ℕ, Bool, false, if◌then◌else◌, List, [], ◌∷◌, slice_get, Option, None, Some, count_by}
use Rattle.flow_types.specs.declared.job.Failure.{Failure}
use Rattle.flow_types.specs.declared.job.Job.{Job}
use Rattle.flow_types.specs.declared.job.Outcome.TheVariants as outcomes
use Rattle.flow_types.specs.declared.numbers.AttemptNo.{AttemptNo}
use Rattle.flow_types.specs.Serial.{Function, Contents}
use Rattle.links.specs.declared.passing.Passed.{Passed}
use Rattle.resource_pack.specs.declared.occupied.Stated.{Stated}
use Rattle.task_book.specs.declared.task.Held.{Held}
use Rattle.task_book.specs.declared.task.Submission.{Submission}
use Rattle.task_book.specs.declared.task.TaskId.{TaskId}
use Rattle.task_book.specs.Stages.{RunsAs, Runs}
use Rattle.wq_seats.specs.declared.run.Again.{Again}
use Rattle.wq_seats.specs.declared.run.Run.{Run}
use Rattle.peer_health.specs.Healths.{HealthState, IsRested}
use Rattle.flow_types.specs.declared.job.Task.{Task}
use Rattle.flow_types.specs.declared.messages.Message.{Message}
use Rattle.flow_types.specs.declared.messages.Message.TheVariants as messages
use Rattle.flow_types.specs.declared.messages.Key.{Key}
use Rattle.flow_types.specs.declared.numbers.FileNo.{FileNo}
use Rattle.link_session.specs.declared.open.Open.{Open}
use Rattle.link_session.specs.declared.session.Stage.{Stage}
use Rattle.link_session.specs.declared.session.Stage.TheVariants as stages
use Rattle.message_forms.specs.Streams.{IsAmong}
use Rattle.peers.specs.Provides.{Provides}
use Rattle.peers.specs.Serves.{AreDue, Serves}
use Rattle.peers.specs.States.{PeerState}

-- the run of all tasks of a queue
abbrev pub own_run : ℕ
own_run = 0

-- what is sent of a task for an attempt
abbrev pub task_of : AttemptNo → Submission → Task
task_of attempt task = record {
  attempt = attempt;
  run = own_run;
  command = task.command;
  needs = task.needs;
  env = task.env;
  inputs = task.inputs;
  outputs = task.outputs;
}

-- the contents of files by their numbers
abbrev pub contents_of : List (List ℕ) → Contents
contents_of files f = slice_get files f

-- The task is that of each held one that runs with its attempt.
abbrev pub IsOwnTask : List Held → Task → Type 0
IsOwnTask held t = (task : Submission) → Runs held t.attempt task → t ≡ task_of t.attempt task

-- Each task that was said is.
abbrev pub AreOwn : List Held → List Message → Type 0
AreOwn held said = (t : Task) → IsAmong (messages.Task t) said → IsOwnTask held t

-- The attempts of the tasks that were said are before this one.
abbrev pub AreOlder : ℕ → List Message → Type 0
AreOlder next said = (t : Task) → IsAmong (messages.Task t) said → t.attempt.0 < next

-- These messages were said and heard: each content that was put is that of its file, and each task
-- is that of its attempt, of which this is the next.
pub record SpokenTo {L : Type 0} (gives : Function) (may_fail : Job → Failure → Type 0)
    (history : L → List Passed) (files : List (List ℕ)) (held : List Held) (next : ℕ)
    (p : PeerState L) (said heard : List Message) (waiting : Option Task) : Type 0 where
  pub serves : Serves gives may_fail (history p.way) p.feed p.session said heard waiting
  pub due : AreDue (contents_of files) said
  pub own : AreOwn held said
  pub older : AreOlder next said

-- A peer that came, what it offers once its hello has come, what runs there, the inputs that it
-- lacks of a task, and how it has done of late; or it is gone, and is kept unread.
pub record SeatState (L : Type 0) : Type 0 where
  pub peer : PeerState L
  pub stated : Option Stated
  pub runs : List Run
  pub again : Option Again
  pub health : HealthState
  pub gone : Bool

-- None of these messages tells that an attempt wasn't run, or that inputs are missing.
pub record AreWell (heard : List Message) : Type 0 where
  pub ran : (attempt : AttemptNo) → IsAmong (messages.Done attempt outcomes.NotRun) heard → ⊥
  pub there : (attempt : AttemptNo) (files : List FileNo)
      → IsAmong (messages.Missing attempt files) heard → ⊥

-- One of these messages offers this.
pub record IsOffered (offer : Stated) (heard : List Message) : Type 0 where
  pub cache : ℕ
  pub cache_is : offer.cache ≡ Some cache
  pub said : IsAmong (messages.Hello offer.total offer.largest cache) heard
      ⊎ IsAmong (messages.Totals offer.total offer.largest cache) heard

-- Once a hello has come it is stated what one of these messages offers.
abbrev pub IsStated : Option Stated → Stage → List Message → Type 0
IsStated stated stage heard = stage ≡ stages.Greeted
    → (offer : Stated) × (stated ≡ Some offer) × IsOffered offer heard

-- how often an attempt of this number runs
abbrev pub times_run : ℕ → List Run → ℕ
times_run n runs = count_by (λ r. r.attempt.0 == n) runs

-- how often one of this number is open
abbrev pub times_open : ℕ → List Open → ℕ
times_open n attempts = count_by (λ o. o.attempt.0 == n) attempts

-- The attempts that run are those that are open.
abbrev pub AreOpen : List Run → List Open → Type 0
AreOpen runs attempts = (n : ℕ) → times_run n runs ≡ times_open n attempts

-- A task of the attempt was said.
abbrev pub WasSaid : AttemptNo → List Message → Type 0
WasSaid attempt said = (t : Task) × (t.attempt ≡ attempt) × IsAmong (messages.Task t) said

-- It is so of some messages, with a task that waits to be said or none, of whose inputs no more than
-- these are left to be put. Where a task is to be asked for once more it was said. What runs is open,
-- and nothing is lacked and the peer doesn't rest unless a message told so.
pub record IsServing {L : Type 0} (gives : Function) (may_fail : Job → Failure → Type 0)
    (history : L → List Passed) (files : List (List ℕ)) (held : List Held) (next : ℕ)
    (s : SeatState L) (waiting : Option Task) (left : List Key) : Type 0 where
  pub said : List Message
  pub heard : List Message
  pub spoken : SpokenTo gives may_fail history files held next s.peer said heard waiting
  pub owed : (a : Again) → s.again ≡ Some a → WasSaid a.attempt said
  pub provides : Provides s.peer.session.known said waiting left
  pub runs : AreOpen s.runs s.peer.session.attempts
  pub stated : IsStated s.stated s.peer.session.stage heard
  pub well : AreWell heard → (s.again ≡ None) × IsRested s.health

-- No task waits to be said to the peer.
abbrev pub IsAtWork : {L : Type 0} → Function → (Job → Failure → Type 0) → (L → List Passed)
    → List (List ℕ) → List Held → ℕ → SeatState L → Type 0
IsAtWork gives may_fail history files held next s =
    IsServing gives may_fail history files held next s None []

-- A task waits to be said to it, and these keys are left to be put.
abbrev pub MayAsk : {L : Type 0} → Function → (Job → Failure → Type 0) → (L → List Passed)
    → List (List ℕ) → List Held → ℕ → SeatState L → Task → List Key → Type 0
MayAsk gives may_fail history files held next s task left =
    IsServing gives may_fail history files held next s (Some task) left

-- the runs without the first with the attempt
abbrev pub closed_runs : AttemptNo → List Run → List Run
closed_runs attempt [] = []
closed_runs attempt (r ∷ runs) =
    if r.attempt.0 == attempt.0 then runs else r ∷ closed_runs attempt runs

-- The task of the id runs there with the attempt.
abbrev pub HasRun : TaskId → AttemptNo → List Run → Type 0
HasRun id attempt [] = ⊥
HasRun id attempt (r ∷ runs) = ((r.id ≡ id) × (r.attempt ≡ attempt)) ⊎ HasRun id attempt runs

-- It does, and the peer isn't gone.
abbrev pub RunsAt : {L : Type 0} → TaskId → AttemptNo → SeatState L → Type 0
RunsAt id attempt s = (s.gone ≡ false) × HasRun id attempt s.runs

-- What runs ran before, and what of it ran at the peer still does.
abbrev pub KeepsRuns : {L : Type 0} → List Held → List Held → SeatState L → SeatState L → Type 0
KeepsRuns held new s now = (id : TaskId) (attempt : AttemptNo) → RunsAs new id attempt
    → RunsAs held id attempt × (RunsAt id attempt s → RunsAt id attempt now)
