-- What was said to a worker and heard of it, where its link tells its bytes.
use Rattle.std.specs.Prelude.{◌≡◌, ◌≤◌, ◌<◌, ◌-◌, ◌⊎◌, ℕ, List, [], Option, Some, None, option_map, slice_get}
use Rattle.std.specs.List.{AllByRecursion}
use Rattle.flow_types.specs.declared.plan.Plan.{Plan}
use Rattle.flow_types.specs.declared.plan.Rule.{Rule}
use Rattle.flow_types.specs.declared.numbers.AttemptNo.{AttemptNo}
use Rattle.flow_types.specs.declared.job.Failure.{Failure}
use Rattle.flow_types.specs.declared.job.Job.{Job}
use Rattle.flow_types.specs.declared.job.Outcome.{Outcome}
use Rattle.flow_types.specs.declared.job.Outcome.TheVariants as outcomes
use Rattle.flow_types.specs.declared.job.Task.{Task}
use Rattle.flow_types.specs.declared.messages.Key.{Key}
use Rattle.flow_types.specs.declared.messages.Message.{Message}
use Rattle.flow_types.specs.declared.messages.Message.TheVariants as messages
use Rattle.flow_types.specs.declared.records.Record.{Record}
use Rattle.flow_types.specs.Serial.{Contents, Function, job_of, serial}
use Rattle.run_history.specs.declared.options.Options.{Options}
use Rattle.run_history.specs.History.{next_run}
use Rattle.links.specs.declared.passing.Passed.{Passed}
use Rattle.message_forms.specs.Streams.{IsAmong}
use Rattle.worker_pool.specs.Courses.{EndsAsTold}
use Rattle.desk.specs.declared.attempt.Attempt.{Attempt}
use Rattle.desk.specs.Tasks.{task_with}
use Rattle.peers.specs.declared.told.Told.{Told}
use Rattle.peers.specs.declared.told.Told.TheVariants as tell
use Rattle.peers.specs.Provides.{Provides}
use Rattle.peers.specs.Serves.{AreDue, Serves}
use Rattle.peers.specs.States.{PeerState}
use Rattle.wq_run.specs.Seats.{SeatState}

-- What is relied on is so of the run of a desk with this plan, these options and these records: it is relied on exactly where the desk is trusted, and the plan, the options, the run's number and the contents of the serial run are these.
pub record IsOf (trust : Type 0) (gives : Function) (sources : Contents) (tells kept holds : Type 0) (plan : Plan) (options : Options) (run : ℕ) (due : Contents) (P : Plan) (O : Options) (H : List Record) : Type 0 where
  pub relies : trust → holds
  pub trusts : holds → trust
  pub base : trust → tells × kept
  pub plan_is : P ≡ plan
  pub options_is : O ≡ options
  pub run_is : next_run H - 1 ≡ run
  pub due_is : serial P gives sources ≡ due

-- Peers can come, and where that is relied on the links that are still to come are honest.
pub record IsOpen (holds listens honest : Type 0) : Type 0 where
  pub coming : listens
  pub fair : holds → honest

-- It stays so.
abbrev pub StaysOpen : Type 0 → Type 0 → Type 0 → Type 0 → Type 0 → Type 0
StaysOpen holds listens honest listens_now honest_now = IsOpen holds listens honest → IsOpen holds listens_now honest_now

-- ---- links

-- The link tells its bytes, and where that is relied on it is honest.
abbrev pub IsFair : {L : Type 0} → Type 0 → Type 0 → (L → Type 0) → L → Type 0
IsFair holds tells honest way = tells × (holds → honest way)

-- Links tell their bytes, or it is relied on that they are honest, so that they do.
abbrev pub IsHeard : Type 0 → Type 0 → Type 0
IsHeard holds tells = tells ⊎ holds

-- ---- tasks

-- the task of the attempt, in this run
abbrev pub own_task : Plan → ℕ → Attempt → Option Task
own_task P run a = option_map (λ rule. task_with P rule a.number run) (slice_get P.rules a.rule.0)

-- If the task has the attempt's number, it is the attempt's.
abbrev pub IsOwn : Plan → ℕ → Task → Attempt → Type 0
IsOwn P run t a = t.attempt ≡ a.number → own_task P run a ≡ Some t

-- Of what was said, each task with the attempt's number is the attempt's.
abbrev pub SaysOwn : Plan → ℕ → List Message → Attempt → Type 0
SaysOwn P run said a = (t : Task) → IsAmong (messages.Task t) said → IsOwn P run t a

-- The number is the newest or an older one.
abbrev pub IsUpTo : Option AttemptNo → AttemptNo → Type 0
IsUpTo None number = ⊥
IsUpTo (Some newest) number = number.0 ≤ newest.0

-- ---- seats

-- The seat's peer is served with these messages said and heard, over a link of which this is so: each task of an attempt that runs there is the attempt's, each was said behind all that it takes in, of the inputs of one that waits no more than these are left to be put, and where that is relied on each content that was put is the one that is due.
pub record SpokenTo {L : Type 0} (holds : Type 0) (gives : Function) (may_fail : Job → Failure → Type 0) (history : L → List Passed) (honest : L → Type 0) (P : Plan) (run : ℕ) (due : Contents) (s : SeatState L) (said heard : List Message) (waiting : Option Task) (left : List Key) : Type 0 where
  pub serves : Serves gives may_fail (history s.peer.way) s.peer.feed s.peer.session said heard waiting
  pub provides : Provides s.peer.session.known said waiting left
  pub put : holds → AreDue due said
  pub asked : AllByRecursion (SaysOwn P run said) s.attempts
  pub older : (t : Task) → IsAmong (messages.Task t) said → IsUpTo s.newest t.attempt
  pub honestly : honest s.peer.way

-- It is so of some messages, and no task waits to be said.
pub record IsTrusted {L : Type 0} (holds : Type 0) (gives : Function) (may_fail : Job → Failure → Type 0) (history : L → List Passed) (honest : L → Type 0) (P : Plan) (run : ℕ) (due : Contents) (s : SeatState L) : Type 0 where
  pub said : List Message
  pub heard : List Message
  pub spoken : SpokenTo holds gives may_fail history honest P run due s said heard None []

-- No task of this attempt, nor of a later one, was said.
pub record MayOpen {L : Type 0} (holds : Type 0) (gives : Function) (may_fail : Job → Failure → Type 0) (history : L → List Passed) (honest : L → Type 0) (P : Plan) (run : ℕ) (due : Contents) (s : SeatState L) (number : AttemptNo) : Type 0 where
  pub said : List Message
  pub heard : List Message
  pub spoken : SpokenTo holds gives may_fail history honest P run due s said heard None []
  pub earlier : (t : Task) → IsAmong (messages.Task t) said → t.attempt.0 < number.0

-- The task waits to be said, or was said and none waits; it is that of an attempt that runs there, and no more than these keys are left to be put before it.
pub record MayAsk {L : Type 0} (holds : Type 0) (gives : Function) (may_fail : Job → Failure → Type 0) (history : L → List Passed) (honest : L → Type 0) (P : Plan) (run : ℕ) (due : Contents) (s : SeatState L) (task : Task) (left : List Key) : Type 0 where
  pub said : List Message
  pub heard : List Message
  pub waiting : Option Task
  pub spoken : SpokenTo holds gives may_fail history honest P run due s said heard waiting left
  pub may : (waiting ≡ Some task) ⊎ ((waiting ≡ None) × IsAmong (messages.Task task) said)
  pub own : AllByRecursion (IsOwn P run task) s.attempts
  pub newest : IsUpTo s.newest task.attempt

-- A task of the attempt was said, and none waits.
pub record WasAsked {L : Type 0} (holds : Type 0) (gives : Function) (may_fail : Job → Failure → Type 0) (history : L → List Passed) (honest : L → Type 0) (P : Plan) (run : ℕ) (due : Contents) (s : SeatState L) (number : AttemptNo) : Type 0 where
  pub said : List Message
  pub heard : List Message
  pub spoken : SpokenTo holds gives may_fail history honest P run due s said heard None []
  pub task : Task
  pub of_attempt : task.attempt ≡ number
  pub among : IsAmong (messages.Task task) said

-- ---- what is told

-- If the attempt has the number, the outcome is the one that its rule's job has over these contents.
abbrev pub EndsDue : Plan → Function → (Job → Failure → Type 0) → Contents → AttemptNo → Outcome → Attempt → Type 0
EndsDue P gives may_fail due number outcome a = a.number ≡ number → (row : Rule) → slice_get P.rules a.rule.0 ≡ Some row → EndsAsTold gives may_fail (job_of P row due) outcome

-- What is told of an attempt that runs there is what the commands say of its rule's job, and a task that is to be asked again was asked.
abbrev pub TellsDue : {L : Type 0} → Type 0 → Function → (Job → Failure → Type 0) → (L → List Passed) → (L → Type 0) → Plan → ℕ → Contents → SeatState L → Told → Type 0
TellsDue holds gives may_fail history honest P run due s (tell.Finish attempt outs) = holds → AllByRecursion (EndsDue P gives may_fail due attempt (outcomes.Success outs)) s.attempts
TellsDue holds gives may_fail history honest P run due s (tell.Fail attempt why) = holds → AllByRecursion (EndsDue P gives may_fail due attempt (outcomes.Failed why)) s.attempts
TellsDue holds gives may_fail history honest P run due s (tell.PutAgain attempt files) = WasAsked holds gives may_fail history honest P run due s attempt
TellsDue holds gives may_fail history honest P run due s _ = Unit {0}

-- ---- guests

-- Nothing was said to the peer yet, and this is so of its link.
pub record IsHonestGuest {L : Type 0} (gives : Function) (may_fail : Job → Failure → Type 0) (history : L → List Passed) (honest : L → Type 0) (p : PeerState L) : Type 0 where
  pub heard : List Message
  pub serves : Serves gives may_fail (history p.way) p.feed p.session [] heard None
  pub provides : Provides p.session.known [] None []
  pub honestly : honest p.way

-- It is so where anything is known of links.
abbrev pub IsMeant : {L : Type 0} → Type 0 → Function → (Job → Failure → Type 0) → (L → List Passed) → (L → Type 0) → PeerState L → Type 0
IsMeant known gives may_fail history honest p = known → IsHonestGuest gives may_fail history honest p

-- Nothing was said to the peer yet and nothing was heard of it, and this is so of its link.
pub record IsStranger {L : Type 0} (gives : Function) (may_fail : Job → Failure → Type 0) (history : L → List Passed) (honest : L → Type 0) (p : PeerState L) : Type 0 where
  pub serves : Serves gives may_fail (history p.way) p.feed p.session [] [] None
  pub provides : Provides p.session.known [] None []
  pub honestly : honest p.way

-- It is so where anything is known of links.
abbrev pub IsAwaited : {L : Type 0} → Type 0 → Function → (Job → Failure → Type 0) → (L → List Passed) → (L → Type 0) → PeerState L → Type 0
IsAwaited known gives may_fail history honest p = known → IsStranger gives may_fail history honest p
