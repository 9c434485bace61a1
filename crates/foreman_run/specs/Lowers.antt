-- A foreman's links to its workers.
use Rattle.std.specs.Prelude.{◌≡◌, ◌==◌, ◌≤◌, ◌⊎◌, ◌+◌, ◌++◌, ◌∷◌, [], ℕ, Bool, true, false, if◌then◌else◌, List, Option, None, length}
use Rattle.flow_types.specs.declared.job.Failure.{Failure}
use Rattle.flow_types.specs.declared.job.Job.{Job}
use Rattle.flow_types.specs.declared.job.Outcome.{Outcome}
use Rattle.flow_types.specs.declared.job.Task.{Task}
use Rattle.flow_types.specs.declared.messages.Key.{Key}
use Rattle.flow_types.specs.declared.messages.Message.{Message}
use Rattle.flow_types.specs.declared.messages.Message.TheVariants as messages
use Rattle.flow_types.specs.declared.numbers.AttemptNo.{AttemptNo}
use Rattle.flow_types.specs.declared.numbers.LinkNo.{LinkNo}
use Rattle.flow_types.specs.Plans.{files_of, contains_number}
use Rattle.flow_types.specs.Serial.{Contents, Function, given_by}
use Rattle.std.specs.Prelude.{Some, IsTrue, Result, Ok, Err}
use Rattle.foreman_core.specs.declared.acts.Down.{Down}
use Rattle.foreman_core.specs.Members.{Stands, Every}
use Rattle.links.specs.declared.passing.Passed.{Passed}
use Rattle.links.specs.Honesty.{HasRun, key_of, task_job}
use Rattle.links.specs.Passings.{received_in, sent_in}
use Rattle.message_forms.specs.Streams.{AreFramed, BeginsWith, IsStream, frames_of}
use Rattle.outside.specs.Jobs.{IsHonest}
use Rattle.peer_run.specs.Works.{EarState}
use Rattle.foreman_run.specs.Lost.{IsLostFor, Seen, refusals_of}
use Rattle.foreman_run.specs.Met.{Roll, one_if, there_under}

-- what a foreman's own limits go by: whether its worker's first message came, how many bytes came
-- before that at least, and how often in a row it answered that an attempt wasn't run at most
pub record CareState : Type 0 where
  pub greeted : Bool
  pub early : ℕ
  pub refused : ℕ

-- a link to a worker: its number, what came over it and no message took, what the limits go by,
-- whether it is to be left, and whether that is for want of memory
pub record LowerState (L : Type 0) : Type 0 where
  pub link : LinkNo
  pub way : L
  pub ear : EarState
  pub care : CareState
  pub gone : Bool
  pub starved : Bool

-- a message to the worker at a link, or from it
abbrev pub over : LinkNo → Message → Down
over k m = record { link = k; message = m }

-- a key that no content has
abbrev pub no_key : Key
no_key = record { run = 18446744073709551615; file = record { 0 = 4294967295 } }

-- what is sent to a worker to see whether it is still there: it changes nothing
abbrev pub probe : Message
probe = messages.Unlink no_key

-- A message is a probe, or was to go down there.
abbrev pub Went : List Down → LinkNo → Message → Type 0
Went sent k m = (m ≡ probe) ⊎ Stands (over k m) sent

-- What passed over a link of this number, by the roll and the messages that were heard there: what was
-- sent are the frames of probes and of messages that were to go down there, and what came are the
-- frames of what was heard and the bytes left. What the limits go by is no more than what was heard.
pub record Passes (history : List Passed) (ear : EarState) (care : CareState) (k : LinkNo) (roll : Roll)
    (heard : List Message) : Type 0 where
  pub said : List Message
  pub said_framed : AreFramed said
  pub are_sent : sent_in history ≡ frames_of said
  pub went : Every (Went roll.down k) said
  pub came : IsStream (received_in history) heard ear.rest
  pub unheard : care.greeted ≡ false → heard ≡ []
  pub early : care.greeted ≡ false → care.early ≤ length ear.rest
  pub refused : care.refused ≤ refusals_of heard

-- A link of this number is lost for a cause that it shows, by the tasks that were to go down there.
abbrev pub IsLost : Roll → LinkNo → Seen → Type 0
IsLost roll k seen =
    IsLostFor (λ t. Stands (over k (messages.Task t)) roll.down) (roll.full k) seen

-- Where anything was heard over a link of this number a worker is there.
abbrev pub IsPlaced : Roll → LinkNo → List Message → Type 0
IsPlaced roll k heard = (heard ≡ []) ⊎ (1 ≤ there_under k.0 roll.workers)

-- It is so of a link that isn't to be left, and what passed over it is so where it tells; and one that
-- is to be left, but not for want of memory, is lost for a cause.
pub record IsHeld {L : Type 0} (tells : Type 0) (seen : L → Seen) (roll : Roll) (heard : List Message)
    (l : LowerState L) : Type 0 where
  pub placed : l.gone ≡ false → IsPlaced roll l.link heard
  pub passes : l.gone ≡ false → tells
      → Passes (seen l.way).history l.ear l.care l.link roll heard
  pub lost : l.gone ≡ true → l.starved ≡ false → tells → IsLost roll l.link (seen l.way)

-- those of these messages from below that came over the link of this number
abbrev pub from_link : ℕ → List Down → List Message
from_link k [] = []
from_link k (d ∷ told) =
    if d.link.0 == k then d.message ∷ from_link k told else from_link k told

-- It is so of each, by all messages from below.
abbrev pub AreHeld : {L : Type 0} → Type 0 → (L → Seen) → Roll → List Down
    → List (LowerState L) → Type 0
AreHeld tells seen roll told lowers =
    Every (λ l. IsHeld tells seen roll (from_link l.link.0 told) l) lowers

-- More was received, or nothing.
abbrev pub HearsOn : List Passed → List Passed → Type 0
HearsOn old new = (more : List ℕ) × (received_in new ≡ received_in old ++ more)

-- What came over each link begins with the frames of the messages from below that came under its number.
abbrev pub AreBegun : {L : Type 0} → Type 0 → (L → Seen) → List Down → List (LowerState L) → Type 0
AreBegun tells seen told lowers =
    tells → Every (λ l. BeginsWith (received_in (seen l.way).history) (from_link l.link.0 told)) lowers

-- how many of the links have this number
abbrev pub held_under : {L : Type 0} → ℕ → List (LowerState L) → ℕ
held_under k [] = 0
held_under k (l ∷ lowers) = one_if l.link.0 k + held_under k lowers

-- Each is honest.
abbrev pub AreHonest : {L : Type 0} → (L → Type 0) → List (LowerState L) → Type 0
AreHonest honest lowers = Every (λ l. honest l.way) lowers

-- What becomes of some links: what went down over each stays among what was to go down, and honest
-- ones stay so.
pub record Keeps {L : Type 0} (tells : Type 0) (seen : L → Seen) (honest : L → Type 0)
    (old new : List (LowerState L)) : Type 0 where
  pub held : (roll : Roll) (told : List Down) → AreHeld tells seen roll told old
      → AreHeld tells seen roll told new
  pub begun : (told : List Down) → AreBegun tells seen told old → AreBegun tells seen told new
  pub honestly : AreHonest honest old → AreHonest honest new
  pub many : length new ≡ length old
  pub under : (k : ℕ) → held_under k new ≡ held_under k old

-- The same, where messages may go down that are among these.
pub record KeepsWith {L : Type 0} (tells : Type 0) (seen : L → Seen) (honest : L → Type 0)
    (down : List Down) (old new : List (LowerState L)) : Type 0 where
  pub held : (roll : Roll) (told : List Down) → Every (λ d. Stands d roll.down) down
      → AreHeld tells seen roll told old → AreHeld tells seen roll told new
  pub begun : (told : List Down) → AreBegun tells seen told old → AreBegun tells seen told new
  pub honestly : AreHonest honest old → AreHonest honest new
  pub many : length new ≡ length old
  pub under : (k : ℕ) → held_under k new ≡ held_under k old

-- This one of the links is taken out, which is to be left.
pub record Parts {L : Type 0} (out : LowerState L) (old new : List (LowerState L)) : Type 0 where
  pub earlier : List (LowerState L)
  pub later : List (LowerState L)
  pub among : old ≡ earlier ++ (out ∷ later)
  pub others : new ≡ earlier ++ later

-- the link of a worker that has just come
abbrev pub new_lower : {L : Type 0} → LinkNo → L → LowerState L
new_lower link way = record {
  link = link;
  way = way;
  ear = record { rest = []; body = []; stop = None; fed = 0 };
  care = record { greeted = false; early = 0; refused = 0 };
  gone = false;
  starved = false;
}

-- One has come behind the others, under the next number, over which nothing has passed, and which is
-- honest where that is so.
pub record Joins {L : Type 0} (seen : L → Seen) (honest : L → Type 0) (is : Type 0)
    (number : ℕ) (old new : List (LowerState L)) : Type 0 where
  pub link : LinkNo
  pub way : L
  pub next : link.0 ≡ number + 1
  pub nothing : (seen way).history ≡ []
  pub honestly : is → honest way
  pub among : new ≡ old ++ (new_lower link way ∷ [])

-- None was given; or one was given for which there was no memory, and it was handed back under the
-- next number, or lost.
pub data Misses {L : Type 0} (seen : L → Seen) (number now : ℕ)
    (got got_now : List (Option LinkNo × L)) : Type 0 where
  none : now ≡ number → got_now ≡ got → Misses seen number now got got_now
  back : (link : LinkNo) → (way : L) → link.0 ≡ number + 1 → (seen way).history ≡ [] → now ≡ number + 1
      → got_now ≡ got ++ ((Some link, way) ∷ []) → Misses seen number now got got_now
  lost : now ≡ number + 1 → got_now ≡ got → Misses seen number now got got_now

-- One has come, as above, or none; where it failed they are the same.
abbrev pub Gains : {L E : Type 0} → (L → Seen) → (L → Type 0) → Type 0 → ℕ → ℕ
    → List (Option LinkNo × L) → List (Option LinkNo × L) → List (LowerState L)
    → List (LowerState L) → Result Bool E → Type 0
Gains seen honest is number now got got_now old new (Ok true) =
    (now ≡ number + 1) × (got_now ≡ got) × Joins seen honest is number old new
Gains seen honest is number now got got_now old new (Ok false) =
    (now ≡ number) × (got_now ≡ got) × (new ≡ old)
Gains seen honest is number now got got_now old new (Err why) =
    Misses seen number now got got_now × (new ≡ old)

-- A task of this number went down there, and contents under its keys, and its job may end so.
pub record IsAnswered (gives : Function) (may_fail : Job → Failure → Type 0) (sent : List Down)
    (k : LinkNo) (number : AttemptNo) (outcome : Outcome) : Type 0 where
  pub task : Task
  pub of_attempt : task.attempt ≡ number
  pub asked : Stands (over k (messages.Task task)) sent
  pub contents : Contents
  pub were_put : (f : ℕ) → IsTrue (contains_number f (files_of task.inputs))
      → (content : List ℕ) × (contents f ≡ Some content)
      × Stands (over k (messages.Put (key_of task.run f) content)) sent
  pub ends_so : IsHonest (given_by gives (task_job task contents))
      (may_fail (task_job task contents)) outcome

-- A result that came from below answers a task that went down to where it came from.
abbrev pub AnswersBelow : Function → (Job → Failure → Type 0) → List Down → Down → Type 0
AnswersBelow gives may_fail sent told =
    (number : AttemptNo) (outcome : Outcome) → told.message ≡ messages.Done number outcome
    → HasRun outcome → IsAnswered gives may_fail sent told.link number outcome
