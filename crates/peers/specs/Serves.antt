-- A peer by what was said to it and what was heard of it.
use Rattle.std.specs.Prelude.{◌≡◌, ◌≤◌, ◌⊎◌, ℕ, ◌+◌, ◌==◌, if◌then◌else◌, List, [], ◌∷◌, ◌++◌, map, Option, Some, None}
use Rattle.std.specs.List.{AllByRecursion}
use Rattle.flow_types.specs.declared.job.Failure.{Failure}
use Rattle.flow_types.specs.declared.job.Job.{Job}
use Rattle.flow_types.specs.declared.job.Outcome.{Outcome}
use Rattle.flow_types.specs.declared.job.Task.{Task}
use Rattle.flow_types.specs.declared.messages.Message.{Message}
use Rattle.flow_types.specs.declared.messages.Message.TheVariants as messages
use Rattle.flow_types.specs.declared.numbers.AttemptNo.{AttemptNo}
use Rattle.flow_types.specs.declared.messages.Key.{Key}
use Rattle.flow_types.specs.Serial.{Contents, Function}
use Rattle.link_session.specs.declared.open.Open.{Open}
use Rattle.link_session.specs.declared.session.Stage.{Stage}
use Rattle.link_session.specs.declared.session.Stage.TheVariants as stages
use Rattle.link_session.specs.Sessions.{State}
use Rattle.links.specs.declared.passing.Passed.{Passed}
use Rattle.links.specs.Honesty.{HasRun, IsHonestThroughout, IsOrderly, OwesNothing}
use Rattle.links.specs.Ill.{IsHello, IsUnanswered}
use Rattle.links.specs.Passings.{received_in, sent_in}
use Rattle.message_forms.specs.Streams.{AreFramed, BeginsWith, Carries, IsAmong, IsStream, frames_of}
use Rattle.wq_frames.specs.Streams.{Stream}

-- No result came at any moment that doesn't answer a task that was sent before.
abbrev pub WasHonest : Function → (Job → Failure → Type 0) → List Passed → Type 0
WasHonest gives may_fail history =
    IsHonestThroughout gives may_fail sent_in received_in history

-- The task was said, or it waits to be said.
abbrev pub IsBooked : List Message → Option Task → Task → Type 0
IsBooked said waiting t = IsAmong (messages.Task t) said ⊎ (waiting ≡ Some t)

-- how often these messages say that inputs of the attempt are missing
abbrev pub missings_of : AttemptNo → List Message → ℕ
missings_of attempt [] = 0
missings_of attempt (messages.Missing other files ∷ ms) =
    (if other.0 == attempt.0 then 1 else 0) + missings_of attempt ms
missings_of attempt (_ ∷ ms) = missings_of attempt ms

-- An open attempt is that of a task that was said or waits to be, was not cancelled, lacked its
-- inputs no more often than was heard, and where the link was honest no result of it was heard.
pub record IsServed (gives : Function) (may_fail : Job → Failure → Type 0) (history : List Passed)
    (said heard : List Message) (waiting : Option Task) (o : Open) : Type 0 where
  pub task : Task
  pub booked : IsBooked said waiting task
  pub attempt : o.attempt ≡ task.attempt
  pub run : o.run ≡ task.run
  pub files : o.files ≡ map (λ port. port.file) task.inputs
  pub bounds : o.bounds ≡ map (λ want. want.bound) task.outputs
  pub kept : IsAmong (messages.Cancel o.attempt) said → ⊥
  pub misses : o.misses ≤ missings_of o.attempt heard
  pub unanswered : WasHonest gives may_fail history → (outcome : Outcome)
      → IsAmong (messages.Done o.attempt outcome) heard → HasRun outcome → ⊥

-- The session has greeted exactly where a hello was heard first.
abbrev pub HasGreeted : Stage → List Message → Type 0
HasGreeted stages.New heard = heard ≡ []
HasGreeted stages.Greeted heard =
    (hello : Message) × (between : List Message) × IsHello hello × (heard ≡ hello ∷ between)
HasGreeted stages.Broken heard = ⊥

-- All that was sent are the frames of these messages said, and all that came are those of these
-- messages heard and a rest. Tasks of one attempt are one, only theirs are cancelled, and each open
-- attempt is served. One opened task may wait to be said.
pub record Serves (gives : Function) (may_fail : Job → Failure → Type 0) (history : List Passed)
    (feed : Stream) (session : State) (said heard : List Message) (waiting : Option Task)
    : Type 0 where
  pub said_framed : AreFramed said
  pub sent : sent_in history ≡ frames_of said
  pub came : IsStream (received_in history) heard feed.rest
  pub going : feed.stop ≡ None
  pub greeted : HasGreeted session.stage heard
  pub one_task : (t u : Task) → IsBooked said waiting t → IsBooked said waiting u
      → t.attempt ≡ u.attempt → t ≡ u
  pub cancelled : (attempt : AttemptNo) → IsAmong (messages.Cancel attempt) said
      → (t : Task) × IsBooked said waiting t × (t.attempt ≡ attempt)
  pub served :
      AllByRecursion (IsServed gives may_fail history said heard waiting) session.attempts

-- How a peer is found once its link is left: what was sent begins the frames of these messages said,
-- and what came begins with these messages heard.
pub record Stands (history : List Passed) (said heard : List Message) : Type 0 where
  pub said_framed : AreFramed said
  pub sent : (more : List ℕ) × (sent_in history ++ more ≡ frames_of said)
  pub came : BeginsWith (received_in history) heard

-- No task of the attempt was said.
abbrev pub IsNew : AttemptNo → List Message → Type 0
IsNew attempt said = (t : Task) → IsAmong (messages.Task t) said → t.attempt ≡ attempt → ⊥

-- An attempt was sent and not cancelled, and where the link was honest no result of it came.
abbrev pub IsStillOwed : Function → (Job → Failure → Type 0) → List Passed → AttemptNo → Type 0
IsStillOwed gives may_fail history attempt =
    (u : IsUnanswered (WasHonest gives may_fail history) (sent_in history) (received_in history))
    × (u.task.attempt ≡ attempt)

-- Each content that was put is the one that is due for its file.
abbrev pub AreDue : Contents → List Message → Type 0
AreDue due said = (key : Key) (content : List ℕ) → IsAmong (messages.Put key content) said
    → due key.file.0 ≡ Some content

-- A content that is put is the one that is due; nothing is asked of another message.
abbrev pub IsDueSay : Contents → Message → Type 0
IsDueSay due (messages.Put key content) = due key.file.0 ≡ Some content
IsDueSay due _ = Unit {0}

-- What was put stays due where one message more is said that may be.
abbrev pub DueStaysDue : Type 0
DueStaysDue = (due : Contents) (said : List Message) (m : Message)
    → AreDue due said → IsDueSay due m → AreDue due (said ++ m ∷ [])

-- What came over an honest link is in order, and nothing is owed there, as where a sure one is idle.
pub record IsSettled (gives : Function) (may_fail : Job → Failure → Type 0)
    (history : List Passed) : Type 0 where
  pub honest : WasHonest gives may_fail history
  pub orderly : IsOrderly (sent_in history) (received_in history)
  pub owes_nothing : OwesNothing (sent_in history) (received_in history)

-- What was said went out, and what was heard came.
abbrev pub WhatIsSaidWentOut : Function → (Job → Failure → Type 0) → Type 0
WhatIsSaidWentOut gives may_fail = (history : List Passed) (feed : Stream) (session : State)
    (said heard : List Message) (waiting : Option Task) (m : Message)
    → Serves gives may_fail history feed session said heard waiting
    → (IsAmong m said → Carries (sent_in history) m)
    × (IsAmong m heard → Carries (received_in history) m)
