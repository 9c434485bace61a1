-- A link seen from the peer's end: what came down is received, and what goes up is sent.
use Rattle.std.specs.Prelude.{◌≡◌, List, [], ◌∷◌, ◌++◌, Some, Result, Ok, Err, ℕ}
use Rattle.flow_types.specs.declared.job.Job.{Job}
use Rattle.flow_types.specs.declared.job.Failure.{Failure}
use Rattle.flow_types.specs.declared.job.Outcome.{Outcome}
use Rattle.flow_types.specs.declared.numbers.AttemptNo.{AttemptNo}
use Rattle.flow_types.specs.declared.messages.Message.{Message}
use Rattle.flow_types.specs.declared.messages.Message.TheVariants as messages
use Rattle.flow_types.specs.declared.job.Task.{Task}
use Rattle.flow_types.specs.declared.messages.Key.{Key}
use Rattle.flow_types.specs.Serial.{Contents, Function}
use Rattle.message_forms.specs.Streams.{AreFramed, IsAmong, frames_of}
use Rattle.outside.specs.declared.fault.Fault.{Fault}
use Rattle.links.specs.declared.passing.Passed.{Passed}
use Rattle.links.specs.Honesty.{HasRun, Answers, IsHonestThroughout}
use Rattle.links.specs.Passings.{sent_in, received_in}

-- Of the messages that were said, each result answers a task among these bytes.
pub record IsRight (gives : Function) (may_fail : Job → Failure → Type 0) (down : List ℕ)
    (said : List Message) : Type 0 where
  pub framed_all : AreFramed said
  pub answers : (attempt : AttemptNo) (outcome : Outcome)
      → IsAmong (messages.Done attempt outcome) said → HasRun outcome
      → Answers gives may_fail down attempt outcome

-- what may be said next: anything but a result, or a result that answers
abbrev pub MaySay : Function → (Job → Failure → Type 0) → List ℕ → Message → Type 0
MaySay gives may_fail down m =
    (attempt : AttemptNo) (outcome : Outcome) → m ≡ messages.Done attempt outcome → HasRun outcome
    → Answers gives may_fail down attempt outcome

-- These messages were said, whole, and no result of them came before its task.
pub record IsRightLink (gives : Function) (may_fail : Job → Failure → Type 0)
    (history : List Passed) (said : List Message) : Type 0 where
  pub right : IsRight gives may_fail (received_in history) said
  pub are_sent : sent_in history ≡ frames_of said
  pub honest : IsHonestThroughout gives may_fail received_in sent_in history

-- One message more was said; or it was cut short, and the link has been honest all the same.
abbrev pub Says : {T : Type 0} → Function → (Job → Failure → Type 0) → Message → List Message
    → List Passed → Result T Fault → Type 0
Says gives may_fail m said history (Ok x) = IsRightLink gives may_fail history (said ++ m ∷ [])
Says gives may_fail m said history (Err fault) =
    IsHonestThroughout gives may_fail received_in sent_in history

-- The master's end: of what was said, tasks of one attempt are one, and each content is the one
-- that is due for its file.
pub record IsAskingRight (due : Contents) (said : List Message) : Type 0 where
  pub framed_all : AreFramed said
  pub one_task : (t u : Task) → IsAmong (messages.Task t) said → IsAmong (messages.Task u) said
      → t.attempt ≡ u.attempt → t ≡ u
  pub due_content : (key : Key) (content : List ℕ) → IsAmong (messages.Put key content) said
      → due key.file.0 ≡ Some content
