-- What words say of attempts.
use Rattle.std.specs.Prelude.{◌≡◌, ◌↔◌, true, false, List, Option, Some, None, Ok, IfOk, IfSome, Result}
use Rattle.flow_types.specs.declared.numbers.AttemptNo.{AttemptNo}
use Rattle.flow_types.specs.declared.messages.Message.{Message}
use Rattle.flow_types.specs.declared.messages.Message.TheVariants as messages
use Rattle.link_session.specs.declared.open.Open.{Open}
use Rattle.link_session.specs.declared.session.Stage.TheVariants as stages
use Rattle.link_session.specs.declared.word.Word.{Word}
use Rattle.link_session.specs.declared.word.Word.TheVariants as words
use Rattle.link_session.specs.declared.word.SessionFault.{SessionFault}
use Rattle.link_session.specs.Sessions.{State, is_open, told}

-- the attempt that a word ends, where it ends one
abbrev pub ended_by_word : Word → Option AttemptNo
ended_by_word (words.Finish attempt) = Some attempt
ended_by_word (words.Fail attempt why) = Some attempt
ended_by_word (words.Lose attempt) = Some attempt
ended_by_word (words.Joined total largest cache) = None
ended_by_word (words.Changed total largest cache) = None
ended_by_word (words.PutAgain attempt files) = None
ended_by_word (words.Stale attempt) = None

-- The attempt that was ended was open, and isn't any more.
abbrev pub Closes : Option AttemptNo → List Open → List Open → Type 0
Closes ended old new =
    IfSome ended (λ attempt. (is_open attempt old ≡ true) × (is_open attempt new ≡ false))

-- The same of the word that was answered, where one was.
abbrev pub ClosesItsAttempt : Result Word SessionFault → List Open → List Open → Type 0
ClosesItsAttempt answer old new = IfOk answer (λ word. Closes (ended_by_word word) old new)

-- the attempt whose end or missing inputs a message tells
abbrev pub attempt_of : Message → Option AttemptNo
attempt_of (messages.Done attempt outcome) = Some attempt
attempt_of (messages.Missing attempt files) = Some attempt
attempt_of (messages.Hello total largest cache) = None
attempt_of (messages.Put key content) = None
attempt_of (messages.Task task) = None
attempt_of (messages.Cancel attempt) = None
attempt_of (messages.Unlink key) = None
attempt_of (messages.Totals total largest cache) = None
attempt_of messages.Bye = None

-- Stale is said exactly where the hello was heard, nothing unexpected came since, and the message
-- is about an attempt that isn't open.
abbrev pub StaleIsNotOpen : Type 0
StaleIsNotOpen =
    (s : State) (m : Message) (attempt : AttemptNo)
    → ((told s m).answer ≡ Ok (words.Stale attempt)) ↔ ((s.stage ≡ stages.Greeted)
    × (attempt_of m ≡ Some attempt) × (is_open attempt s.attempts ≡ false))
