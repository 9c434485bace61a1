-- What holds of any link between two programs, whatever its calls answer.
use Rattle.std.specs.Prelude.{◌≡◌, List, [], ℕ, Result}
use Rattle.flow_types.specs.declared.job.Failure.{Failure}
use Rattle.flow_types.specs.declared.job.Job.{Job}
use Rattle.flow_types.specs.declared.job.Outcome.{Outcome}
use Rattle.flow_types.specs.declared.job.Task.{Task}
use Rattle.flow_types.specs.declared.messages.Message.{Message}
use Rattle.flow_types.specs.declared.messages.Message.TheVariants as messages
use Rattle.flow_types.specs.Serial.{Contents, Function, given_by}
use Rattle.message_forms.specs.Streams.{framed, frames_of, IsAmong, IsFramed}
use Rattle.outside.specs.declared.fault.Fault.{Fault}
use Rattle.outside.specs.Jobs.{IsHonest}
use Rattle.links.specs.declared.passing.Got.{Got}
use Rattle.links.specs.declared.passing.Passed.{Passed}
use Rattle.links.specs.Honesty.{Answers, task_job}
use Rattle.links.specs.Passings.{received_in, Transmits, Receives}
use Rattle.links.specs.Peers.{IsAskingRight, IsRightLink, MaySay, Says}

-- A link over which nothing has passed is right.
abbrev pub NewLinksAreRight : Function → (Job → Failure → Type 0) → Type 0
NewLinksAreRight gives may_fail = IsRightLink gives may_fail [] []

-- A right link stays so over a call of recv.
abbrev pub HearingKeepsRight : Function → (Job → Failure → Type 0) → Type 0
HearingKeepsRight gives may_fail =
    (old new : List Passed) (said : List Message) (result : Result Got Fault)
    → Receives result old new
    → IsRightLink gives may_fail old said → IsRightLink gives may_fail new said

-- A right link over which a message is sent that may be said is right with one message more, or
-- was honest to its end.
abbrev pub SayingKeepsRight : Function → (Job → Failure → Type 0) → Type 0
SayingKeepsRight gives may_fail =
    (old new : List Passed) (said : List Message) (m : Message) (result : Result Unit Fault)
    → Transmits result (framed m) old new → IsRightLink gives may_fail old said → IsFramed m
    → MaySay gives may_fail (received_in old) m → Says gives may_fail m said new result

-- Where what was put is due, an answer to a task ends as the task's job over what is due.
abbrev pub AnswersAreDue : Function → (Job → Failure → Type 0) → Type 0
AnswersAreDue gives may_fail =
    (due : Contents) (sent : List ℕ) (said : List Message) (task : Task) (outcome : Outcome)
    → IsAskingRight due said
    → sent ≡ frames_of said → IsAmong (messages.Task task) said
    → Answers gives may_fail sent task.attempt outcome
    → IsHonest (given_by gives (task_job task due)) (may_fail (task_job task due)) outcome
