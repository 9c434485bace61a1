-- What is said in one go.
use Rattle.std.specs.Prelude.{◌≡◌, ◌+◌, ◌++◌, ◌∷◌, [], ℕ, List, Result, Ok, Err}
use Rattle.byteorder.specs.Endian.{big_bytes}
use Rattle.flow_types.specs.declared.job.Failure.{Failure}
use Rattle.flow_types.specs.declared.job.Job.{Job}
use Rattle.flow_types.specs.declared.numbers.AttemptNo.{AttemptNo}
use Rattle.flow_types.specs.declared.messages.Message.{Message}
use Rattle.flow_types.specs.Serial.{Function}
use Rattle.links.specs.Honesty.{IsHonestThroughout}
use Rattle.links.specs.Peers.{IsRight, IsRightLink, MaySay, Says}
use Rattle.message_forms.specs.Streams.{frames_of}
use Rattle.outside.specs.declared.fault.Fault.{Fault}
use Rattle.foreman_core.specs.declared.acts.Down.{Down}
use Rattle.foreman_core.specs.Members.{Every}
use Rattle.links.specs.declared.passing.Passed.{Passed}
use Rattle.links.specs.Passings.{received_in, sent_in}
use Rattle.peer_run.specs.Says.{CanBeTold, SendsAll}

-- Each can be told.
abbrev pub CanGoDown : List Down → Type 0
CanGoDown down = Every (λ d. CanBeTold d.message) down

-- These bytes were sent, and nothing was received.
abbrev pub Adds : List ℕ → List Passed → List Passed → Type 0
Adds bytes old new = (sent_in new ≡ sent_in old ++ bytes) × (received_in new ≡ received_in old)

-- Of these bytes, which were to have gone out by the end since a history, these are left: nothing came
-- meanwhile, and where they are the frames of right messages the link has been honest all the time.
pub record IsSaying (gives : Function) (may_fail : Job → Failure → Type 0) (first : List Passed)
    (whole left : List ℕ) (history : List Passed) : Type 0 where
  pub received : received_in history ≡ received_in first
  pub begun : sent_in history ++ left ≡ whole
  pub honest : (all : List Message) → IsRight gives may_fail (received_in first) all
      → frames_of all ≡ whole → IsHonestThroughout gives may_fail received_in sent_in first
      → IsHonestThroughout gives may_fail received_in sent_in history

-- At Ok these bytes are left, and else some.
abbrev pub IsSayingBy : {T : Type 0} → Function → (Job → Failure → Type 0) → List Passed → List ℕ
    → (T → List ℕ) → List Passed → Result T Fault → Type 0
IsSayingBy gives may_fail first whole left history (Ok x) =
    IsSaying gives may_fail first whole (left x) history
IsSayingBy gives may_fail first whole left history (Err fault) =
    (rest : List ℕ) × IsSaying gives may_fail first whole rest history

-- What a call does that says one message: it is said as a right link says it, and it goes out, whole or
-- in part.
pub record SaysOne (gives : Function) (may_fail : Job → Failure → Type 0) (tells : Type 0)
    (m : Message) (old new : List Passed) (result : Result (Unit {0}) Fault) : Type 0 where
  pub said : (said : List Message) → tells → IsRightLink gives may_fail old said
      → MaySay gives may_fail (received_in old) m → Says gives may_fail m said new result
  pub sent : tells → SendsAll result (m ∷ []) old new

-- all of a success's frame that stands before its contents, which are so many and take so many bytes
abbrev pub result_head : AttemptNo → ℕ → ℕ → List ℕ
result_head attempt many size =
    big_bytes 4 (14 + size)
    ++ (big_bytes 1 4 ++ (big_bytes 8 attempt.0 ++ (big_bytes 1 0 ++ big_bytes 4 many)))
