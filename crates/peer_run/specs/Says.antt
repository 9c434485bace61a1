-- What a peer says in one go.
use Rattle.std.specs.Prelude.{◌≡◌, ◌≤◌, ℕ, List, [], ◌∷◌, ◌++◌, length, Result, Ok, Err}
use Rattle.flow_types.specs.declared.job.Failure.{Failure}
use Rattle.flow_types.specs.declared.job.Job.{Job}
use Rattle.flow_types.specs.declared.messages.Message.{Message}
use Rattle.flow_types.specs.Serial.{Function}
use Rattle.links.specs.Honesty.{IsHonestThroughout}
use Rattle.links.specs.Passings.{received_in, sent_in}
use Rattle.links.specs.Peers.{IsRightLink}
use Rattle.links.specs.declared.passing.Passed.{Passed}
use Rattle.message_forms.specs.Streams.{frames_of}
use Rattle.outside.specs.declared.fault.Fault.{Fault}
use Rattle.wq_messages.specs.Spelling.{HasCounts, most_body, spelling}

-- It can be written in one frame.
abbrev pub CanBeTold : Message → Type 0
CanBeTold m = HasCounts m × (length (spelling m) ≤ most_body)

-- each of them has the fact
abbrev pub Each : (Message → Type 0) → List Message → Type 0
Each fact [] = Unit {0}
Each fact (m ∷ ms) = fact m × Each fact ms

-- At Ok their frames went out, and else a beginning of these; nothing came.
abbrev pub SendsAll : {T : Type 0} → Result T Fault → List Message → List Passed → List Passed → Type 0
SendsAll (Ok x) ms old new = (received_in new ≡ received_in old) × (sent_in new ≡ sent_in old ++ frames_of ms)
SendsAll (Err fault) ms old new =
    (received_in new ≡ received_in old) × ((more : List ℕ) × (sent_in new ++ more ≡ sent_in old ++ frames_of ms))

-- The link is right with these messages more, or was honest to its end.
abbrev pub SaysAll : {T : Type 0} → Function → (Job → Failure → Type 0) → List Message
    → List Message → List Passed → Result T Fault → Type 0
SaysAll gives may_fail ms said history (Ok x) = IsRightLink gives may_fail history (said ++ ms)
SaysAll gives may_fail ms said history (Err fault) =
    IsHonestThroughout gives may_fail received_in sent_in history
