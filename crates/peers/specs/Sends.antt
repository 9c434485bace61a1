-- What a call that sends one message does.
use Rattle.std.specs.Prelude.{◌≡◌, ◌⊎◌, ℕ, ◌+◌, Bool, true, false, List, [], ◌∷◌, ◌++◌, Option, Result, Ok, Err}
use Rattle.byteorder.specs.Endian.{big_bytes}
use Rattle.flow_types.specs.declared.job.Failure.{Failure}
use Rattle.flow_types.specs.declared.job.Job.{Job}
use Rattle.flow_types.specs.declared.job.Task.{Task}
use Rattle.flow_types.specs.declared.messages.Key.{Key}
use Rattle.flow_types.specs.declared.messages.Message.{Message}
use Rattle.flow_types.specs.Serial.{Function}
use Rattle.link_session.specs.Sessions.{State}
use Rattle.links.specs.declared.passing.Passed.{Passed}
use Rattle.links.specs.Passings.{received_in, sent_in}
use Rattle.message_forms.specs.Streams.{IsFramed, framed}
use Rattle.wq_frames.specs.Streams.{Stream}
use Rattle.wq_messages.specs.Spelling.{key_bytes}
use Rattle.peers.specs.declared.leave.Leave.{Leave}
use Rattle.peers.specs.Serves.{Serves, Stands}

-- all of a Put's frame that stands before a content of this length
abbrev pub put_head : Key → ℕ → List ℕ
put_head key n =
    big_bytes 4 (17 + n) ++ (big_bytes 1 2 ++ (key_bytes key ++ big_bytes 4 n))

-- The message went out whole at Ok, and else nothing or some first of its bytes.
abbrev pub GoesOut : {T : Type 0} → Result T Leave → Message → List Passed → List Passed → Type 0
GoesOut (Ok x) m old new = IsFramed m × (sent_in new ≡ sent_in old ++ framed m)
GoesOut (Err leave) m old new = (sent_in new ≡ sent_in old)
    ⊎ (IsFramed m × ((more : List ℕ) × (sent_in new ++ more ≡ sent_in old ++ framed m)))

-- The same; nothing was received, and what had passed stays.
pub record Sends {T : Type 0} (result : Result T Leave) (m : Message) (old new : List Passed)
    : Type 0 where
  pub further : (more : List Passed) × (new ≡ more ++ old)
  pub nothing_came : received_in new ≡ received_in old
  pub out : GoesOut result m old new

-- The peer is served with one message more said; or its link is left, and the message was said in
-- part or not at all.
abbrev pub ServesAfter : {T : Type 0} → Function → (Job → Failure → Type 0) → Message
    → List Message → List Message → Option Task → Result T Leave → List Passed → Stream → State
    → Type 0
ServesAfter gives may_fail m said heard waiting (Ok x) history feed session =
    Serves gives may_fail history feed session (said ++ m ∷ []) heard waiting
ServesAfter gives may_fail m said heard waiting (Err leave) history feed session =
    Stands history said heard ⊎ Stands history (said ++ m ∷ []) heard

-- The same where the message is only said at true, and else nothing is.
abbrev pub ServesWhere : Function → (Job → Failure → Type 0) → Message → List Message
    → List Message → Option Task → Result Bool Leave → List Passed → Stream → State → Type 0
ServesWhere gives may_fail m said heard waiting (Ok true) history feed session =
    Serves gives may_fail history feed session (said ++ m ∷ []) heard waiting
ServesWhere gives may_fail m said heard waiting (Ok false) history feed session =
    Serves gives may_fail history feed session said heard waiting
ServesWhere gives may_fail m said heard waiting (Err leave) history feed session =
    Stands history said heard ⊎ Stands history (said ++ m ∷ []) heard

-- The peer is served as before; or its link is left.
abbrev pub StaysServed : {T : Type 0} → Function → (Job → Failure → Type 0) → List Message
    → List Message → Option Task → Result T Leave → List Passed → Stream → State → Type 0
StaysServed gives may_fail said heard waiting (Ok x) history feed session =
    Serves gives may_fail history feed session said heard waiting
StaysServed gives may_fail said heard waiting (Err leave) history feed session =
    Stands history said heard
