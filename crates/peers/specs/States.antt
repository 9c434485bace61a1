-- What a peer is to a contract, and what a call leaves of its link.
use Rattle.std.specs.Prelude.{◌≡◌, ◌≤◌, ◌<◌, ◌+◌, ◌-◌, ◌^◌, ℕ, Bool, true, List, [], ◌++◌, Result, IfErr, OnOk}
use Rattle.flow_types.specs.declared.messages.Key.{Key}
use Rattle.flow_types.specs.declared.numbers.Amounts.{Amounts}
use Rattle.links.specs.declared.passing.Passed.{Passed}
use Rattle.links.specs.Honesty.{OwesNothing}
use Rattle.links.specs.Passings.{received_in, sent_in}
use Rattle.link_session.specs.Sessions.{State}
use Rattle.link_session.specs.declared.session.Stage.TheVariants as stages
use Rattle.wq_frames.specs.Streams.{Stream, at_rest}
use Rattle.peers.specs.declared.leave.Leave.{Leave}
use Rattle.peers.specs.declared.leave.Leave.TheVariants.{Closed, Failed, Bad, Unexpected, Memory}
use Rattle.peers.specs.declared.told.Listened.{Listened}
use Rattle.peers.specs.declared.told.Listened.TheVariants.{Piece, Idle}

-- Its link, the bytes that came and that no message took, and the session.
pub record PeerState (L : Type 0) : Type 0 where
  pub way : L
  pub feed : Stream
  pub session : State

-- a session of this run in which nothing was sent and nothing heard
abbrev pub new_session : ℕ → State
new_session run = record { run = run; stage = stages.New; known = []; attempts = [] }

-- a peer at this link, from which nothing came
abbrev pub new_peer : {L : Type 0} → L → ℕ → PeerState L
new_peer way run = record { way = way; feed = at_rest [] []; session = new_session run }

-- a key that no content has, since no flow has so many files
abbrev pub no_key : Key
no_key = record { run = 2 ^ 64 - 1; file = record { 0 = 2 ^ 32 - 1 } }

-- What is promised of a link goes on over a call.
pub record GoesOn {L : Type 0} (honest sure : L → Type 0) (offers : L → Amounts → Type 0)
    (old new : L) : Type 0 where
  pub honestly : honest old → honest new
  pub surely : sure old → sure new
  pub offering : (amounts : Amounts) → offers old amounts → offers new amounts

-- What passed stays: more may have been received behind it, and more been sent.
abbrev pub PassesOn : List Passed → List Passed → Type 0
PassesOn old new = (more : List ℕ) × (received_in new ≡ received_in old ++ more)
    × ((out : List ℕ) × (sent_in new ≡ sent_in old ++ out))

-- why a call that sends may leave its link: the link failed in it, or memory was wanting
abbrev pub FailsAs : ℕ → ℕ → Leave → Type 0
FailsAs before now Failed = before < now
FailsAs before now Memory = Unit {0}
FailsAs before now Closed = ⊥
FailsAs before now Bad = ⊥
FailsAs before now Unexpected = ⊥

-- A count of faults never falls, and a call that sends leaves only as above.
pub record MaySend {T : Type 0} (before now : ℕ) (result : Result T Leave) : Type 0 where
  pub later : before ≤ now
  pub fails : IfErr result (FailsAs before now)

-- why a call that waits for bytes may leave its link: it is closed by now, the link failed in it, or
-- memory was wanting
abbrev pub LeavesAs : Bool → ℕ → ℕ → Leave → Type 0
LeavesAs closed before now Closed = closed ≡ true
LeavesAs closed before now Failed = before < now
LeavesAs closed before now Memory = Unit {0}
LeavesAs closed before now Bad = ⊥
LeavesAs closed before now Unexpected = ⊥

-- A count of faults never falls, and a call that waits for bytes leaves only as above. Where it
-- doesn't leave, the link isn't closed in it.
pub record MayListen {T : Type 0} (closed_before closed_now : Bool) (before now : ℕ)
    (result : Result T Leave) : Type 0 where
  pub later : before ≤ now
  pub leaves : IfErr result (LeavesAs closed_now before now)
  pub stays : OnOk result (closed_now ≡ closed_before)

-- What came of waiting for bytes, by the count of idle answers since bytes last passed. Nothing
-- changes of what came where nothing comes.
abbrev pub Rests : ℕ → ℕ → Stream → Stream → Listened → Type 0
Rests before now old new Piece = (now ≡ 0)
Rests before now old new (Idle idles) = (now ≡ before + 1) × (idles ≡ now) × (new ≡ old)

-- Where nothing came for a while, nothing is owed.
abbrev pub Settled : List Passed → Listened → Type 0
Settled history Piece = Unit {0}
Settled history (Idle idles) = OwesNothing (sent_in history) (received_in history)

-- A link that is sure is left for want of memory alone.
abbrev pub OnlyMemory : {T : Type 0} → Result T Leave → Type 0
OnlyMemory result = IfErr result (λ leave. leave ≡ Memory)
