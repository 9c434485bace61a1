-- Why attempts at workers are lost, and how others came to their end there.
use Rattle.std.specs.Prelude.{◌≡◌, ◌≤◌, ◌<◌, ◌+◌, ◌⊎◌, ℕ, zero, suc, Bool, true, false, List, [], ◌∷◌, ◌++◌, Option, Some, None, Result, Ok, Err, IfErr, OnOk, All, length}
use Rattle.std.specs.List.{list_any}
use Rattle.flow_types.specs.declared.numbers.AttemptNo.{AttemptNo}
use Rattle.flow_types.specs.declared.numbers.LinkNo.{LinkNo}
use Rattle.flow_types.specs.declared.numbers.RuleNo.{RuleNo}
use Rattle.flow_types.specs.declared.job.Failure.{Failure}
use Rattle.flow_types.specs.declared.job.Job.{Job}
use Rattle.flow_types.specs.declared.job.Outcome.{Outcome}
use Rattle.flow_types.specs.declared.job.Outcome.TheVariants as outcomes
use Rattle.flow_types.specs.declared.messages.Message.{Message}
use Rattle.flow_types.specs.declared.records.Record.{Record}
use Rattle.flow_types.specs.declared.records.Record.TheVariants as records
use Rattle.flow_types.specs.Serial.{Function}
use Rattle.run_history.specs.declared.moves.Move.{Move}
use Rattle.run_history.specs.Links.{records_of}
use Rattle.run_history.specs.Moves.{joins_and_changes, most_joins}
use Rattle.links.specs.declared.passing.Passed.{Passed}
use Rattle.links.specs.Ill.{Account, IsIll, Misspeaks, offers_in}
use Rattle.links.specs.Passings.{received_in, sent_in}
use Rattle.flow_types.specs.declared.messages.Message.TheVariants as messages
use Rattle.message_forms.specs.Streams.{BeginsWith, Carries}
use Rattle.desk.specs.declared.attempt.Attempt.{Attempt}
use Rattle.peers.specs.declared.leave.Leave.{Leave}
use Rattle.peers.specs.declared.leave.Leave.TheVariants as leaves
use Rattle.peers.specs.declared.told.Told.{Told}
use Rattle.peers.specs.declared.told.Told.TheVariants as tell
use Rattle.peers.specs.Serves.{WasHonest}
use Rattle.peers.specs.States.{PeerState, PassesOn}
use Rattle.local_run.specs.declared.halt.Halt.{Halt}
use Rattle.local_run.specs.Links.{link_moves}
use Rattle.local_run.specs.Losses.{EndsHere, EndsIt, LosesIt, done_as, failed_as, starts_on}
use Rattle.wq_run.specs.Earned.{StatesOn}
use Rattle.wq_run.specs.Losses.{GaveBack, account_of}
use Rattle.wq_run.specs.Results.{ShowsEnd, WasTold}
use Rattle.wq_run.specs.Seats.{CompanyState, SeatState}

-- ---- links

-- The link of this number is ill, whichever others were handed back.
abbrev pub IsIllLink : {L : Type 0} → Function → (Job → Failure → Type 0) → (L → List Passed) → (L → ℕ) → (L → ℕ) → (L → Bool) → ℕ → LinkNo → L → Type 0
IsIllLink gives may_fail history count idles closed limit link way =
    (others : List Account) → IsIll limit (WasHonest gives may_fail (history way)) others (account_of history count idles closed (Some link) way)

-- What passed shows that the attempt ended so: a result was told, or it was given back.
abbrev pub ShowsOutcome : List Passed → AttemptNo → Outcome → Type 0
ShowsOutcome past number (outcomes.Success outs) = WasTold past number (outcomes.Success outs)
ShowsOutcome past number (outcomes.Failed why) = WasTold past number (outcomes.Failed why)
ShowsOutcome past number outcomes.NotRun = GaveBack (received_in past) number

-- What the next message of a peer shows: a result was told, an attempt that is lost was given back, other amounts were received, and a peer that is left has misspoken.
abbrev pub Shows : List Passed → Result Told Leave → Type 0
Shows history (Ok (tell.Changed total largest cache)) = Carries (received_in history) (messages.Totals total largest cache)
Shows history (Ok (tell.Finish attempt outs)) = WasTold history attempt (outcomes.Success outs)
Shows history (Ok (tell.Fail attempt why)) = WasTold history attempt (outcomes.Failed why)
Shows history (Ok (tell.Lose attempt)) = GaveBack (received_in history) attempt
Shows history (Ok t) = Unit {0}
Shows history (Err leaves.Memory) = Unit {0}
Shows history (Err leave) = Misspeaks (sent_in history) (received_in history)

-- the desk takes no more joins and changes
abbrev pub IsFull : List Move → Type 0
IsFull M = most_joins ≤ joins_and_changes M

-- Why a seat is left: memory was wanting, its link is ill, or the desk took no change of its amounts.
abbrev pub LeavesFor : {L : Type 0} → (LinkNo → L → Type 0) → List Move → SeatState L → Leave → Type 0
LeavesFor ill M s leaves.Memory = Unit {0}
LeavesFor ill M s leave = ill s.link s.peer.way ⊎ IsFull M

-- ---- offers

-- So many offers stand among messages that these bytes begin with.
pub record HasCome (up : List ℕ) (n : ℕ) : Type 0 where
  pub messages : List Message
  pub begins : BeginsWith up messages
  pub many : n ≡ offers_in messages

-- So many offers stand among messages of a peer that came and were taken off its feed.
pub record HasHeard {L : Type 0} (history : L → List Passed) (p : PeerState L) (n : ℕ) : Type 0 where
  pub heard : List Message
  pub begins : BeginsWith (received_in (history p.way)) heard
  pub taken : length p.feed.rest ≤ length begins.0
  pub many : n ≡ offers_in heard

-- However many were heard of the peer, as many are heard of it now.
abbrev pub StaysHeard : {L : Type 0} → (L → List Passed) → PeerState L → PeerState L → Type 0
StaysHeard history p p_now = (n : ℕ) → HasHeard history p n → HasHeard history p_now n

-- However many were heard of the peer, more are heard of it now.
abbrev pub HearsMore : {L : Type 0} → (L → List Passed) → PeerState L → PeerState L → Type 0
HearsMore history p p_now = (n : ℕ) → HasHeard history p n → (k : ℕ) × (n < k) × HasHeard history p_now k

-- Where it states other amounts, one offer more was heard.
abbrev pub HearsOffer : {L : Type 0} → (L → List Passed) → PeerState L → PeerState L → Told → Type 0
HearsOffer history p p_now (tell.Changed total largest cache) = HearsMore history p p_now
HearsOffer history p p_now t = Unit {0}

-- So many offers were heard of the peers of all these seats.
abbrev pub HeardAll : {L : Type 0} → (L → List Passed) → List (SeatState L) → ℕ → Type 0
HeardAll history [] n = n ≡ 0
HeardAll history (s ∷ seats) n = (k : ℕ) × (m : ℕ) × HasHeard history s.peer k × HeardAll history seats m × (n ≡ k + m)

-- The same, but that of the one at this place they came.
abbrev pub HeardBut : {L : Type 0} → (L → List Passed) → ℕ → List (SeatState L) → ℕ → Type 0
HeardBut history at [] n = ⊥
HeardBut history zero (s ∷ seats) n = (k : ℕ) × (m : ℕ) × HasCome (received_in (history s.peer.way)) k × HeardAll history seats m × (n ≡ k + m)
HeardBut history (suc at) (s ∷ seats) n = (k : ℕ) × (m : ℕ) × HasHeard history s.peer k × HeardBut history at seats m × (n ≡ k + m)

-- So many came over all these links.
abbrev pub CameAll : {L : Type 0} → (L → List Passed) → List (Option LinkNo × L) → ℕ → Type 0
CameAll history [] n = n ≡ 0
CameAll history (x ∷ links) n = (k : ℕ) × (m : ℕ) × HasCome (received_in (history x.1)) k × CameAll history links m × (n ≡ k + m)

-- What a call makes of the offers of a peer: where so many were heard as many more came as joins and changes were added, and where it went well they were heard.
pub record HearsOn {L A : Type 0} (history : L → List Passed) (M all : List Move) (p : PeerState L) (result : Result A Leave) (n : ℕ) : Type 0 where
  pub now : ℕ
  pub came : HasCome (received_in (history p.way)) now
  pub heard : OnOk result (HasHeard history p now)
  pub enough : joins_and_changes all + n ≤ joins_and_changes M + now

-- ---- seats

-- What a call that ends an attempt so adds.
abbrev pub EndsWith : List Move → Attempt → Outcome → List Move → Type 0
EndsWith M a (outcomes.Success outs) all = EndsIt M a (done_as a outs) all
EndsWith M a (outcomes.Failed why) all = EndsIt M a (failed_as a why) all
EndsWith M a outcomes.NotRun all = LosesIt M a all

-- If the record gives an attempt up, that was started on this link; and one that came to its end was started at the local place.
abbrev pub IsStartedOn : ℕ → List Record → Record → Type 0
IsStartedOn link all (records.Lost moment rule attempt) = list_any (starts_on link rule.0 attempt.0) all ≡ true
IsStartedOn link all (records.Done moment rule attempt rows) = list_any (starts_on 0 rule.0 attempt.0) all ≡ true
IsStartedOn link all (records.Failed moment rule attempt why) = list_any (starts_on 0 rule.0 attempt.0) all ≡ true
IsStartedOn link all _ = Unit {0}

-- If the record gives an attempt up or tells how it came to its end, that was started on this link, which shows it; or it came to its end and was started at the local place.
abbrev pub IsShownOn : List Passed → ℕ → List Record → Record → Type 0
IsShownOn past link all (records.Lost moment rule attempt) = (list_any (starts_on link rule.0 attempt.0) all ≡ true) × GaveBack (received_in past) attempt
IsShownOn past link all (records.Done moment rule attempt rows) =
    (list_any (starts_on 0 rule.0 attempt.0) all ≡ true) ⊎ ((list_any (starts_on link rule.0 attempt.0) all ≡ true) × ShowsEnd (records.Done moment rule attempt rows) past)
IsShownOn past link all (records.Failed moment rule attempt why) =
    (list_any (starts_on 0 rule.0 attempt.0) all ≡ true) ⊎ ((list_any (starts_on link rule.0 attempt.0) all ≡ true) × ShowsEnd (records.Failed moment rule attempt why) past)
IsShownOn past link all _ = Unit {0}

-- More moves stand behind these, of whose records this is so among all.
pub record AddsSo (so : List Record → Record → Type 0) (M all : List Move) : Type 0 where
  pub more : List Move
  pub are : all ≡ M ++ more
  pub each : All (so (records_of all)) (records_of more)

-- what a call that always goes well answers
abbrev pub ended : (E : Type 0) → Result (Unit {0}) E
ended E = Ok tt

-- What a call makes of a seat and of the moves: its link is the same and what passed over it stays, and where nothing stopped the run nothing had, and what ended was given back or told there. Where the seat is left then, this is why. Joins and changes were added for offers that came, and its link alone stated anything, as was received there.
pub record FaresSeat {L A : Type 0} (ill : LinkNo → L → Type 0) (history : L → List Passed) (M all : List Move) (halt halt_now : Option Halt) (s s_now : SeatState L) (result : Result A Leave) : Type 0 where
  pub link : s_now.link ≡ s.link
  pub comes : PassesOn (history s.peer.way) (history s_now.peer.way)
  pub going : halt_now ≡ None → halt ≡ None
  pub loses : halt_now ≡ None → AddsSo (IsShownOn (history s_now.peer.way) s.link.0) M all
  pub leaves : halt_now ≡ None → IfErr result (LeavesFor ill all s_now)
  pub counts : halt_now ≡ None → (n : ℕ) → HasHeard history s.peer n → HearsOn history M all s_now.peer result n
  pub states : halt_now ≡ None → StatesOn (received_in (history s_now.peer.way)) s.link.0 M all

-- A seat as a message made it by which its peer offers something else.
pub record OffersMore {L : Type 0} (history : L → List Passed) (s s_now : SeatState L) : Type 0 where
  pub link : s_now.link ≡ s.link
  pub comes : PassesOn (history s.peer.way) (history s_now.peer.way)
  pub more : HearsMore history s.peer s_now.peer

-- All that ran at a seat was given up, and nothing else was done; or the run stopped.
pub record GivesUp (link : ℕ) (M all : List Move) (halt halt_now : Option Halt) : Type 0 where
  pub going : halt_now ≡ None → halt ≡ None
  pub loses : halt_now ≡ None → AddsSo (IsStartedOn link) M all
  pub quiet : halt_now ≡ None → joins_and_changes all ≡ joins_and_changes M
  pub unlinked : halt_now ≡ None → link_moves all ≡ link_moves M

-- ---- all of them

-- The link of this number has a seat, and shows the record by which an attempt there ended.
abbrev pub IsShownAt : {L : Type 0} → (L → List Passed) → ℕ → Record → List (SeatState L) → Type 0
IsShownAt history link x [] = ⊥
IsShownAt history link x (s ∷ seats) = ((s.link.0 ≡ link) × ShowsEnd x (history s.peer.way)) ⊎ IsShownAt history link x seats

-- The link was handed back under this number, behind these that were handed back before.
abbrev pub CameBack : {L : Type 0} → List (Option LinkNo × L) → LinkNo → L → List (Option LinkNo × L) → Type 0
CameBack {L} before link way got = (between : List (Option LinkNo × L)) × (behind : List (Option LinkNo × L)) × (got ≡ before ++ (between ++ ((Some link, way) ∷ behind)))

-- A link was handed back under this number which shows the record.
pub record IsShownBack {L : Type 0} (history : L → List Passed) (before got : List (Option LinkNo × L)) (link : LinkNo) (x : Record) : Type 0 where
  pub way : L
  pub back : CameBack before link way got
  pub shown : ShowsEnd x (history way)

-- The attempt was started at the local place, or on a link which has a seat or was handed back, and shows the record by which it came to its end.
abbrev pub IsDueResult : {L : Type 0} → (L → List Passed) → List (Option LinkNo × L) → List (Option LinkNo × L) → List (SeatState L) → List Record → RuleNo → AttemptNo → Record → Type 0
IsDueResult history before got seats all rule attempt x =
    (list_any (starts_on 0 rule.0 attempt.0) all ≡ true)
    ⊎ ((link : LinkNo) × (list_any (starts_on link.0 rule.0 attempt.0) all ≡ true) × (IsShownAt history link.0 x seats ⊎ IsShownBack history before got link x))

-- A link was handed back under this number which is ill or over which the attempt was given back; or the desk takes no more joins and changes.
pub record IsDueBack {L : Type 0} (ill : LinkNo → L → Type 0) (history : L → List Passed) (before got : List (Option LinkNo × L)) (full : Type 0) (link : LinkNo) (number : AttemptNo) : Type 0 where
  pub way : L
  pub back : CameBack before link way got
  pub cause : ill link way ⊎ GaveBack (received_in (history way)) number ⊎ full

-- If the record gives an attempt up, it was given back over the link on which it was started, or that was handed back for cause; and how one came to its end is told by the link on which it was started, or it was started at the local place.
abbrev pub IsDueLoss : {L : Type 0} → (LinkNo → L → Type 0) → (L → List Passed) → List (Option LinkNo × L) → List (Option LinkNo × L) → List (SeatState L) → Type 0 → List Record → Record → Type 0
IsDueLoss ill history before got seats full all (records.Lost moment rule attempt) =
    (link : LinkNo) × (list_any (starts_on link.0 rule.0 attempt.0) all ≡ true)
    × (IsShownAt history link.0 (records.Lost moment rule attempt) seats ⊎ IsDueBack ill history before got full link attempt)
IsDueLoss ill history before got seats full all (records.Done moment rule attempt rows) = IsDueResult history before got seats all rule attempt (records.Done moment rule attempt rows)
IsDueLoss ill history before got seats full all (records.Failed moment rule attempt why) = IsDueResult history before got seats all rule attempt (records.Failed moment rule attempt why)
IsDueLoss ill history before got seats full all _ = Unit {0}

-- More moves stand behind these, and each attempt that they give up or that came to its end by them is due by these seats and links.
abbrev pub LosesDuly : {L : Type 0} → (LinkNo → L → Type 0) → (L → List Passed) → List (Option LinkNo × L) → List (Option LinkNo × L) → List (SeatState L) → List Move → List Move → Type 0
LosesDuly ill history before got seats M all = AddsSo (IsDueLoss ill history before got seats (IsFull all)) M all

-- These were handed back behind those.
abbrev pub IsBehind : {L : Type 0} → List (Option LinkNo × L) → List (Option LinkNo × L) → Type 0
IsBehind {L} before got = (more : List (Option LinkNo × L)) × (got ≡ before ++ more)

-- More links were handed back, and at least as many offers came, over these and as is told of the seats, as joins and changes were made.
pub record IsCounted {L : Type 0} (history : L → List Passed) (at_seats : ℕ → Type 0) (before got : List (Option LinkNo × L)) (M all : List Move) : Type 0 where
  pub behind : IsBehind before got
  pub heard : ℕ
  pub are : at_seats heard
  pub came : ℕ
  pub back : CameAll history behind.0 came
  pub enough : joins_and_changes all ≤ joins_and_changes M + (heard + came)

-- Both where nothing stopped the run, the place where peers come didn't fail and no link was lost.
abbrev pub AreDueBy : {L : Type 0} → (LinkNo → L → Type 0) → (L → List Passed) → (ℕ → Type 0) → List (Option LinkNo × L) → List Move → List Move → Option Halt → CompanyState L → List (Option LinkNo × L) → Type 0
AreDueBy ill history at_seats before M all halt c got =
    halt ≡ None → c.failed ≡ false → c.lost ≡ false → IsCounted history at_seats before got M all × LosesDuly ill history before got c.seats M all

-- The same, with the offers that were heard of all seats.
abbrev pub AreDue : {L : Type 0} → (LinkNo → L → Type 0) → (L → List Passed) → List (Option LinkNo × L) → List Move → List Move → Option Halt → CompanyState L → List (Option LinkNo × L) → Type 0
AreDue ill history before M all halt c got = AreDueBy ill history (HeardAll history c.seats) before M all halt c got

-- The same where the seat at this place is to be left, of which they came.
abbrev pub AreDueBut : {L : Type 0} → (LinkNo → L → Type 0) → (L → List Passed) → ℕ → List (Option LinkNo × L) → List Move → List Move → Option Halt → CompanyState L → List (Option LinkNo × L) → Type 0
AreDueBut ill history at before M all halt c got = AreDueBy ill history (HeardBut history at c.seats) before M all halt c got

-- Whatever ended by then, it is due as before, and so is what ended since.
pub record KeepsDue {L : Type 0} (ill : LinkNo → L → Type 0) (history : L → List Passed) (moves moves_now : List Move) (halt halt_now : Option Halt) (c c_now : CompanyState L) (got got_now : List (Option LinkNo × L)) : Type 0 where
  pub goes : (before : List (Option LinkNo × L)) (M : List Move) → AreDue ill history before M moves halt c got → AreDue ill history before M moves_now halt_now c_now got_now

-- The same, from where the seat at this place is to be left.
pub record KeepsDueBut {L : Type 0} (ill : LinkNo → L → Type 0) (history : L → List Passed) (at : ℕ) (moves moves_now : List Move) (halt halt_now : Option Halt) (c c_now : CompanyState L) (got got_now : List (Option LinkNo × L)) : Type 0 where
  pub goes : (before : List (Option LinkNo × L)) (M : List Move) → AreDueBut ill history at before M moves halt c got → AreDue ill history before M moves_now halt_now c_now got_now

-- The seat at this place may be left: its link is ill, or the desk takes no more changes.
abbrev pub MayLeaveAt : {L : Type 0} → (LinkNo → L → Type 0) → List Move → ℕ → List (SeatState L) → Type 0
MayLeaveAt {L} ill M at seats = (before : List (SeatState L)) × (s : SeatState L) × (behind : List (SeatState L)) × (seats ≡ before ++ (s ∷ behind)) × (length before ≡ at) × (ill s.link s.peer.way ⊎ IsFull M)

-- Why the seat at this place is left.
abbrev pub LeavesAt : {L : Type 0} → (LinkNo → L → Type 0) → List Move → ℕ → List (SeatState L) → Leave → Type 0
LeavesAt ill M at seats leaves.Memory = Unit {0}
LeavesAt ill M at seats leave = MayLeaveAt ill M at seats

-- A call at the seat at this place makes of what is due that it is to be left.
pub record LeavesDuly {L : Type 0} (ill : LinkNo → L → Type 0) (history : L → List Passed) (at : ℕ) (M all : List Move) (halt halt_now : Option Halt) (c c_now : CompanyState L) (leave : Leave) : Type 0 where
  pub goes : (got before : List (Option LinkNo × L)) (first : List Move) → AreDue ill history before first M halt c got → AreDueBut ill history at before first all halt_now c_now got
  pub leaves : halt_now ≡ None → LeavesAt ill all at c_now.seats leave

-- What a call at the seat at this place makes of what is due.
abbrev pub DuesAt : {L A : Type 0} → (LinkNo → L → Type 0) → (L → List Passed) → ℕ → List Move → List Move → Option Halt → Option Halt → CompanyState L → CompanyState L → Result A Leave → Type 0
DuesAt {L} ill history at M all halt halt_now c c_now (Ok x) = (got : List (Option LinkNo × L)) → KeepsDue ill history M all halt halt_now c c_now got got
DuesAt ill history at M all halt halt_now c c_now (Err leave) = LeavesDuly ill history at M all halt halt_now c c_now leave

-- whether a link was lost for want of memory, once one is left for this
abbrev pub left_lost : Leave → Bool → Bool
left_lost leaves.Memory lost = true
left_lost leave lost = lost
