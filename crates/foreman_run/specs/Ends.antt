-- How a foreman leaves its link to its parent.
use Rattle.std.specs.Prelude.{◌≡◌, ◌<◌, ℕ, Bool, true, false, List, ◌++◌, ◌+◌, length, Option, Result, Ok, Err}
use Rattle.flow_types.specs.declared.job.Failure.{Failure}
use Rattle.flow_types.specs.declared.job.Job.{Job}
use Rattle.flow_types.specs.Serial.{Function}
use Rattle.foreman_core.specs.Members.{Every}
use Rattle.links.specs.Honesty.{IsHonestThroughout}
use Rattle.links.specs.Passings.{received_in, sent_in}
use Rattle.message_forms.specs.Streams.{BeginsWith, IsFramed, IsStream, frames_of}
use Rattle.wq_frames.specs.Frames.{front, part}
use Rattle.peer_run.specs.declared.halt.Halt.TheVariants.{Bye, Closed, Link, Bad, Memory}
use Rattle.peer_run.specs.Ends.{IsAmiss}
use Rattle.peer_run.specs.Works.{Way}
use Rattle.foreman_run.specs.declared.stop.Stop.{Stop}
use Rattle.foreman_run.specs.declared.stop.Stop.TheVariants.{Left, Hall}
use Rattle.flow_types.specs.declared.numbers.LinkNo.{LinkNo}
use Rattle.foreman_run.specs.Lost.{Seen}
use Rattle.foreman_run.specs.Lowers.{LowerState}
use Rattle.foreman_run.specs.Tied.{AreTied, Book, with_hall}
use Rattle.foreman_run.specs.Met.{Met, AreInOrder, has_left, heard_of, said_of, told_of}

-- How a foreman with such a cache is found once nothing more passes over the link to its parent: what
-- it met is in order, what came from above came over the link, what it sent begins what it says by
-- that, and where its workers' links are trusted to be honest this link is.
pub record IsFound (gives : Function) (may_fail : Job → Failure → Type 0) (tells : Type 0)
    (trusted : Bool) (cap : ℕ) (way : Way) (past : List Met) : Type 0 where
  pub in_order : AreInOrder past
  pub told_framed : Every (λ told. IsFramed told.message) (told_of past)
  pub came : tells → BeginsWith (received_in way.history) (heard_of past)
  pub sent : tells → (more : List ℕ) × (sent_in way.history ++ more ≡ frames_of (said_of cap past))
  pub right : tells → (trusted ≡ true) → IsHonestThroughout gives may_fail received_in sent_in way.history

-- Why a foreman that has met this may stop, whose link to its parent is so and had this count of faults
-- first. Where it was told that the work is over, all that it says was sent.
abbrev pub MayStop : Type 0 → ℕ → ℕ → Way → List Met → Stop → Type 0
MayStop tells cap faults way past (Left Bye) =
    (has_left past ≡ true) × (way.closed ≡ false)
    × (tells → sent_in way.history ≡ frames_of (said_of cap past))
MayStop tells cap faults way past (Left Closed) =
    (has_left past ≡ false) × (way.closed ≡ true)
    × (tells → (rest : List ℕ) × (front rest ≡ part) × IsStream (received_in way.history) (heard_of past) rest)
MayStop tells cap faults way past (Left Link) =
    (has_left past ≡ false) × (way.closed ≡ false) × (faults < way.faults)
MayStop tells cap faults way past (Left (Bad at)) =
    (has_left past ≡ false) × (way.closed ≡ false) × (at ≡ length (frames_of (heard_of past)))
    × (tells → (rest : List ℕ) × IsAmiss rest × IsStream (received_in way.history) (heard_of past) rest)
MayStop tells cap faults way past (Left Memory) = way.closed ≡ false
MayStop tells cap faults way past Hall = (has_left past ≡ false) × (way.closed ≡ false)

-- A foreman with such a cache has stopped, and why.
pub record Stops (gives : Function) (may_fail : Job → Failure → Type 0) (tells : Type 0)
    (trusted : Bool) (cap faults : ℕ) (way : Way) (stop : Stop) : Type 0 where
  pub past : List Met
  pub found : IsFound gives may_fail tells trusted cap way past
  pub why : MayStop tells cap faults way past stop

-- The same, and what it met of its workers came over the links that are held or were handed back.
pub record StopsAt {L : Type 0} (gives : Function) (may_fail : Job → Failure → Type 0)
    (tells : Type 0) (trusted : Bool) (below_tells : Type 0) (seen : L → Seen) (cap : ℕ)
    (book : Book L) (way : Way) (lowers : List (LowerState L)) (stop : Stop) : Type 0 where
  pub stops : Stops gives may_fail tells trusted cap book.faults way stop
  pub tied : AreTied below_tells seen cap stops.past lowers book

-- It stopped so, once so many links had a number, which are those that the hall gave.
pub record StopsOver {L : Type 0} (gives : Function) (may_fail : Job → Failure → Type 0)
    (tells : Type 0) (trusted : Bool) (below_tells : Type 0) (seen : L → Seen) (cap : ℕ)
    (book : Book L) (got : List (Option LinkNo × L)) (given given_now : ℕ) (way : Way)
    (lowers : List (LowerState L)) (stop : Stop) : Type 0 where
  pub upto : ℕ
  pub counted : upto + given ≡ given_now
  pub stops_at : StopsAt gives may_fail tells trusted below_tells seen cap
      (with_hall book got upto) way lowers stop

-- A foreman goes on, or has stopped.
abbrev pub Goes : {T : Type 0} → Result T Stop → (T → Type 0) → (Stop → Type 0) → Type 0
Goes (Ok x) works stops = works x
Goes (Err stop) works stops = stops stop

-- It isn't the hall that made it stop.
abbrev pub LeavesParent : {T : Type 0} → Result T Stop → Type 0
LeavesParent (Ok x) = Unit {0}
LeavesParent (Err (Left halt)) = Unit {0}
LeavesParent (Err Hall) = ⊥

-- It is the hall or want of memory that made it stop.
abbrev pub LeavesHall : {T : Type 0} → Result T Stop → Type 0
LeavesHall (Ok x) = Unit {0}
LeavesHall (Err Hall) = Unit {0}
LeavesHall (Err (Left Memory)) = Unit {0}
LeavesHall (Err (Left halt)) = ⊥

-- The link to its parent failed or memory was wanting.
abbrev pub FailsBy : ℕ → Way → Stop → Type 0
FailsBy faults way (Left Link) = faults < way.faults
FailsBy faults way (Left Memory) = Unit {0}
FailsBy faults way _ = ⊥

-- why it stops where a link couldn't be handed back: after the end of the work memory was wanting
abbrev pub stop_by : Bool → Stop → Stop
stop_by true stop = stop
stop_by false (Left Bye) = Left Memory
stop_by false stop = stop
