-- How a worker leaves its link.
use Rattle.std.specs.Prelude.{◌≡◌, ◌≤◌, ◌<◌, ◌+◌, ◌-◌, ◌⊎◌, ℕ, Bool, true, false, List, [], ◌++◌, length, Option, Some, None, Result, Ok, Err}
use Rattle.flow_types.specs.declared.job.Failure.{Failure}
use Rattle.flow_types.specs.declared.job.Job.{Job}
use Rattle.flow_types.specs.declared.job.Outcome.{Outcome}
use Rattle.flow_types.specs.declared.job.Start.{Start}
use Rattle.flow_types.specs.declared.messages.Message.{Message}
use Rattle.flow_types.specs.Serial.{Function}
use Rattle.links.specs.Honesty.{IsHonestThroughout}
use Rattle.links.specs.Passings.{received_in, sent_in}
use Rattle.message_forms.specs.Streams.{BeginsWith, IsBroken, IsFramed, IsStream, framed, frames_of}
use Rattle.wq_frames.specs.Frames.{front, part}
use Rattle.wq_frames.specs.declared.feeder.FeedFault.{FeedFault}
use Rattle.wq_frames.specs.declared.feeder.FeedFault.TheVariants as feeds
use Rattle.wq_messages.specs.Views.{HasMessage, shown}
use Rattle.worker_core.specs.Workers.{Worker, goes_up}
use Rattle.worker_pool.specs.Courses.{Heeds}
use Rattle.worker_pool.specs.Crews.{AllSure, AllTell}
use Rattle.worker_pool.specs.Tallies.{none}
use Rattle.worker_pool.specs.declared.hand.Tally.{Tally}
use Rattle.peer_run.specs.declared.halt.Halt.{Halt}
use Rattle.peer_run.specs.declared.halt.Halt.TheVariants.{Bye, Closed, Link, Bad, Memory}
use Rattle.peer_run.specs.Met.{Met, said_of, heard_of, has_left, ended_of, AreInOrder}
use Rattle.peer_run.specs.Works.{AtWork, EarState, IsToldPool, Way}

-- The bytes begin with something that is no message to a worker: they leave the grammar, or their
-- first message only goes up.
abbrev pub IsAmiss : List ℕ → Type 0
IsAmiss bytes = IsBroken bytes
    ⊎ ((m : Message) × (after : List ℕ) × IsFramed m × (goes_up m ≡ true) × (bytes ≡ framed m ++ after))

-- What taking the next frame does: its message is taken off the front, less than a whole frame is
-- there, or what is there is none.
abbrev pub Advanced : EarState → Result Bool FeedFault → EarState → Type 0
Advanced old (Ok true) new =
    IsFramed (shown new.body) × (old.rest ≡ framed (shown new.body) ++ new.rest) × (new.stop ≡ None)
    × (new.fed ≡ old.fed) × HasMessage new.body
Advanced old (Ok false) new =
    (front old.rest ≡ part) × (new.rest ≡ old.rest) × (new.stop ≡ None) × (new.fed ≡ old.fed)
Advanced old (Err feeds.Memory) new = Unit {0}
Advanced old (Err fault) new = IsBroken old.rest

-- What the next message does: it is taken off the front, less than a whole one is there, or what is
-- there is none, and begins at this byte.
abbrev pub Takes : EarState → Result (Option Message) Halt → EarState → Type 0
Takes old (Ok (Some m)) new =
    IsFramed m × (old.rest ≡ framed m ++ new.rest) × (new.stop ≡ None) × (new.fed ≡ old.fed)
Takes old (Ok None) new =
    (front old.rest ≡ part) × (new.rest ≡ old.rest) × (new.stop ≡ None) × (new.fed ≡ old.fed)
Takes old (Err Bye) new = ⊥
Takes old (Err Closed) new = ⊥
Takes old (Err Link) new = ⊥
Takes old (Err (Bad at)) new = (at ≡ old.fed - length old.rest) × IsBroken old.rest
Takes old (Err Memory) new = Unit {0}

-- Why a worker that has met this, and whose starts wait, may leave a link that is so, where the link
-- had this count of faults first.
abbrev pub MayHalt : Type 0 → Worker → ℕ → Way → List Met → List Start → Halt → Type 0
MayHalt tells first faults way past waiting Bye =
    (has_left past ≡ true) × (way.closed ≡ false)
    × (way.faults ≤ faults → (waiting ≡ []) × (tells → sent_in way.history ≡ frames_of (said_of first past)))
MayHalt tells first faults way past waiting Closed =
    (has_left past ≡ false) × (way.closed ≡ true)
    × (tells → (rest : List ℕ) × (front rest ≡ part) × IsStream (received_in way.history) (heard_of past) rest)
MayHalt tells first faults way past waiting Link =
    (has_left past ≡ false) × (way.closed ≡ false) × (faults < way.faults)
MayHalt tells first faults way past waiting (Bad at) =
    (has_left past ≡ false) × (way.closed ≡ false) × (at ≡ length (frames_of (heard_of past)))
    × (tells → (rest : List ℕ) × IsAmiss rest × IsStream (received_in way.history) (heard_of past) rest)
MayHalt tells first faults way past waiting Memory = way.closed ≡ false

-- How a worker that was this one first is found once nothing more passes over its link: what it met
-- is in order and came over the link, what it sent begins what it says by that, and no result of a
-- job was sent that doesn't answer a task that came before.
pub record Stands (gives : Function) (may_fail : Job → Failure → Type 0) (tells told : Type 0)
    (fits : Job → Outcome → Type 0) (first : Worker) (way : Way) (heard : Tally)
    (past : List Met) (waiting : List Start) : Type 0 where
  pub in_order : AreInOrder fits first past waiting
  pub heard_is : heard ≡ ended_of past
  pub came : tells → BeginsWith (received_in way.history) (heard_of past)
  pub sent : tells → (more : List ℕ) × (sent_in way.history ++ more ≡ frames_of (said_of first past))
  pub honest : tells → told → IsHonestThroughout gives may_fail received_in sent_in way.history

-- It stands so, and this is why it left its link.
pub record Leaves (gives : Function) (may_fail : Job → Failure → Type 0) (tells told : Type 0)
    (fits : Job → Outcome → Type 0) (first : Worker) (faults : ℕ) (way : Way) (heard : Tally)
    (halt : Halt) : Type 0 where
  pub past : List Met
  pub waiting : List Start
  pub stands : Stands gives may_fail tells told fits first way heard past waiting
  pub why : MayHalt tells first faults way past waiting halt

-- The link failed or memory was wanting.
abbrev pub FailsBy : ℕ → Way → Halt → Type 0
FailsBy faults way Link = faults < way.faults
FailsBy faults way Memory = Unit {0}
FailsBy faults way _ = ⊥

-- It stands so since the link failed or memory was wanting in what it did last, before Bye came or
-- after it.
pub record Breaks (gives : Function) (may_fail : Job → Failure → Type 0) (tells told : Type 0)
    (fits : Job → Outcome → Type 0) (first : Worker) (faults : ℕ) (way : Way) (heard : Tally)
    (left : Bool) (halt : Halt) : Type 0 where
  pub past : List Met
  pub waiting : List Start
  pub stands : Stands gives may_fail tells told fits first way heard past waiting
  pub left_is : left ≡ has_left past
  pub closed : way.closed ≡ false
  pub why : FailsBy faults way halt

-- why it leaves its link then: where Bye came, its work is over though the link fails
abbrev pub leaving : Bool → Halt → Halt
leaving true Link = Bye
leaving left halt = halt

-- A worker goes on, or has left its link.
abbrev pub Goes : {T : Type 0} → Result T Halt → (T → Type 0) → (Halt → Type 0) → Type 0
Goes (Ok x) works leaves = works x
Goes (Err halt) works leaves = leaves halt

-- A worker over a pool whose jobs end so has left its link.
abbrev pub HasLeft : Function → (Job → Failure → Type 0) → Type 0 → (Job → Outcome → Type 0)
    → Worker → ℕ → Way → Tally → Halt → Type 0
HasLeft gives may_fail tells fits first faults way heard halt =
    Leaves gives may_fail tells (IsToldPool gives may_fail fits) fits first faults way heard halt

-- The same worker, where what it did last failed.
abbrev pub HasBroken : Function → (Job → Failure → Type 0) → Type 0 → (Job → Outcome → Type 0)
    → Worker → ℕ → Way → Tally → Bool → Halt → Type 0
HasBroken gives may_fail tells fits first faults way heard left halt =
    Breaks gives may_fail tells (IsToldPool gives may_fail fits) fits first faults way heard left halt

-- every runner tells of every job
abbrev pub TellAll : {R : Type 0} → (R → Job → Type 0) → List R → Type 0
TellAll tells runners = (job : Job) → AllTell tells runners job

-- How a worker with these runners has left its link: its jobs ended as the runners tell, and at most
-- as many weren't run as the runners' counts rose in all.
pub record WorkLeft {R : Type 0} (gives : Function) (may_fail : Job → Failure → Type 0)
    (tells : Type 0) (told : R → Job → Type 0) (sure : R → Type 0) (runners : List R)
    (first : Worker) (way : Way) (before after : ℕ) (halt : Halt) : Type 0 where
  pub heard : Tally
  pub leaves : Leaves gives may_fail tells (TellAll told runners)
      (Heeds gives may_fail (λ job. TellAll told runners) (AllSure sure runners)) first 0 way heard halt
  pub counted : heard.unrun + before ≤ after

-- A worker with these runners that has said its hello and met nothing yet, over a link that is so.
abbrev pub WorksWith : {R : Type 0} → Function → (Job → Failure → Type 0) → Type 0
    → (R → Job → Type 0) → (R → Type 0) → List R → Worker → Way → EarState → Worker → Type 0
WorksWith gives may_fail tells told sure runners first way ear core =
    AtWork gives may_fail tells
    (Heeds gives may_fail (λ job. TellAll told runners) (AllSure sure runners)) first 0 way ear core
    [] none false
