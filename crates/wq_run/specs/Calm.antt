-- What a run with workers comes to over links that are sure.
use Rattle.std.specs.Prelude.{◌≡◌, ◌≤◌, ◌<◌, ◌⊎◌, ◌||◌, ℕ, Bool, false, List, [], ◌++◌, length, count_by, Option, Some, None, Result, IfErr, OnOk}
use Rattle.std.specs.List.{AllByRecursion, list_any}
use Rattle.flow_types.specs.declared.job.Failure.{Failure}
use Rattle.flow_types.specs.declared.job.Job.{Job}
use Rattle.flow_types.specs.declared.job.Task.{Task}
use Rattle.flow_types.specs.declared.messages.Key.{Key}
use Rattle.flow_types.specs.declared.messages.Message.{Message}
use Rattle.flow_types.specs.declared.messages.Message.TheVariants as messages
use Rattle.flow_types.specs.declared.numbers.Amounts.{Amounts}
use Rattle.flow_types.specs.declared.numbers.LinkNo.{LinkNo}
use Rattle.flow_types.specs.declared.records.Record.{Record}
use Rattle.flow_types.specs.Serial.{Function}
use Rattle.run_history.specs.declared.moves.Move.{Move}
use Rattle.run_history.specs.Links.{records_of}
use Rattle.run_history.specs.Moves.{is_join}
use Rattle.links.specs.declared.passing.Passed.{Passed}
use Rattle.links.specs.Honesty.{OwesNothing}
use Rattle.links.specs.Ill.{OffersCame}
use Rattle.links.specs.Passings.{received_in, sent_in}
use Rattle.message_forms.specs.Streams.{IsAmong}
use Rattle.peers.specs.declared.leave.Leave.{Leave}
use Rattle.peers.specs.declared.leave.Leave.TheVariants as leaves
use Rattle.peers.specs.Provides.{Provides}
use Rattle.peers.specs.Serves.{Serves}
use Rattle.peers.specs.States.{PeerState}
use Rattle.local_run.specs.declared.halt.Halt.{Halt}
use Rattle.local_run.specs.Ends.{is_failed}
use Rattle.local_run.specs.Losses.{is_lost}
use Rattle.wq_run.specs.Dues.{IsFull}
use Rattle.wq_run.specs.Losses.{accounts_of}
use Rattle.wq_run.specs.Seats.{CompanyState, SeatState, links_in}
use Rattle.wq_run.specs.Trusted.{IsUpTo}

-- ---- records

-- an attempt failed or was given up
abbrev pub goes_wrong : Record → Bool
goes_wrong x = is_failed x || is_lost x

-- More records stand behind these, and by none of them an attempt failed or was given up.
pub record GoesWell (H all : List Record) : Type 0 where
  pub more : List Record
  pub are : all ≡ H ++ more
  pub none : list_any goes_wrong more ≡ false

-- The same of moves.
pub record AddsWell (M all : List Move) : Type 0 where
  pub more : List Move
  pub are : all ≡ M ++ more
  pub none : list_any goes_wrong (records_of more) ≡ false

-- ---- links

-- Fewer than 1,000,000 Hellos and Totals came over all links that were handed back behind these.
abbrev pub ComeFew : {L : Type 0} → (L → List Passed) → (L → ℕ) → (L → ℕ) → (L → Bool) → List (Option LinkNo × L) → List (Option LinkNo × L) → Type 0
ComeFew {L} history count idles closed got got_now = (links : List (Option LinkNo × L)) (n : ℕ) → got_now ≡ got ++ links → OffersCame (accounts_of history count idles closed links) n → n < 1000000

-- ---- what is relied on

-- What a hall is asked for: the least amounts that each peer that comes offers, and how often nobody had come by then.
pub record Asked : Type 0 where
  pub least : Amounts
  pub idles : ℕ

-- The link is sure, and where a hall is asked for something it offers that.
pub record IsSureOf {L : Type 0} (sure : L → Type 0) (offers : L → Amounts → Type 0) (asked : Option Asked) (way : L) : Type 0 where
  pub surely : sure way
  pub offering : (a : Asked) → asked ≡ Some a → offers way a.least

-- Each link that the hall still gives is so.
pub record IsComing {X : Type 0} (sure : X → Type 0) (staffed : X → Amounts → Type 0) (asked : Option Asked) (hall : X) : Type 0 where
  pub surely : sure hall
  pub offering : (a : Asked) → asked ≡ Some a → staffed hall a.least

-- Where the hall is asked for something it gives a link first, and nobody has failed to come since.
pub record IsUnmet {X : Type 0} (manned : X → Amounts → Type 0) (idles : X → ℕ) (asked : Option Asked) (hall : X) : Type 0 where
  pub still : (a : Asked) → asked ≡ Some a → manned hall a.least × (idles hall ≡ a.idles)

-- ---- peers

-- The peer's link is sure, and it is served with these messages said and heard: each task was said behind all that it takes in, and of the inputs of the one that waits no more than these are left to be put.
pub record IsTended {L : Type 0} (gives : Function) (may_fail : Job → Failure → Type 0) (history : L → List Passed) (sure : L → Type 0) (p : PeerState L) (said heard : List Message) (waiting : Option Task) (left : List Key) : Type 0 where
  pub serves : Serves gives may_fail (history p.way) p.feed p.session said heard waiting
  pub provides : Provides p.session.known said waiting left
  pub surely : sure p.way

-- Nothing was said to it, and where its link is idle nothing is owed over it.
pub record IsSureGuest {L : Type 0} (gives : Function) (may_fail : Job → Failure → Type 0) (history : L → List Passed) (idles : L → ℕ) (sure : L → Type 0) (p : PeerState L) : Type 0 where
  pub heard : List Message
  pub tended : IsTended gives may_fail history sure p [] heard None []
  pub owes : 0 < idles p.way → OwesNothing (sent_in (history p.way)) (received_in (history p.way))

-- No task waits to be said to the peer of the seat, and none is of a newer attempt than the seat tells.
pub record IsSureSeat {L : Type 0} (gives : Function) (may_fail : Job → Failure → Type 0) (history : L → List Passed) (sure : L → Type 0) (s : SeatState L) : Type 0 where
  pub said : List Message
  pub heard : List Message
  pub tended : IsTended gives may_fail history sure s.peer said heard None []
  pub older : (t : Task) → IsAmong (messages.Task t) said → IsUpTo s.newest t.attempt

-- This task waits to be said, of whose inputs no more than these are left to be put.
pub record IsSureToAsk {L : Type 0} (gives : Function) (may_fail : Job → Failure → Type 0) (history : L → List Passed) (sure : L → Type 0) (s : SeatState L) (task : Task) (left : List Key) : Type 0 where
  pub said : List Message
  pub heard : List Message
  pub tended : IsTended gives may_fail history sure s.peer said heard (Some task) left
  pub older : (t : Task) → IsAmong (messages.Task t) said → IsUpTo s.newest t.attempt
  pub newest : IsUpTo s.newest task.attempt

-- ---- calls

-- A link is left for want of memory, or for that.
abbrev pub IsWantOr : Type 0 → Leave → Type 0
IsWantOr full leaves.Memory = Unit {0}
IsWantOr full leave = full

-- This is so at Ok, and a link is left only where memory is wanting or for that.
pub record StaysOr {A : Type 0} (so full : Type 0) (result : Result A Leave) : Type 0 where
  pub stays : OnOk result so
  pub leaves : IfErr result (IsWantOr full)

-- Where nothing has stopped the run, no attempt failed or was given up by the moves that were added, and the seat stays so or is left for want of memory, or since the desk takes no change of its amounts.
abbrev pub FaresWell : {A : Type 0} → List Move → List Move → Option Halt → Result A Leave → Type 0 → Type 0
FaresWell M all halt_now result so = halt_now ≡ None → AddsWell M all × StaysOr so (IsFull all) result

-- Each link that the place where peers come still gives is sure, and so are those of the seats and of the guests; and at least as many have seats as joined by these moves.
pub record IsSureLinks {L : Type 0} (gives : Function) (may_fail : Job → Failure → Type 0) (history : L → List Passed) (idles : L → ℕ) (sure : L → Type 0) (coming : Type 0) (M : List Move) (c : CompanyState L) : Type 0 where
  pub hall : coming
  pub seats : AllByRecursion (IsSureSeat gives may_fail history sure) c.seats
  pub guests : AllByRecursion (IsSureGuest gives may_fail history idles sure) c.guests
  pub joins : count_by is_join M ≤ length c.seats

-- The same, and either this is so of the place where peers come, or a peer is there.
pub record IsSureCompany {L : Type 0} (gives : Function) (may_fail : Job → Failure → Type 0) (history : L → List Passed) (idles : L → ℕ) (sure : L → Type 0) (coming unmet : Type 0) (M : List Move) (c : CompanyState L) : Type 0 where
  pub links : IsSureLinks gives may_fail history idles sure coming M c
  pub met : unmet ⊎ (0 < links_in c)

-- Nothing stopped the run, the place where peers come didn't fail, no link was lost, and the desk takes joins and changes.
pub record IsUnstopped {L : Type 0} (M : List Move) (halt : Option Halt) (c : CompanyState L) : Type 0 where
  pub none : halt ≡ None
  pub fine : c.failed ≡ false
  pub kept : c.lost ≡ false
  pub room : IsFull M → ⊥

-- Where nothing has stopped the run, nothing had, and over sure links no attempt failed or was given up by the moves that were added, and the links stay sure.
pub record KeepsCalm {L : Type 0} (calm calm_now : Type 0) (M all : List Move) (halt halt_now : Option Halt) (c c_now : CompanyState L) : Type 0 where
  pub stands : IsUnstopped all halt_now c_now → IsUnstopped M halt c
  pub keeps : IsUnstopped all halt_now c_now → calm → AddsWell M all × calm_now

-- The same of a call at one seat, which may be to be left then: for want of memory, or since the desk takes no more changes. No link joins.
pub record KeepsCalmAt {A : Type 0} (calm calm_now : Type 0) (M all : List Move) (halt halt_now : Option Halt) (result : Result A Leave) : Type 0 where
  pub going : halt_now ≡ None → halt ≡ None
  pub joins : halt_now ≡ None → count_by is_join all ≡ count_by is_join M
  pub grows : halt_now ≡ None → (more : List Move) × (all ≡ M ++ more)
  pub keeps : halt_now ≡ None → calm → AddsWell M all × StaysOr calm_now (IsFull all) result
