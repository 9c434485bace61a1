-- What a foreman's call promises.
use Rattle.std.specs.Prelude.{◌≡◌, ◌<◌, ◌*◌, ℕ, false, List, Option, Some, None}
use Rattle.command_words.specs.declared.options.ForemanOptions.{ForemanOptions}
use Rattle.flow_types.specs.declared.job.Failure.{Failure}
use Rattle.flow_types.specs.declared.job.Job.{Job}
use Rattle.flow_types.specs.declared.numbers.LinkNo.{LinkNo}
use Rattle.flow_types.specs.Serial.{Function}
use Rattle.links.specs.Honesty.{IsHonestThroughout}
use Rattle.links.specs.Passings.{received_in, sent_in}
use Rattle.peer_run.specs.declared.cause.PeerCause.{PeerCause}
use Rattle.peer_run.specs.declared.cause.PeerCause.TheVariants as causes
use Rattle.peer_run.specs.Causes.{cause_of}
use Rattle.peer_run.specs.Works.{Way}
use Rattle.foreman_run.specs.declared.stop.Stop.{Stop}
use Rattle.foreman_run.specs.declared.stop.Stop.TheVariants.{Left, Hall}
use Rattle.foreman_run.specs.Ends.{Stops}
use Rattle.foreman_run.specs.Hosts.{Hosts}
use Rattle.foreman_run.specs.Lost.{Seen}
use Rattle.foreman_run.specs.Tied.{CameOver}

-- the bytes that a foreman keeps at most, by these words
abbrev pub cap_by : ForemanOptions → ℕ
cap_by options = options.cache * 1048576

-- the cause of a stop, by what the link to the parent counts by now and was nothing first, and by the
-- hall's counts
abbrev pub cause_by : ℕ → ℕ → ℕ → Stop → PeerCause
cause_by after before now (Left halt) = cause_of after halt
cause_by after before now Hall = causes.HallFault before now

-- Why a foreman ends that has no link to its parent, by what the words choose and the dial's counts:
-- the words are none, the dial failed or memory was wanting.
abbrev pub NoLink : Option ForemanOptions → ℕ → ℕ → PeerCause → Type 0
NoLink options before after causes.Usage = options ≡ None
NoLink options before after (causes.DialFault b a) =
    (b ≡ before) × (a ≡ after) × (before < after)
    × ((chosen : ForemanOptions) × (options ≡ Some chosen))
NoLink options before after causes.Memory = Unit {0}
NoLink options before after _ = ⊥

-- The hall's count rose, where it is the cause.
abbrev pub RoseBy : ℕ → ℕ → Stop → Type 0
RoseBy before now (Left halt) = Unit {0}
RoseBy before now Hall = before < now

-- How a foreman has left the link to its parent: it stopped so, what it met of its workers came over
-- the links that were handed back, and where the hall's links are honest this link is, seen from the
-- foreman's end.
pub record HasStopped {L : Type 0} (gives : Function) (may_fail : Job → Failure → Type 0)
    (tells honest below_tells : Type 0) (seen : L → Seen) (cap : ℕ) (way : Way)
    (before now : ℕ) (got got_now : List (Option LinkNo × L)) (given given_now : ℕ)
    (cause : PeerCause) : Type 0 where
  pub stop : Stop
  pub cause_is : cause ≡ cause_by way.faults before now stop
  pub rose : RoseBy before now stop
  pub stops : Stops gives may_fail tells false cap 0 way stop
  pub from_links : CameOver below_tells seen cap got got_now given given_now stops.past
  pub right : tells → honest → IsHonestThroughout gives may_fail received_in sent_in way.history

-- Why a foreman ends before its line is printed: without a link as above, and with one it has left it
-- for this cause.
abbrev pub EndsBy : {U L : Type 0} → Function → (Job → Failure → Type 0) → Type 0 → Type 0 → Type 0
    → (L → Seen) → (U → Way) → Option ForemanOptions → ℕ → ℕ → ℕ → ℕ
    → List (Option LinkNo × L) → List (Option LinkNo × L) → ℕ → ℕ → Option U → PeerCause → Type 0
EndsBy gives may_fail tells honest below_tells seen way options dialled dials before now got
    got_now given given_now None cause =
    NoLink options dialled dials cause
EndsBy gives may_fail tells honest below_tells seen way options dialled dials before now got
    got_now given given_now (Some link) cause =
    (chosen : ForemanOptions) × (options ≡ Some chosen)
    × HasStopped gives may_fail tells honest below_tells seen (cap_by chosen) (way link) before
    now got got_now given given_now cause

-- Each link that the hall gave was handed back once; where the cause isn't Bye some may have been lost
-- instead since memory was wanting.
abbrev pub AreHandedBack : {X : Type 0} → ℕ → ℕ → List X → List X → ℕ → ℕ → PeerCause → Type 0
AreHandedBack count count_now got got_now given given_now cause =
    (lost : ℕ) × Hosts count count_now got got_now given given_now 0 0 lost
    × (cause ≡ causes.Bye → lost ≡ 0)
