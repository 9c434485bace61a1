-- Why attempts at workers are lost, by the records and by the links that were handed back.
use Rattle.std.specs.Prelude.{◌≡◌, ◌≤◌, ◌⊎◌, ℕ, Bool, true, List, [], ◌∷◌, ◌++◌, Option, Some, All}
use Rattle.std.specs.List.{list_any}
use Rattle.flow_types.specs.declared.numbers.AttemptNo.{AttemptNo}
use Rattle.flow_types.specs.declared.numbers.LinkNo.{LinkNo}
use Rattle.flow_types.specs.declared.job.Failure.{Failure}
use Rattle.flow_types.specs.declared.job.Job.{Job}
use Rattle.flow_types.specs.declared.job.Outcome.TheVariants as outcomes
use Rattle.flow_types.specs.declared.messages.Message.{Message}
use Rattle.flow_types.specs.declared.messages.Message.TheVariants as messages
use Rattle.flow_types.specs.declared.records.Record.{Record}
use Rattle.flow_types.specs.declared.records.Record.TheVariants as records
use Rattle.flow_types.specs.Serial.{Function}
use Rattle.links.specs.declared.passing.Passed.{Passed}
use Rattle.links.specs.Ill.{Account, IsIll}
use Rattle.links.specs.Passings.{received_in, sent_in}
use Rattle.message_forms.specs.Streams.{BeginsWith, IsAmong}
use Rattle.peers.specs.Hears.{most_missings}
use Rattle.peers.specs.Serves.{WasHonest, missings_of}
use Rattle.local_run.specs.Losses.{starts_on}

-- what is told of a link that was handed back, under its number where it had one
abbrev pub account_of : {L : Type 0} → (L → List Passed) → (L → ℕ) → (L → ℕ) → (L → Bool) → Option LinkNo → L → Account
account_of history count idles closed number way = record {
  number = number;
  closed = closed way;
  faults = count way;
  idles = idles way;
  sent = sent_in (history way);
  received = received_in (history way);
}

-- what is told of each of these
abbrev pub accounts_of : {L : Type 0} → (L → List Passed) → (L → ℕ) → (L → ℕ) → (L → Bool) → List (Option LinkNo × L) → List Account
accounts_of history count idles closed [] = []
accounts_of history count idles closed (link ∷ links) = account_of history count idles closed link.0 link.1 ∷ accounts_of history count idles closed links

-- Among these bytes came that the attempt wasn't run, or three times that inputs of it are missing.
pub record GaveBack (up : List ℕ) (number : AttemptNo) : Type 0 where
  pub heard : List Message
  pub came : BeginsWith up heard
  pub so : IsAmong (messages.Done number outcomes.NotRun) heard ⊎ (most_missings ≤ missings_of number heard)

-- Of these links one has this number, and it is ill among them, or over it the attempt was given back.
pub record IsDueTo {L : Type 0} (gives : Function) (may_fail : Job → Failure → Type 0) (history : L → List Passed) (count idles : L → ℕ) (closed : L → Bool) (limit : ℕ) (links : List (Option LinkNo × L)) (link : LinkNo) (number : AttemptNo) : Type 0 where
  pub way : L
  pub earlier : List (Option LinkNo × L)
  pub later : List (Option LinkNo × L)
  pub among : links ≡ earlier ++ ((Some link, way) ∷ later)
  pub cause : IsIll limit (WasHonest gives may_fail (history way)) (accounts_of history count idles closed links) (account_of history count idles closed (Some link) way) ⊎ GaveBack (received_in (history way)) number

-- If the record gives an attempt up, that was started on a link that gave cause for it.
abbrev pub IsDueLossBy : {L : Type 0} → Function → (Job → Failure → Type 0) → (L → List Passed) → (L → ℕ) → (L → ℕ) → (L → Bool) → ℕ → List (Option LinkNo × L) → List Record → Record → Type 0
IsDueLossBy gives may_fail history count idles closed limit links all (records.Lost moment rule attempt) =
    (link : LinkNo) × (list_any (starts_on link.0 rule.0 attempt.0) all ≡ true)
    × IsDueTo gives may_fail history count idles closed limit links link attempt
IsDueLossBy gives may_fail history count idles closed limit links all _ = Unit {0}

-- More links were handed back and more records were logged, and each attempt that these give up was started on one of these links that is ill, or over which it was given back.
pub record AreDueLosses {L : Type 0} (gives : Function) (may_fail : Job → Failure → Type 0) (history : L → List Passed) (count idles : L → ℕ) (closed : L → Bool) (limit : ℕ) (got got_now : List (Option LinkNo × L)) (H all : List Record) : Type 0 where
  pub links : List (Option LinkNo × L)
  pub back : got_now ≡ got ++ links
  pub more : List Record
  pub are : all ≡ H ++ more
  pub each : All (IsDueLossBy gives may_fail history count idles closed limit links all) more
