-- When a link that was handed back had earned to be left.
use Rattle.std.specs.Prelude.{◌≡◌, ◌≤◌, ◌<◌, ◌+◌, ℕ, Bool, true, List, [], ◌∷◌, ◌++◌, length}
use Rattle.std.specs.Prelude.{sum_by, Option, None, IsTrue}
use Rattle.flow_types.specs.declared.numbers.Amounts.{Amounts}
use Rattle.flow_types.specs.declared.numbers.FileNo.{FileNo}
use Rattle.flow_types.specs.declared.numbers.LinkNo.{LinkNo}
use Rattle.flow_types.specs.declared.job.Task.{Task}
use Rattle.flow_types.specs.declared.job.Outcome.{Outcome}
use Rattle.flow_types.specs.declared.job.Outcome.TheVariants.{Success, Failed, NotRun}
use Rattle.flow_types.specs.declared.messages.Message.{Message}
use Rattle.flow_types.specs.declared.messages.Message.TheVariants.{Hello, Put, Task as ATask, Done}
use Rattle.flow_types.specs.declared.messages.Message.TheVariants.{Missing, Cancel, Unlink, Totals}
use Rattle.flow_types.specs.declared.messages.Message.TheVariants.{Bye}
use Rattle.flow_types.specs.Plans.{files_of, contains_number, most_bytes}
use Rattle.message_forms.specs.Streams.{BeginsWith, Carries, Leaves, framed}
use Rattle.outside.specs.Jobs.{AllFit, NamesOutput}
use Rattle.links.specs.Honesty.{HasRun}

-- What is told of a link that was handed back.
pub record Account : Type 0 where
  pub number : Option LinkNo
  pub closed : Bool
  pub faults : ℕ
  pub idles : ℕ
  pub sent : List ℕ
  pub received : List ℕ

-- the message goes to a peer
abbrev pub GoesDown : Message → Type 0
GoesDown (Put key content) = Unit {0}
GoesDown (ATask task) = Unit {0}
GoesDown (Cancel attempt) = Unit {0}
GoesDown (Unlink key) = Unit {0}
GoesDown Bye = Unit {0}
GoesDown _ = ⊥

-- a peer's first message
abbrev pub IsHello : Message → Type 0
IsHello (Hello total largest cache) = Unit {0}
IsHello _ = ⊥

-- a job with these outputs may end so, as far as its shape goes
abbrev pub OutcomeFits : Task → Outcome → Type 0
OutcomeFits t (Success contents) =
    AllFit t.outputs contents × (sum_by (λ c. length c) contents ≤ most_bytes)
OutcomeFits t (Failed why) = NamesOutput why (length t.outputs)
OutcomeFits t NotRun = Unit {0}

-- the task takes in all of these files
abbrev pub TakesIn : Task → List FileNo → Type 0
TakesIn t [] = Unit {0}
TakesIn t (file ∷ files) =
    IsTrue (contains_number file.0 (files_of t.inputs)) × TakesIn t files

-- a message about a task's attempt that the task allows
abbrev pub Suits : Task → Message → Type 0
Suits t (Done attempt outcome) = attempt ≡ t.attempt → OutcomeFits t outcome
Suits t (Missing attempt files) = attempt ≡ t.attempt → TakesIn t files
Suits t _ = Unit {0}

-- These bytes are the beginning of the message's frame, or begin with it.
abbrev pub MayBegin : List ℕ → Message → Type 0
MayBegin bytes m = (more behind : List ℕ) × (bytes ++ more ≡ framed m ++ behind)

-- What came up leaves the grammar, or is out of turn: also where not even a first part of it is a
-- hello's.
pub data Misspeaks (down up : List ℕ) : Type 0 where
  broken : (messages : List Message) → Leaves up messages → Misspeaks down up
  no_hello : (m : Message) → BeginsWith up (m ∷ []) → (IsHello m → ⊥) → Misspeaks down up
  stranger : ((total largest : Amounts) (cache : ℕ)
      → MayBegin up (Hello total largest cache) → ⊥) → Misspeaks down up
  hello_again : (m hello : Message) → (between : List Message) → IsHello hello
      → BeginsWith up (m ∷ between ++ hello ∷ []) → Misspeaks down up
  goes_down : (m : Message) → Carries up m → GoesDown m → Misspeaks down up
  unfit : (t : Task) → (m : Message) → Carries down (ATask t) → Carries up m → (Suits t m → ⊥)
      → Misspeaks down up

-- A task was sent and not cancelled, and where the link is honest no result of it came.
pub record IsUnanswered (honest : Type 0) (down up : List ℕ) : Type 0 where
  pub task : Task
  pub asked : Carries down (ATask task)
  pub kept : Carries down (Cancel task.attempt) → ⊥
  pub open_still : honest → (outcome : Outcome) → Carries up (Done task.attempt outcome)
      → HasRun outcome → ⊥

-- a hello came whole
abbrev pub HasHello : List ℕ → Type 0
HasHello up =
    (total : Amounts) × (largest : Amounts) × (cache : ℕ) × Carries up (Hello total largest cache)

-- how many offers stand among these messages
abbrev pub offers_in : List Message → ℕ
offers_in [] = 0
offers_in (Hello total largest cache ∷ ms) = 1 + offers_in ms
offers_in (Totals total largest cache ∷ ms) = 1 + offers_in ms
offers_in (_ ∷ ms) = offers_in ms

-- so many offers came over these links together
abbrev pub OffersCame : List Account → ℕ → Type 0
OffersCame [] n = n ≡ 0
OffersCame (a ∷ rest) n =
    (messages : List Message) × (k : ℕ) × BeginsWith a.received messages × OffersCame rest k
    × (n ≡ offers_in messages + k)

-- how long a link may go without its hello
abbrev pub most_idles_before_hello : ℕ
most_idles_before_hello = 8

-- A link is ill, by this idle limit, among all that the call handed back.
pub data IsIll (limit : ℕ) (honest : Type 0) (handed_back : List Account) (a : Account)
    : Type 0 where
  closed : a.closed ≡ true → IsIll limit honest handed_back a
  failed : 0 < a.faults → IsIll limit honest handed_back a
  silent : most_idles_before_hello ≤ a.idles → (HasHello a.received → ⊥)
      → IsIll limit honest handed_back a
  idle : limit ≤ a.idles → IsUnanswered honest a.sent a.received
      → IsIll limit honest handed_back a
  misspeaks : Misspeaks a.sent a.received → IsIll limit honest handed_back a
  too_many_links : a.number ≡ None → 33 ≤ length handed_back
      → IsIll limit honest handed_back a
  too_many_offers : (n : ℕ) → 1000000 ≤ n → OffersCame handed_back n
      → IsIll limit honest handed_back a
