-- Why a foreman may leave the link to a worker, as the link shows it.
use Rattle.std.specs.Prelude.{◌≡◌, ◌≤◌, ◌<◌, ◌+◌, ℕ, Bool, true, false, List, [], ◌∷◌, ◌++◌, IsTrue}
use Rattle.flow_types.specs.declared.job.Task.{Task}
use Rattle.flow_types.specs.declared.messages.Message.{Message}
use Rattle.flow_types.specs.declared.messages.Message.TheVariants as messages
use Rattle.flow_types.specs.declared.numbers.Amounts.{Amounts}
use Rattle.links.specs.declared.passing.Passed.{Passed}
use Rattle.links.specs.Ill.{GoesDown, HasHello, IsHello, MayBegin, Suits, most_idles_before_hello}
use Rattle.links.specs.Passings.{received_in}
use Rattle.message_forms.specs.Streams.{BeginsWith, Carries, Leaves}
use Rattle.wq_messages.specs.declared.heads.Head.{Head}
use Rattle.wq_messages.specs.declared.heads.Head.TheVariants as heads
use Rattle.wq_messages.specs.declared.heads.Ended.TheVariants as ends
use Rattle.wq_messages.specs.Heads.{head_of}

-- what is seen of a worker's link: what passed over it, the newest first, whether it is closed, its
-- count of faults, and how often it was idle since bytes last passed
pub record Seen : Type 0 where
  pub history : List Passed
  pub closed : Bool
  pub faults : ℕ
  pub idles : ℕ

-- that of a link with these members
abbrev pub seen_of : {L : Type 0} → (L → List Passed) → (L → Bool) → (L → ℕ) → (L → ℕ) → L → Seen
seen_of {L} history closed faults idles link = record {
  history = history link;
  closed = closed link;
  faults = faults link;
  idles = idles link;
}

-- a message is a hello
abbrev pub is_hello : Message → Bool
is_hello (messages.Hello total largest cache) = true
is_hello _ = false

-- A hello stands first among these messages.
abbrev pub IsHelloFirst : List Message → Type 0
IsHelloFirst [] = ⊥
IsHelloFirst (m ∷ ms) = IsHello m

-- how often in a row a worker may answer that an attempt wasn't run
abbrev pub most_refusals : ℕ
most_refusals = 3

-- how often in a row that was answered, by a message more: the end of a job ends the row
abbrev pub refused_by : ℕ → Head → ℕ
refused_by n (heads.Done attempt ends.NotRun) = n + 1
refused_by n (heads.Done attempt ends.Success) = 0
refused_by n (heads.Done attempt (ends.Failed why)) = 0
refused_by n _ = n

-- the same by all of these messages more
abbrev pub refused_on : ℕ → List Message → ℕ
refused_on n [] = n
refused_on n (m ∷ ms) = refused_on (refused_by n (head_of m)) ms

-- how often in a row a worker that told these messages answered so last
abbrev pub refusals_of : List Message → ℕ
refusals_of ms = refused_on 0 ms

-- What came over a link isn't the frames of what a worker may say that was asked these tasks: it
-- leaves the grammar, not even a first part of it is a hello's, it begins with another message than a
-- hello, it has a second hello or a message that only goes down, or a Done or Missing that its task
-- doesn't allow.
pub data IsMisspoken (asked : Task → Type 0) (up : List ℕ) : Type 0 where
  broken : (told : List Message) → Leaves up told → IsMisspoken asked up
  stranger : ((total largest : Amounts) (cache : ℕ)
      → MayBegin up (messages.Hello total largest cache) → ⊥) → IsMisspoken asked up
  no_hello : (m : Message) → BeginsWith up (m ∷ []) → (IsHello m → ⊥) → IsMisspoken asked up
  hello_again : (m hello : Message) → (between : List Message) → IsHello hello
      → BeginsWith up (m ∷ between ++ hello ∷ []) → IsMisspoken asked up
  goes_down : (m : Message) → Carries up m → GoesDown m → IsMisspoken asked up
  unfit : (t : Task) → (m : Message) → asked t → Carries up m → (Suits t m → ⊥)
      → IsMisspoken asked up

-- A worker's link is lost for this: it is closed, or it failed; its hello didn't come whole in so many
-- idle seconds; what came over it isn't what a worker may say; the worker answered so often in a row
-- that an attempt wasn't run; or its hello came while as many other workers lived as may.
pub data IsLostFor (asked : Task → Type 0) (full : Bool) (seen : Seen) : Type 0 where
  closed : seen.closed ≡ true → IsLostFor asked full seen
  failed : 0 < seen.faults → IsLostFor asked full seen
  silent : most_idles_before_hello ≤ seen.idles → (HasHello (received_in seen.history) → ⊥)
      → IsLostFor asked full seen
  misspoken : IsMisspoken asked (received_in seen.history) → IsLostFor asked full seen
  refuses : (told : List Message) → BeginsWith (received_in seen.history) told
      → most_refusals ≤ refusals_of told → IsLostFor asked full seen
  crowded : IsTrue full → IsLostFor asked full seen
