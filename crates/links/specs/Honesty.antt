-- When a link is honest, and when it is sure.
use Rattle.std.specs.Prelude.{◌≡◌, ◌≤◌, ℕ, List, [], ◌∷◌, ◌++◌, length, sum_by, map}
use Rattle.std.specs.Prelude.{Some, unwrap_or, IsTrue, Result, Ok, Err}
use Rattle.flow_types.specs.declared.numbers.Amounts.{Amounts}
use Rattle.flow_types.specs.declared.numbers.AttemptNo.{AttemptNo}
use Rattle.flow_types.specs.declared.job.Task.{Task}
use Rattle.flow_types.specs.declared.job.Job.{Job}
use Rattle.flow_types.specs.declared.job.Failure.{Failure}
use Rattle.flow_types.specs.declared.job.Outcome.{Outcome}
use Rattle.flow_types.specs.declared.job.Outcome.TheVariants.{Success, Failed, NotRun}
use Rattle.flow_types.specs.declared.messages.Key.{Key}
use Rattle.flow_types.specs.declared.messages.Message.{Message}
use Rattle.flow_types.specs.declared.messages.Message.TheVariants as messages
use Rattle.flow_types.specs.Plans.{files_of, contains_number, most_bytes, most_input_bytes}
use Rattle.flow_types.specs.Serial.{Contents, Function, given_by}
use Rattle.message_forms.specs.Streams.{AreFramed, BeginsWith, Carries, IsAmong, frames_of}
use Rattle.outside.specs.Jobs.{AllFit, IsHonest}
use Rattle.outside.specs.declared.fault.Fault.{Fault}
use Rattle.outside.specs.declared.fault.Fault.TheVariants as faults
use Rattle.links.specs.declared.passing.Got.{Got}
use Rattle.links.specs.declared.passing.Got.TheVariants as got
use Rattle.links.specs.declared.passing.Passed.{Passed}

-- a file of a run, as it is named over a link
abbrev pub key_of : ℕ → ℕ → Key
key_of run f = record { run = run; file = record { 0 = f } }

-- The job of a task over these contents. An input without one would count as empty.
abbrev pub task_job : Task → Contents → Job
task_job t contents = record {
  command = t.command;
  env = t.env;
  inputs =
      map (λ port. record { remote = port.remote; content = unwrap_or (contents port.file.0) [] })
      t.inputs;
  outputs = t.outputs;
}

-- the job came to its end
abbrev pub HasRun : Outcome → Type 0
HasRun (Success contents) = Unit {0}
HasRun (Failed why) = Unit {0}
HasRun NotRun = ⊥

-- each file of the task has a content here that was put under its key
abbrev pub WerePut : List ℕ → Task → Contents → Type 0
WerePut down t contents = (f : ℕ) → IsTrue (contains_number f (files_of t.inputs))
    → (content : List ℕ) × (contents f ≡ Some content)
    × Carries down (messages.Put (key_of t.run f) content)

-- Among these bytes is a task of the attempt, and contents under its keys, whose job may end so.
pub record Answers (gives : Function) (may_fail : Job → Failure → Type 0) (down : List ℕ)
    (attempt : AttemptNo) (outcome : Outcome) : Type 0 where
  pub task : Task
  pub of_attempt : task.attempt ≡ attempt
  pub asked : Carries down (messages.Task task)
  pub contents : Contents
  pub were_put : WerePut down task contents
  pub ends_so : IsHonest (given_by gives (task_job task contents))
      (may_fail (task_job task contents)) outcome

-- Each result that has come up answers a task that has gone down.
abbrev pub IsHonestSoFar : Function → (Job → Failure → Type 0) → List ℕ → List ℕ → Type 0
IsHonestSoFar gives may_fail down up =
    (attempt : AttemptNo) (outcome : Outcome)
    → Carries up (messages.Done attempt outcome) → HasRun outcome
    → Answers gives may_fail down attempt outcome

-- It has been so at every moment of a history, whichever of its ends is the upper one.
abbrev pub IsHonestThroughout : Function → (Job → Failure → Type 0)
    → (List Passed → List ℕ) → (List Passed → List ℕ) → List Passed → Type 0
IsHonestThroughout gives may_fail down up [] = Unit {0}
IsHonestThroughout gives may_fail down up (passed ∷ past) =
    IsHonestSoFar gives may_fail (down (passed ∷ past)) (up (passed ∷ past))
    × IsHonestThroughout gives may_fail down up past

-- A task that went down with all that it takes in before it, and that wasn't cancelled.
pub record IsOwed (down : List ℕ) (t : Task) : Type 0 where
  pub before : List Message
  pub asked : BeginsWith down (before ++ messages.Task t ∷ [])
  pub were_put : (f : ℕ) → IsTrue (contains_number f (files_of t.inputs))
      → (content : List ℕ) × IsAmong (messages.Put (key_of t.run f) content) before
  pub kept : Carries down (messages.Cancel t.attempt) → ⊥

-- The hello has come whole, and each task that is owed has been answered.
pub record OwesNothing (down up : List ℕ) : Type 0 where
  pub hello : (total : Amounts) × (largest : Amounts) × (cache : ℕ)
      × Carries up (messages.Hello total largest cache)
  pub done : (t : Task) → IsOwed down t
      → (outcome : Outcome) × Carries up (messages.Done t.attempt outcome)

-- a success is within the bounds of its task
abbrev pub IsWithinBounds : List ℕ → AttemptNo → List (List ℕ) → Type 0
IsWithinBounds down attempt contents =
    (t : Task) × (t.attempt ≡ attempt) × Carries down (messages.Task t)
    × AllFit t.outputs contents × (sum_by (λ c. length c) contents ≤ most_bytes)

-- totals, or a success within its bounds, is good
abbrev pub IsGood : List ℕ → Message → Type 0
IsGood down (messages.Totals total largest cache) = Unit {0}
IsGood down (messages.Done attempt (Success contents)) = IsWithinBounds down attempt contents
IsGood down _ = ⊥

-- each of them is good
abbrev pub AreGood : List ℕ → List Message → Type 0
AreGood down [] = Unit {0}
AreGood down (m ∷ ms) = IsGood down m × AreGood down ms

-- a hello first, and then totals and successes
abbrev pub IsHelloFirst : List ℕ → List Message → Type 0
IsHelloFirst down (messages.Hello total largest cache ∷ ms) = AreGood down ms
IsHelloFirst down _ = ⊥

-- What came up is the beginning of a hello, and then of totals and successes.
pub record IsOrderly (down up : List ℕ) : Type 0 where
  pub messages_up : List Message
  pub framed_all : AreFramed messages_up
  pub hello_first : IsHelloFirst down messages_up
  pub begin : (rest : List ℕ) × (frames_of messages_up ≡ up ++ rest)

-- A sure link doesn't end or fail, and is idle only where nothing is owed.
abbrev pub IsSureAnswer : List ℕ → List ℕ → Result Got Fault → Type 0
IsSureAnswer down up (Ok (got.Piece bytes)) = Unit {0}
IsSureAnswer down up (Ok got.Idle) = OwesNothing down up
IsSureAnswer down up (Ok got.Closed) = ⊥
IsSureAnswer down up (Err faults.Failed) = ⊥
IsSureAnswer down up (Err faults.Memory) = Unit {0}

-- at least these amounts
pub record IsAtLeast (least amounts : Amounts) : Type 0 where
  pub cores : least.cores ≤ amounts.cores
  pub memory : least.memory ≤ amounts.memory
  pub disk : least.disk ≤ amounts.disk

-- a hello or totals of at least these amounts, with a cache for any job's inputs
pub record IsOfferOf (least total largest : Amounts) (cache : ℕ) : Type 0 where
  pub total_is : IsAtLeast least total
  pub largest_is : IsAtLeast least largest
  pub cache_is : most_input_bytes ≤ cache

-- Each hello and totals that has come up offers at least these amounts.
pub record OffersAtLeast (least : Amounts) (up : List ℕ) : Type 0 where
  pub hello : (total largest : Amounts) (cache : ℕ)
      → Carries up (messages.Hello total largest cache) → IsOfferOf least total largest cache
  pub totals : (total largest : Amounts) (cache : ℕ)
      → Carries up (messages.Totals total largest cache) → IsOfferOf least total largest cache
