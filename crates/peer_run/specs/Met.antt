-- What a worker meets over its link: messages, and the ends of the jobs that it started. The newest
-- stands first.
use Rattle.std.specs.Prelude.{◌≡◌, ℕ, Bool, true, false, List, [], ◌∷◌, ◌++◌, ◌||◌}
use Rattle.flow_types.specs.declared.job.Job.{Job}
use Rattle.flow_types.specs.declared.job.Outcome.{Outcome}
use Rattle.flow_types.specs.declared.job.Start.{Start}
use Rattle.flow_types.specs.declared.messages.Message.{Message}
use Rattle.flow_types.specs.declared.messages.Message.TheVariants as messages
use Rattle.flow_types.specs.declared.numbers.Amounts.{Amounts}
use Rattle.worker_core.specs.Workers.{Worker, goes_up, hears, reports}
use Rattle.worker_pool.specs.Courses.{TakesOut}
use Rattle.worker_pool.specs.Tallies.{none, plus, tally_of}
use Rattle.worker_pool.specs.declared.hand.Tally.{Tally}

-- what a worker meets
pub data Met : Type 0 where
  -- a message came
  came : Message → Met
  -- a start that it waited for has ended so
  ended : Start → Outcome → Met

-- a worker with these amounts and such a cache, which keeps and runs nothing
abbrev pub new_worker : Amounts → ℕ → Worker
new_worker total cap = record { total = total; cache = record { cap = cap; rows = [] }; running = [] }

-- what a worker says first
abbrev pub hello_of : Worker → Message
hello_of w = messages.Hello w.total w.total w.cache.cap

-- the worker once it met these
abbrev pub worker_of : Worker → List Met → Worker
worker_of w [] = w
worker_of w (came m ∷ past) = (hears (worker_of w past) m).worker
worker_of w (ended start outcome ∷ past) = (reports (worker_of w past) start.attempt outcome).worker

-- what it says by then, its hello first
abbrev pub said_of : Worker → List Met → List Message
said_of w [] = hello_of w ∷ []
said_of w (came m ∷ past) = said_of w past ++ (hears (worker_of w past) m).acts.send
said_of w (ended start outcome ∷ past) =
    said_of w past ++ (reports (worker_of w past) start.attempt outcome).acts.send

-- the messages that came, the oldest first
abbrev pub heard_of : List Met → List Message
heard_of [] = []
heard_of (came m ∷ past) = heard_of past ++ m ∷ []
heard_of (ended start outcome ∷ past) = heard_of past

-- it is the message that ends the work
abbrev pub is_bye : Message → Bool
is_bye messages.Bye = true
is_bye _ = false

-- the message that ends the work came
abbrev pub has_left : List Met → Bool
has_left [] = false
has_left (came m ∷ past) = is_bye m || has_left past
has_left (ended start outcome ∷ past) = has_left past

-- how many of the jobs that ended weren't run, and how many failed
abbrev pub ended_of : List Met → Tally
ended_of [] = none
ended_of (came m ∷ past) = ended_of past
ended_of (ended start outcome ∷ past) = plus (ended_of past) (tally_of outcome)

-- They are in order: nothing comes after Bye, nothing comes that only goes up, and each job that
-- ended was started, fits its outcome and waited till then. The last argument is what waits.
abbrev pub AreInOrder : (Job → Outcome → Type 0) → Worker → List Met → List Start → Type 0
AreInOrder fits w [] waiting = waiting ≡ []
AreInOrder fits w (came m ∷ past) waiting =
    (before : List Start) × AreInOrder fits w past before × (has_left past ≡ false)
    × (goes_up m ≡ false) × (waiting ≡ before ++ (hears (worker_of w past) m).acts.start)
AreInOrder fits w (ended start outcome ∷ past) waiting =
    (before : List Start) × AreInOrder fits w past before × TakesOut start before waiting
    × fits start.job outcome
