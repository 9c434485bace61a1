-- A session as a machine: which keys are known, which attempts are open, and what a message means.
use Rattle.std.specs.Prelude.{◌≡◌, ◌⊎◌, ℕ, ◌+◌, ◌==◌, Bool, true, false, nat_lt, if◌then◌else◌, List, [], ◌∷◌, ◌++◌, map, position, remove, slice_get, slice_set, is_some, Option, Some, None, Result, Ok, Err, ⊤}
use Rattle.std.specs.List.{AllByRecursion}
use Rattle.flow_types.specs.declared.numbers.AttemptNo.{AttemptNo}
use Rattle.flow_types.specs.declared.numbers.FileNo.{FileNo}
use Rattle.flow_types.specs.declared.job.Outcome.{Outcome}
use Rattle.flow_types.specs.declared.job.Outcome.TheVariants as outcomes
use Rattle.flow_types.specs.declared.job.Task.{Task}
use Rattle.flow_types.specs.declared.messages.Key.{Key}
use Rattle.flow_types.specs.declared.messages.Message.{Message}
use Rattle.flow_types.specs.declared.messages.Message.TheVariants as messages
use Rattle.link_session.specs.declared.open.Open.{Open}
use Rattle.link_session.specs.declared.session.Stage.{Stage}
use Rattle.link_session.specs.declared.session.Stage.TheVariants as stages
use Rattle.link_session.specs.declared.word.Word.{Word}
use Rattle.link_session.specs.declared.word.Word.TheVariants as words
use Rattle.link_session.specs.declared.word.SessionFault.{SessionFault}
use Rattle.link_session.specs.declared.word.SessionFault.TheVariants as faults
use Rattle.link_session.specs.Fits.{has_all, outcome_fits}
use Rattle.link_session.specs.Keys.{all_forgotten, learned}

-- The session's own run, how far it has come, the keys that are known, and the open attempts,
-- oldest first.
pub record State : Type 0 where
  pub run : ℕ
  pub stage : Stage
  pub known : List Key
  pub attempts : List Open

-- the hello is still to come: no message came
abbrev pub awaits_hello : Stage → Bool
awaits_hello stages.New = true
awaits_hello stages.Greeted = false
awaits_hello stages.Broken = false

-- ---- open attempts

-- it is that of the attempt
abbrev pub is_of : AttemptNo → Open → Bool
is_of attempt o = o.attempt.0 == attempt.0

-- where an attempt stands among these
abbrev pub place : AttemptNo → List Open → Option ℕ
place attempt attempts = position (is_of attempt) attempts

-- the attempt is one of these
abbrev pub is_open : AttemptNo → List Open → Bool
is_open attempt attempts = is_some (place attempt attempts)

-- None of these is that of the attempt.
abbrev pub HasNone : AttemptNo → List Open → Type 0
HasNone attempt others = AllByRecursion (λ other. is_of attempt other ≡ false) others

-- No attempt is open twice.
abbrev pub AreApart : List Open → Type 0
AreApart [] = ⊤
AreApart (o ∷ others) = HasNone o.attempt others × AreApart others

-- what is kept of a task while it is open
abbrev pub opened : Task → Open
opened t = record {
  attempt = t.attempt;
  run = t.run;
  files = map (λ port. port.file) t.inputs;
  bounds = map (λ want. want.bound) t.outputs;
  misses = 0;
}

-- the session once a task was sent
abbrev pub started : State → Task → State
started s t =
    record s { known = learned s.known t.run t.inputs; attempts = s.attempts ++ opened t ∷ [] }

-- without the attempt at this place
abbrev pub closed_at : State → ℕ → State
closed_at s at = record s { attempts = remove s.attempts at }

-- the same, where there is one
abbrev pub closed_where : State → Option ℕ → State
closed_where s None = s
closed_where s (Some at) = closed_at s at

-- ---- messages

-- the session after a message, and what the message means
pub record Told : Type 0 where
  pub state : State
  pub answer : Result Word SessionFault

-- the message means this, and this is the session after it
abbrev pub says : State → Word → Told
says s word = record { state = s; answer = Ok word }

-- the peer spoke out of turn, or against a task
abbrev pub breaks : State → Told
breaks s =
    record { state = record s { stage = stages.Broken }; answer = Err faults.Unexpected }

-- what the end of an attempt means
abbrev pub word_of : AttemptNo → Outcome → Word
word_of attempt (outcomes.Success contents) = words.Finish attempt
word_of attempt (outcomes.Failed why) = words.Fail attempt why
word_of attempt outcomes.NotRun = words.Lose attempt

-- an attempt has ended so, by what is kept of it at this place
abbrev pub ended_by : State → AttemptNo → Outcome → ℕ → Option Open → Told
ended_by s attempt outcome at None = says s (words.Stale attempt)
ended_by s attempt outcome at (Some o) =
    if outcome_fits o.bounds outcome then says (closed_at s at) (word_of attempt outcome)
    else breaks s

-- the same by its place
abbrev pub ended_at : State → AttemptNo → Outcome → Option ℕ → Told
ended_at s attempt outcome None = says s (words.Stale attempt)
ended_at s attempt outcome (Some at) =
    ended_by s attempt outcome at (slice_get s.attempts at)

-- how often inputs may be missing before the attempt is lost
abbrev pub most_misses : ℕ
most_misses = 2

-- inputs were missing once more
abbrev pub missed : Open → Open
missed o = record o { misses = o.misses + 1 }

-- the attempts, where inputs of this one were missing once more
abbrev pub missed_at : List Open → ℕ → Option Open → List Open
missed_at attempts at None = attempts
missed_at attempts at (Some o) = slice_set attempts at (missed o)

-- the inputs are put once more
abbrev pub put_again : State → AttemptNo → List FileNo → ℕ → Open → Told
put_again s attempt files at o =
    says (record s { attempts = missed_at s.attempts at (Some o) }) (words.PutAgain attempt files)

-- the attempt is lost, and the keys of these inputs are known no more
abbrev pub lost : State → AttemptNo → List FileNo → ℕ → Open → Told
lost s attempt files at o =
    says
    (record s {
      known = all_forgotten s.known o.run files;
      attempts = remove s.attempts at;
    })
    (words.Lose attempt)

-- the peer lacks these inputs of an attempt, by what is kept of it at this place
abbrev pub lacked_by : State → AttemptNo → List FileNo → ℕ → Option Open → Told
lacked_by s attempt files at None = says s (words.Stale attempt)
lacked_by s attempt files at (Some o) =
    if has_all o.files files then (
    if nat_lt o.misses most_misses then put_again s attempt files at o
    else lost s attempt files at o
    ) else breaks s

-- the same by its place
abbrev pub lacked_at : State → AttemptNo → List FileNo → Option ℕ → Told
lacked_at s attempt files None = says s (words.Stale attempt)
lacked_at s attempt files (Some at) = lacked_by s attempt files at (slice_get s.attempts at)

-- the first message
abbrev pub greets : State → Message → Told
greets s (messages.Hello total largest cache) =
    says (record s { stage = stages.Greeted }) (words.Joined total largest cache)
greets s _ = breaks s

-- a message behind the hello
abbrev pub hears : State → Message → Told
hears s (messages.Done attempt outcome) = ended_at s attempt outcome (place attempt s.attempts)
hears s (messages.Missing attempt files) = lacked_at s attempt files (place attempt s.attempts)
hears s (messages.Totals total largest cache) = says s (words.Changed total largest cache)
hears s _ = breaks s

-- a message, by how far the session has come
abbrev pub told_by : State → Message → Stage → Told
told_by s m stages.New = greets s m
told_by s m stages.Greeted = hears s m
told_by s m stages.Broken = record { state = s; answer = Err faults.Unexpected }

-- what a message means, and the session after it
abbrev pub told : State → Message → Told
told s m = told_by s m s.stage

-- It was so, or there was no memory and nothing changed.
abbrev pub Comes : Told → State → Result Word SessionFault → State → Type 0
Comes t old answer new =
    ((answer ≡ t.answer) × (new ≡ t.state)) ⊎ ((answer ≡ Err faults.Memory) × (new ≡ old))
