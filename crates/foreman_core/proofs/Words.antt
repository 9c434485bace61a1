-- What a word of a session says of its message.
use Rattle.std.proofs.Common.{◌≡◌, ℕ, Bool, true, false, cond, List, Option, Some, None, Result, Ok, Err, refl}
use Rattle.std.specs.Prelude.{slice_get, nat_lt}
use Rattle.flow_types.specs.declared.numbers.AttemptNo.{AttemptNo}
use Rattle.flow_types.specs.declared.numbers.FileNo.{FileNo}
use Rattle.flow_types.specs.declared.job.Outcome.{Outcome}
use Rattle.flow_types.specs.declared.job.Outcome.TheVariants as outcomes
use Rattle.flow_types.specs.declared.messages.Message.{Message}
use Rattle.flow_types.specs.declared.messages.Message.TheVariants as messages
use Rattle.link_session.specs.declared.open.Open.{Open}
use Rattle.link_session.specs.declared.session.Stage.{Stage}
use Rattle.link_session.specs.declared.session.Stage.TheVariants as stages
use Rattle.link_session.specs.declared.word.Word.{Word}
use Rattle.link_session.specs.declared.word.Word.TheVariants as words
use Rattle.link_session.specs.declared.word.SessionFault.{SessionFault}
use Rattle.link_session.specs.Fits.{has_all, outcome_fits}
use Rattle.link_session.specs.Sessions.{State, says, breaks, place, word_of, closed_at, ended_by, ended_at, most_misses, put_again, lost, lacked_by, lacked_at, greets, hears, told_by, told}
use Rattle.foreman_core.specs.Steps.{outcome_in}

-- a word that ends an attempt has its end from the message
abbrev pub IsFrom : Message → Word → Type 0
IsFrom m (words.Finish attempt) = m ≡ messages.Done attempt (outcome_in m)
IsFrom m (words.Fail attempt why) = m ≡ messages.Done attempt (outcomes.Failed why)
IsFrom m _ = Unit {0}

-- the same of an answer, where it is a word
abbrev pub IsAnswerFrom : Message → Result Word SessionFault → Type 0
IsAnswerFrom m (Ok word) = IsFrom m word
IsAnswerFrom m (Err why) = Unit {0}

ends_from : (attempt : AttemptNo) (outcome : Outcome) → IsFrom (messages.Done attempt outcome) (word_of attempt outcome)
ends_from attempt (outcomes.Success contents) = refl
ends_from attempt (outcomes.Failed why) = refl
ends_from attempt outcomes.NotRun = tt

ended_from : (s : State) (attempt : AttemptNo) (outcome : Outcome) (at : ℕ) (found : Option Open) → IsAnswerFrom (messages.Done attempt outcome) (ended_by s attempt outcome at found).answer
ended_from s attempt outcome at None = tt
ended_from s attempt outcome at (Some o) = by (outcome_fits o.bounds outcome)
  where
    by : (b : Bool) → IsAnswerFrom (messages.Done attempt outcome) (cond b (says (closed_at s at) (word_of attempt outcome)) (breaks s)).answer
    by true = ends_from attempt outcome
    by false = tt

ended_where : (s : State) (attempt : AttemptNo) (outcome : Outcome) (found : Option ℕ) → IsAnswerFrom (messages.Done attempt outcome) (ended_at s attempt outcome found).answer
ended_where s attempt outcome None = tt
ended_where s attempt outcome (Some at) = ended_from s attempt outcome at (slice_get s.attempts at)

lacked_from : (s : State) (m : Message) (attempt : AttemptNo) (files : List FileNo) (at : ℕ) (found : Option Open) → IsAnswerFrom m (lacked_by s attempt files at found).answer
lacked_from s m attempt files at None = tt
lacked_from s m attempt files at (Some o) = by (has_all o.files files) (nat_lt o.misses most_misses)
  where
    by : (a b : Bool) → IsAnswerFrom m (cond a (cond b (put_again s attempt files at o) (lost s attempt files at o)) (breaks s)).answer
    by false b = tt
    by true true = tt
    by true false = tt

lacked_where : (s : State) (m : Message) (attempt : AttemptNo) (files : List FileNo) (found : Option ℕ) → IsAnswerFrom m (lacked_at s attempt files found).answer
lacked_where s m attempt files None = tt
lacked_where s m attempt files (Some at) = lacked_from s m attempt files at (slice_get s.attempts at)

heard_from : (s : State) (m : Message) → IsAnswerFrom m (hears s m).answer
heard_from s (messages.Done attempt outcome) = ended_where s attempt outcome (place attempt s.attempts)
heard_from s (messages.Missing attempt files) = lacked_where s (messages.Missing attempt files) attempt files (place attempt s.attempts)
heard_from s (messages.Totals total largest cache) = tt
heard_from s (messages.Hello total largest cache) = tt
heard_from s (messages.Put key content) = tt
heard_from s (messages.Task task) = tt
heard_from s (messages.Cancel attempt) = tt
heard_from s (messages.Unlink key) = tt
heard_from s messages.Bye = tt

greets_from : (s : State) (m : Message) → IsAnswerFrom m (greets s m).answer
greets_from s (messages.Done attempt outcome) = tt
greets_from s (messages.Missing attempt files) = tt
greets_from s (messages.Totals total largest cache) = tt
greets_from s (messages.Hello total largest cache) = tt
greets_from s (messages.Put key content) = tt
greets_from s (messages.Task task) = tt
greets_from s (messages.Cancel attempt) = tt
greets_from s (messages.Unlink key) = tt
greets_from s messages.Bye = tt

told_from_stage : (s : State) (m : Message) (stage : Stage) → IsAnswerFrom m (told_by s m stage).answer
told_from_stage s m stages.New = greets_from s m
told_from_stage s m stages.Greeted = heard_from s m
told_from_stage s m stages.Broken = tt

pub told_from : (s : State) (m : Message) → IsAnswerFrom m (told s m).answer
told_from s m = told_from_stage s m s.stage
