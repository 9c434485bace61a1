-- What a word says of its attempt.
use Rattle.std.proofs.Common.{◌≡◌, ℕ, Bool, true, false, inl, inr, List, Option, Some, None, is_some, Result, refl, sym, ap, subst}
use Rattle.std.specs.Prelude.{slice_get, nat_lt}
use Rattle.flow_types.specs.declared.numbers.AttemptNo.{AttemptNo}
use Rattle.flow_types.specs.declared.numbers.FileNo.{FileNo}
use Rattle.flow_types.specs.declared.job.Outcome.{Outcome}
use Rattle.flow_types.specs.declared.job.Outcome.TheVariants as outcomes
use Rattle.flow_types.specs.declared.messages.Message.{Message}
use Rattle.flow_types.specs.declared.messages.Message.TheVariants as messages
use Rattle.link_session.specs.declared.open.Open.{Open}
use Rattle.link_session.specs.declared.word.Word.{Word}
use Rattle.link_session.specs.declared.word.SessionFault.{SessionFault}
use Rattle.link_session.specs.Fits.{has_all, outcome_fits}
use Rattle.link_session.specs.Laws.{ClosesItsAttempt}
use Rattle.link_session.specs.Sessions.{State, Told, Comes, AreApart, place, hears, says, closed_at, word_of, ended_at, ended_by, lacked_at, lacked_by, most_misses}
use Rattle.link_session.proofs.Attempts.{closed}

-- the word of a step closes its attempt
abbrev Closing : State → Told → Type 0
Closing s t = ClosesItsAttempt t.answer s.attempts t.state.attempts

fitting : (s : State) (attempt : AttemptNo) (outcome : Outcome) (at : ℕ) → AreApart s.attempts → place attempt s.attempts ≡ Some at → Closing s (says (closed_at s at) (word_of attempt outcome))
fitting s attempt (outcomes.Success contents) at h is = (ap (λ (p : Option ℕ). is_some p) is, closed attempt s.attempts at h is)
fitting s attempt (outcomes.Failed why) at h is = (ap (λ (p : Option ℕ). is_some p) is, closed attempt s.attempts at h is)
fitting s attempt outcomes.NotRun at h is = (ap (λ (p : Option ℕ). is_some p) is, closed attempt s.attempts at h is)

ended_fits : (s : State) (attempt : AttemptNo) (outcome : Outcome) (at : ℕ) (o : Open) (b : Bool) → outcome_fits o.bounds outcome ≡ b
    → AreApart s.attempts → place attempt s.attempts ≡ Some at → Closing s (ended_by s attempt outcome at (Some o))
ended_fits s attempt outcome at o true e h is = rw e (fitting s attempt outcome at h is)
ended_fits s attempt outcome at o false e h is = rw e tt

ended_closes : (s : State) (attempt : AttemptNo) (outcome : Outcome) (at : ℕ) (p : Option Open) → AreApart s.attempts → place attempt s.attempts ≡ Some at → Closing s (ended_by s attempt outcome at p)
ended_closes s attempt outcome at None h is = tt
ended_closes s attempt outcome at (Some o) h is = ended_fits s attempt outcome at o (outcome_fits o.bounds outcome) refl h is

ended : (s : State) (attempt : AttemptNo) (outcome : Outcome) (p : Option ℕ) → place attempt s.attempts ≡ p → AreApart s.attempts → Closing s (ended_at s attempt outcome p)
ended s attempt outcome None is h = tt
ended s attempt outcome (Some at) is h = ended_closes s attempt outcome at (slice_get s.attempts at) h is

lacked_few : (s : State) (attempt : AttemptNo) (files : List FileNo) (at : ℕ) (o : Open) (b few : Bool) → has_all o.files files ≡ b → nat_lt o.misses most_misses ≡ few
    → AreApart s.attempts → place attempt s.attempts ≡ Some at → Closing s (lacked_by s attempt files at (Some o))
lacked_few s attempt files at o true true e f h is = rw (e, f) tt
lacked_few s attempt files at o true false e f h is = rw (e, f) (ap (λ (p : Option ℕ). is_some p) is, closed attempt s.attempts at h is)
lacked_few s attempt files at o false few e f h is = rw e tt

lacked_closes : (s : State) (attempt : AttemptNo) (files : List FileNo) (at : ℕ) (p : Option Open) → AreApart s.attempts → place attempt s.attempts ≡ Some at → Closing s (lacked_by s attempt files at p)
lacked_closes s attempt files at None h is = tt
lacked_closes s attempt files at (Some o) h is = lacked_few s attempt files at o (has_all o.files files) (nat_lt o.misses most_misses) refl refl h is

lacked : (s : State) (attempt : AttemptNo) (files : List FileNo) (p : Option ℕ) → place attempt s.attempts ≡ p → AreApart s.attempts → Closing s (lacked_at s attempt files p)
lacked s attempt files None is h = tt
lacked s attempt files (Some at) is h = lacked_closes s attempt files at (slice_get s.attempts at) h is

pub hearing_closes : (s : State) (m : Message) → AreApart s.attempts → Closing s (hears s m)
hearing_closes s (messages.Done attempt outcome) h = ended s attempt outcome (place attempt s.attempts) refl h
hearing_closes s (messages.Missing attempt files) h = lacked s attempt files (place attempt s.attempts) refl h
hearing_closes s (messages.Hello total largest cache) h = tt
hearing_closes s (messages.Put key content) h = tt
hearing_closes s (messages.Task task) h = tt
hearing_closes s (messages.Cancel attempt) h = tt
hearing_closes s (messages.Unlink key) h = tt
hearing_closes s (messages.Totals total largest cache) h = tt
hearing_closes s messages.Bye h = tt

pub comes_closing : (t : Told) (old new : State) (answer : Result Word SessionFault) → Closing old t → Comes t old answer new → ClosesItsAttempt answer old.attempts new.attempts
comes_closing t old new answer closing (inl h) =
    subst (λ (r : Result Word SessionFault). ClosesItsAttempt r old.attempts new.attempts) (sym h.0)
    (subst (λ (s : State). ClosesItsAttempt t.answer old.attempts s.attempts) (sym h.1) closing)
comes_closing t old new answer closing (inr h) =
    subst (λ (r : Result Word SessionFault). ClosesItsAttempt r old.attempts new.attempts) (sym h.0) tt
