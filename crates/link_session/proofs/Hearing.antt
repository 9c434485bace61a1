-- What an end and missing inputs mean, by what is kept of the attempt.
use Rattle.std.proofs.Common.{◌≡◌, ℕ, true, false, inl, List, length, get_or, Some, Ok, Err, refl, sym, ap, ◌∙◌}
use Rattle.std.specs.Prelude.{slice_get, remove, nat_lt}
use Rattle.std.proofs.lemmas.Bool.{ltb-true}
use Rattle.std.proofs.lemmas.Option.{slice_get-get_or}
use Rattle.flow_types.specs.declared.numbers.AttemptNo.{AttemptNo}
use Rattle.flow_types.specs.declared.numbers.FileNo.{FileNo}
use Rattle.flow_types.specs.declared.job.Outcome.{Outcome}
use Rattle.link_session.specs.declared.open.Open.{Open}
use Rattle.link_session.specs.declared.word.Word.{Word}
use Rattle.link_session.specs.declared.word.Word.TheVariants as words
use Rattle.link_session.specs.declared.word.SessionFault.TheVariants as faults
use Rattle.link_session.specs.Fits.{has_all, outcome_fits}
use Rattle.link_session.specs.Keys.{all_forgotten}
use Rattle.link_session.specs.Sessions.{State, Comes, breaks, closed_at, ended_at, lacked_at, missed_at, most_misses, place, word_of}

-- what was lent of a list stands there
pub stands : (all lent : List Open) (at : ℕ) (o : Open) → lent ≡ all → true ≡ nat_lt at (length lent) → o ≡ get_or lent at o → slice_get all at ≡ Some o
stands all lent at o same within is =
    ap (λ (os : List Open). slice_get os at) (sym same)
    ∙ slice_get-get_or lent at o (ltb-true at (length lent) (sym within))
    ∙ ap (λ (x : Open). Some x) (sym is)

pub unfit : (s new : State) (attempt : AttemptNo) (outcome : Outcome) (at : ℕ) (o : Open)
    → place attempt s.attempts ≡ Some at → slice_get s.attempts at ≡ Some o → outcome_fits o.bounds outcome ≡ false
    → new ≡ (breaks s).state
    → Comes (ended_at s attempt outcome (place attempt s.attempts)) s (Err faults.Unexpected) new
unfit s new attempt outcome at o is got fits same = rw (is, got, fits) (inl (refl, same))

pub ended : (s new : State) (attempt : AttemptNo) (outcome : Outcome) (at : ℕ) (o : Open) (word : Word)
    → place attempt s.attempts ≡ Some at → slice_get s.attempts at ≡ Some o → outcome_fits o.bounds outcome ≡ true
    → word ≡ word_of attempt outcome → new ≡ closed_at s at
    → Comes (ended_at s attempt outcome (place attempt s.attempts)) s (Ok word) new
ended s new attempt outcome at o word is got fits said same = rw (is, got, fits) (inl (ap (λ (w : Word). Ok w) said, same))

pub put_again : (s new : State) (attempt : AttemptNo) (files : List FileNo) (at : ℕ) (o : Open)
    → place attempt s.attempts ≡ Some at → slice_get s.attempts at ≡ Some o → has_all o.files files ≡ true → nat_lt o.misses most_misses ≡ true
    → new ≡ record s { attempts = missed_at s.attempts at (Some o) }
    → Comes (lacked_at s attempt files (place attempt s.attempts)) s (Ok (words.PutAgain attempt files)) new
put_again s new attempt files at o is got all few same = rw (is, got, all, few) (inl (refl, same))

pub lost : (s new : State) (attempt : AttemptNo) (files : List FileNo) (at : ℕ) (o : Open)
    → place attempt s.attempts ≡ Some at → slice_get s.attempts at ≡ Some o → has_all o.files files ≡ true → nat_lt o.misses most_misses ≡ false
    → new ≡ record s { known = all_forgotten s.known o.run files; attempts = remove s.attempts at }
    → Comes (lacked_at s attempt files (place attempt s.attempts)) s (Ok (words.Lose attempt)) new
lost s new attempt files at o is got all few same = rw (is, got, all, few) (inl (refl, same))
