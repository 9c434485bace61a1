-- How the top call ends.
use Rattle.std.proofs.Common.{◌≡◌, ◌⊎◌, ◌++◌, inl, inr, ℕ, List, Some, None, Ok, Err, sym, subst}
use Rattle.std.specs.Prelude.{IfErr, IfOk, Result}
use Rattle.flow_types.specs.declared.job.Outcome.{Outcome}
use Rattle.task_book.specs.declared.task.Submission.{Submission}
use Rattle.batch_run.specs.declared.cause.BatchCause.{BatchCause}
use Rattle.batch_run.specs.declared.cause.BatchCause.TheVariants as causes
use Rattle.batch_run.specs.declared.ends.End.{End}
use Rattle.batch_run.specs.declared.words.Ask.{Ask}
use Rattle.batch_run.specs.Batch.{printed}
use Rattle.batch_run.specs.Ends.{Called, Ended, Ends, EndSo, IsAsked, IsRefusal, Prints, ReadFails, RunFails, Stops}

module _ (tells : Type 0) (c : Called) where
  -- the words ask for nothing
  pub stops_words : (idle : Type 0) (cause : BatchCause) → (cause ≡ causes.Memory) ⊎ ((cause ≡ causes.Usage) × (c.asked ≡ None)) → Stops tells idle c cause
  stops_words idle cause (inl is) = subst (λ (x : BatchCause). Stops tells idle c x) (sym is) tt
  stops_words idle cause (inr so) = subst (λ (x : BatchCause). Stops tells idle c x) (sym so.0) so.1

  -- no tasks were read
  pub stops_read : (idle : Type 0) (ask : Ask) (cause : BatchCause) → c.asked ≡ Some ask → ReadFails tells c.files c.site_before c.site_now ask.file cause → Stops tells idle c cause
  stops_read idle ask causes.FileMissing asked fails = (ask, asked, fails)
  stops_read idle ask (causes.BadLine line) asked fails = (ask, asked, fails)
  stops_read idle ask causes.TooMany asked fails = (ask, asked, fails)
  stops_read idle ask (causes.SiteFault low high) asked fails = (ask, asked, fails)
  stops_read idle ask causes.Memory asked fails = tt
  stops_read idle ask causes.Done asked fails = absurd fails
  stops_read idle ask causes.Usage asked fails = absurd fails
  stops_read idle ask (causes.HallFault low high) asked fails = absurd fails
  stops_read idle ask (causes.SinkFault low high) asked fails = absurd fails
  stops_read idle ask causes.Idle asked fails = absurd fails

  -- the tasks weren't all given
  pub stops_undone : (idle : Type 0) (tasks : List Submission) (cause : BatchCause) → IsAsked tells c tasks → RunFails idle c.hall_before c.hall_now cause → Stops tells idle c cause
  stops_undone idle tasks (causes.HallFault low high) asked fails = (tasks, asked, fails)
  stops_undone idle tasks causes.Idle asked fails = (tasks, asked, fails)
  stops_undone idle tasks causes.Memory asked fails = tt
  stops_undone idle tasks causes.Done asked fails = absurd fails
  stops_undone idle tasks causes.Usage asked fails = absurd fails
  stops_undone idle tasks causes.FileMissing asked fails = absurd fails
  stops_undone idle tasks (causes.BadLine line) asked fails = absurd fails
  stops_undone idle tasks causes.TooMany asked fails = absurd fails
  stops_undone idle tasks (causes.SiteFault low high) asked fails = absurd fails
  stops_undone idle tasks (causes.SinkFault low high) asked fails = absurd fails

  pub stops_run : {A : Type 0} (idle : Type 0) (tasks : List Submission) (r : Result A BatchCause) → IsAsked tells c tasks → IfErr r (RunFails idle c.hall_before c.hall_now) → IfErr r (Stops tells idle c)
  stops_run idle tasks (Ok text) asked fails = tt
  stops_run idle tasks (Err cause) asked fails = stops_undone idle tasks cause asked fails

  -- each task was given
  pub ended_run : {A : Type 0} (bytes : A → List ℕ) (brought : Submission → Outcome → Type 0) (tasks : List Submission) (r : Result A BatchCause) → IsAsked tells c tasks
      → IfOk r (λ text. (done : List End) × EndSo brought tasks done × (bytes text ≡ printed done)) → IfOk r (λ text. (e : Ended brought tells c) × (bytes text ≡ printed e.done))
  ended_run bytes brought tasks (Ok text) asked so = (record { tasks = tasks; asked = asked; done = so.0; so = so.1 }, so.2)
  ended_run bytes brought tasks (Err cause) asked so = tt

-- the run of tasks ends with no refusal
never_refused : (idle : Type 0) (before now : ℕ) (cause : BatchCause) → RunFails idle before now cause → IsRefusal cause → ⊥
never_refused idle before now (causes.HallFault low high) fails is = is
never_refused idle before now causes.Idle fails is = is
never_refused idle before now causes.Memory fails is = is
never_refused idle before now causes.Done fails is = is
never_refused idle before now causes.Usage fails is = fails
never_refused idle before now causes.FileMissing fails is = fails
never_refused idle before now (causes.BadLine line) fails is = fails
never_refused idle before now causes.TooMany fails is = fails
never_refused idle before now (causes.SiteFault low high) fails is = fails
never_refused idle before now (causes.SinkFault low high) fails is = fails

pub unheard_run : {A H : Type 0} (idle : Type 0) (before now : ℕ) (old new : H) (r : Result A BatchCause) → IfErr r (RunFails idle before now) → IfErr r (λ cause. IsRefusal cause → new ≡ old)
unheard_run idle before now old new (Ok text) fails = tt
unheard_run idle before now old new (Err cause) fails = λ is. absurd (never_refused idle before now cause fails is)

-- what was printed is no refusal
pub printed_unheard : {H : Type 0} (prints : Type 0) (before now : ℕ) (old new text : List ℕ) (was is : H) (cause : BatchCause) → Prints prints before now old new text cause → IsRefusal cause → is ≡ was
printed_unheard prints before now old new text was is causes.Done so refused = absurd refused
printed_unheard prints before now old new text was is (causes.SinkFault low high) so refused = absurd refused
printed_unheard prints before now old new text was is causes.Memory so refused = absurd refused
printed_unheard prints before now old new text was is causes.Usage so refused = absurd so
printed_unheard prints before now old new text was is causes.FileMissing so refused = absurd so
printed_unheard prints before now old new text was is (causes.BadLine line) so refused = absurd so
printed_unheard prints before now old new text was is causes.TooMany so refused = absurd so
printed_unheard prints before now old new text was is (causes.SiteFault low high) so refused = absurd so
printed_unheard prints before now old new text was is (causes.HallFault low high) so refused = absurd so
printed_unheard prints before now old new text was is causes.Idle so refused = absurd so
