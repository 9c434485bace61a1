-- The same work goes on.
use Rattle.std.proofs.Common.{◌≡◌, inl, ℕ, zero, suc, List, [], ◌∷◌, map, Option, Some, None, refl, sym, ap, ◌∙◌, subst}
use Rattle.std.specs.Prelude.{slice_get, slice_set}
use Rattle.flow_types.specs.declared.numbers.AttemptNo.{AttemptNo}
use Rattle.task_book.specs.declared.task.Held.{Held}
use Rattle.task_book.specs.declared.task.Stage.{Stage}
use Rattle.task_book.specs.declared.task.Stage.TheVariants as stages
use Rattle.task_book.specs.declared.task.Submission.{Submission}
use Rattle.task_book.specs.declared.task.TaskId.{TaskId}
use Rattle.flow_types.specs.declared.job.Outcome.{Outcome}
use Rattle.task_book.specs.Kept.{Kept, place_running, staged, staged_at, staged_by}
use Rattle.task_book.specs.Stages.{EndsOn, EndsWith, RunsOn}
use Rattle.task_book.proofs.Staging.{place_ended_ends, place_ended_runs, place_waits_ends, place_waits_runs}
use Rattle.wq_seats.specs.Works.{IsSameWork, work_of, GoesOnAs}
use Rattle.wq_seats.specs.Tellings.{staged_where}

pub work_same : (k : Kept) → IsSameWork k k
work_same k = record { submitted = refl; given = refl; cancelled = refl; held = refl }

pub work_then : (k m n : Kept) → IsSameWork k m → IsSameWork m n → IsSameWork k n
work_then k m n a b = record {
  submitted = b.submitted ∙ a.submitted;
  given = b.given ∙ a.given;
  cancelled = b.cancelled ∙ a.cancelled;
  held = b.held ∙ a.held;
}

pub goes_same : (k : Kept) → GoesOnAs k k
goes_same k = record { work = work_same k; runs = λ a t run. run }

pub goes_then : (k m n : Kept) → GoesOnAs k m → GoesOnAs m n → GoesOnAs k n
goes_then k m n a b = record { work = work_then k m n a.work b.work; runs = λ x t run. a.runs x t (b.runs x t run) }

work_set : (held : List Held) (at : ℕ) (h : Held) (stage : Stage) → slice_get held at ≡ Some h → map work_of (slice_set held at (staged stage h)) ≡ map work_of held
work_set [] at h stage is = absurd cc
work_set (x ∷ held) zero h stage is = let same : x ≡ h = cc in ap (λ (y : Held). work_of y ∷ map work_of held) (sym same)
work_set (x ∷ held) (suc at) h stage is = ap (λ (ws : List (TaskId × Submission)). work_of x ∷ ws) (work_set held at h stage is)

pub work_by : (held : List Held) (at : ℕ) (stage : Stage) (p : Option Held) → slice_get held at ≡ p → map work_of (staged_by held at stage p) ≡ map work_of held
work_by held at stage None is = refl
work_by held at stage (Some h) is = work_set held at h stage is

work_at : (held : List Held) (p : Option ℕ) (stage : Stage) → map work_of (staged_at held p stage) ≡ map work_of held
work_at held None stage = refl
work_at held (Some at) stage = work_by held at stage (slice_get held at) refl

staged_work : (k n : Kept) (id : TaskId) (attempt : AttemptNo) (stage : Stage) → n ≡ record k { held = staged_at k.held (place_running id attempt k.held) stage } → IsSameWork k n
staged_work k n id attempt stage is = subst (λ (x : Kept). IsSameWork k x) (sym is) (record { submitted = refl; given = refl; cancelled = refl; held = work_at k.held (place_running id attempt k.held) stage })

pub waits_goes : (k n : Kept) (id : TaskId) (attempt : AttemptNo) → n ≡ record k { held = staged_at k.held (place_running id attempt k.held) stages.Waits } → GoesOnAs k n
waits_goes k n id attempt is = record {
  work = staged_work k n id attempt stages.Waits is;
  runs = subst (λ (x : Kept). RunsOn k.held x.held) (sym is) (place_waits_runs k.held id attempt);
}

pub ended_goes : (k n : Kept) (id : TaskId) (attempt : AttemptNo) (outcome : Outcome) → n ≡ record k { held = staged_at k.held (place_running id attempt k.held) (stages.Ended attempt outcome) } → GoesOnAs k n
ended_goes k n id attempt outcome is = record {
  work = staged_work k n id attempt (stages.Ended attempt outcome) is;
  runs = subst (λ (x : Kept). RunsOn k.held x.held) (sym is) (place_ended_runs k.held id attempt outcome);
}

-- the task at a place is in another stage
pub begun_work : (k n : Kept) (at : ℕ) (stage : Stage) → n ≡ record k { held = staged_by k.held at stage (slice_get k.held at) } → IsSameWork k n
begun_work k n at stage is = subst (λ (x : Kept). IsSameWork k x) (sym is) (record { submitted = refl; given = refl; cancelled = refl; held = work_by k.held at stage (slice_get k.held at) refl })

-- ---- where a task runs at a peer with the attempt

pub waits_where : (k : Kept) (p : Option TaskId) (attempt : AttemptNo) → GoesOnAs k (staged_where p attempt stages.Waits k)
waits_where k None attempt = goes_same k
waits_where k (Some id) attempt = waits_goes k (staged_where (Some id) attempt stages.Waits k) id attempt refl

pub ended_where : (k : Kept) (p : Option TaskId) (attempt : AttemptNo) (outcome : Outcome) → GoesOnAs k (staged_where p attempt (stages.Ended attempt outcome) k)
ended_where k None attempt outcome = goes_same k
ended_where k (Some id) attempt outcome = ended_goes k (staged_where (Some id) attempt (stages.Ended attempt outcome) k) id attempt outcome refl

pub waits_where_ends : (k : Kept) (p : Option TaskId) (attempt : AttemptNo) → EndsOn k.held (staged_where p attempt stages.Waits k).held
waits_where_ends k None attempt = λ a o t end. end
waits_where_ends k (Some id) attempt = place_waits_ends k.held id attempt

pub ended_where_ends : (k : Kept) (p : Option TaskId) (attempt : AttemptNo) (outcome : Outcome) → EndsWith k.held (staged_where p attempt (stages.Ended attempt outcome) k).held attempt outcome
ended_where_ends k None attempt outcome = λ a o t end. inl end
ended_where_ends k (Some id) attempt outcome = place_ended_ends k.held id attempt outcome
