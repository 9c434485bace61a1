-- Which held tasks run and came to their ends, where one is in another stage.
use Rattle.std.proofs.Common.{◌≡◌, ◌⊎◌, inl, inr, ℕ, zero, suc, Bool, true, false, List, [], ◌∷◌, Option, Some, None, refl, sym, ap, subst, ◌∙◌, true≢false}
use Rattle.std.specs.Prelude.{◌==◌, ◌&&◌, slice_get, slice_set}
use Rattle.std.proofs.lemmas.Bool.{eqb-true}
use Rattle.flow_types.specs.declared.job.Outcome.{Outcome}
use Rattle.flow_types.specs.declared.numbers.AttemptNo.{AttemptNo}
use Rattle.task_book.specs.declared.task.Held.{Held}
use Rattle.task_book.specs.declared.task.Stage.{Stage}
use Rattle.task_book.specs.declared.task.Stage.TheVariants as stages
use Rattle.task_book.specs.declared.task.Submission.{Submission}
use Rattle.task_book.specs.declared.task.TaskId.{TaskId}
use Rattle.task_book.specs.Kept.{is_run, is_running, place_running, staged, staged_at, staged_by}
use Rattle.task_book.specs.Stages.{Ends, EndsOn, EndsWith, Runs, RunsOn, RunsWith}
use Rattle.task_book.proofs.Positions.{found}

-- a stage that is a run with the attempt
pub run_is : (attempt : AttemptNo) (stage : Stage) → is_run attempt stage ≡ true → stage ≡ stages.Runs attempt
run_is attempt stages.Waits is = absurd (true≢false (sym is))
run_is attempt (stages.Runs other) is =
    ap (λ (n : ℕ). stages.Runs (record { 0 = n })) (eqb-true other.0 attempt.0 is)
run_is attempt (stages.Ended other outcome) is = absurd (true≢false (sym is))

-- the one at a place runs
pub runs_there : (held : List Held) (at : ℕ) (h : Held) (attempt : AttemptNo) → slice_get held at ≡ Some h → h.stage ≡ stages.Runs attempt → Runs held attempt h.task
runs_there [] at h attempt is run = absurd cc
runs_there (x ∷ held) zero h attempt is run =
    let same : x ≡ h = cc in
    inl (ap (λ (y : Held). y.stage) same ∙ run, ap (λ (y : Held). y.task) same)
runs_there (x ∷ held) (suc at) h attempt is run = inr (runs_there held at h attempt is run)

-- what runs once one is in another stage
pub staged_runs : (held : List Held) (at : ℕ) (h : Held) (stage : Stage) → slice_get held at ≡ Some h → (a : AttemptNo) (t : Submission)
    → Runs (slice_set held at (staged stage h)) a t → Runs held a t ⊎ ((stage ≡ stages.Runs a) × (h.task ≡ t))
staged_runs [] at h stage is a t run = absurd cc
staged_runs (x ∷ held) zero h stage is a t (inl this) = inr this
staged_runs (x ∷ held) zero h stage is a t (inr rest) = inl (inr rest)
staged_runs (x ∷ held) (suc at) h stage is a t (inl this) = inl (inl this)
staged_runs (x ∷ held) (suc at) h stage is a t (inr rest) = later (staged_runs held at h stage is a t rest)
  where
    later : Runs held a t ⊎ ((stage ≡ stages.Runs a) × (h.task ≡ t)) → Runs (x ∷ held) a t ⊎ ((stage ≡ stages.Runs a) × (h.task ≡ t))
    later (inl run) = inl (inr run)
    later (inr new) = inr new

-- what came to its end once one is in another stage
pub staged_ends : (held : List Held) (at : ℕ) (h : Held) (stage : Stage) → slice_get held at ≡ Some h → (a : AttemptNo) (o : Outcome) (t : Submission)
    → Ends (slice_set held at (staged stage h)) a o t → Ends held a o t ⊎ ((stage ≡ stages.Ended a o) × (h.task ≡ t))
staged_ends [] at h stage is a o t end = absurd cc
staged_ends (x ∷ held) zero h stage is a o t (inl this) = inr this
staged_ends (x ∷ held) zero h stage is a o t (inr rest) = inl (inr rest)
staged_ends (x ∷ held) (suc at) h stage is a o t (inl this) = inl (inl this)
staged_ends (x ∷ held) (suc at) h stage is a o t (inr rest) = later (staged_ends held at h stage is a o t rest)
  where
    later : Ends held a o t ⊎ ((stage ≡ stages.Ended a o) × (h.task ≡ t)) → Ends (x ∷ held) a o t ⊎ ((stage ≡ stages.Ended a o) × (h.task ≡ t))
    later (inl end) = inl (inr end)
    later (inr new) = inr new

-- ---- one begins

abbrev run_stage : AttemptNo → Stage
run_stage a = stages.Runs a

begun_runs_by : (held : List Held) (at : ℕ) (h : Held) (attempt a : AttemptNo) (t : Submission)
    → Runs held a t ⊎ ((run_stage attempt ≡ stages.Runs a) × (h.task ≡ t)) → Runs held a t ⊎ ((a ≡ attempt) × (t ≡ h.task))
begun_runs_by held at h attempt a t (inl run) = inl run
begun_runs_by held at h attempt a t (inr new) =
    let is = new.0 in
    let same : attempt ≡ a = cc in
    inr (sym same, sym new.1)

pub begun_runs : (held : List Held) (at : ℕ) (h : Held) (attempt : AttemptNo) → slice_get held at ≡ Some h → RunsWith held (slice_set held at (staged (stages.Runs attempt) h)) attempt h.task
begun_runs held at h attempt is a t run = begun_runs_by held at h attempt a t (staged_runs held at h (stages.Runs attempt) is a t run)

no_end_by : (held : List Held) (h : Held) (stage : Stage) (a : AttemptNo) (o : Outcome) (t : Submission) → (stage ≡ stages.Ended a o → ⊥)
    → Ends held a o t ⊎ ((stage ≡ stages.Ended a o) × (h.task ≡ t)) → Ends held a o t
no_end_by held h stage a o t none (inl end) = end
no_end_by held h stage a o t none (inr new) = absurd (none new.0)

pub begun_ends : (held : List Held) (at : ℕ) (h : Held) (attempt : AttemptNo) → slice_get held at ≡ Some h → EndsOn held (slice_set held at (staged (stages.Runs attempt) h))
begun_ends held at h attempt is a o t end =
    no_end_by held h (stages.Runs attempt) a o t (λ e. let wrong : ⊥ = cc in wrong) (staged_ends held at h (stages.Runs attempt) is a o t end)

-- ---- one waits again

pub waits_ends : (held : List Held) (at : ℕ) (h : Held) → slice_get held at ≡ Some h → EndsOn held (slice_set held at (staged stages.Waits h))
waits_ends held at h is a o t end =
    no_end_by held h stages.Waits a o t (λ e. let wrong : ⊥ = cc in wrong) (staged_ends held at h stages.Waits is a o t end)

no_run_by : (held : List Held) (h : Held) (stage : Stage) (a : AttemptNo) (t : Submission) → (stage ≡ stages.Runs a → ⊥)
    → Runs held a t ⊎ ((stage ≡ stages.Runs a) × (h.task ≡ t)) → Runs held a t
no_run_by held h stage a t none (inl run) = run
no_run_by held h stage a t none (inr new) = absurd (none new.0)

pub waits_runs : (held : List Held) (at : ℕ) (h : Held) → slice_get held at ≡ Some h → RunsOn held (slice_set held at (staged stages.Waits h))
waits_runs held at h is a t run =
    no_run_by held h stages.Waits a t (λ e. let wrong : ⊥ = cc in wrong) (staged_runs held at h stages.Waits is a t run)

-- ---- one ends

pub ended_runs : (held : List Held) (at : ℕ) (h : Held) (attempt : AttemptNo) (outcome : Outcome) → slice_get held at ≡ Some h
    → RunsOn held (slice_set held at (staged (stages.Ended attempt outcome) h))
ended_runs held at h attempt outcome is a t run =
    no_run_by held h (stages.Ended attempt outcome) a t (λ e. let wrong : ⊥ = cc in wrong) (staged_runs held at h (stages.Ended attempt outcome) is a t run)

abbrev end_stage : AttemptNo → Outcome → Stage
end_stage a o = stages.Ended a o

ended_by : (held : List Held) (h : Held) (attempt : AttemptNo) (outcome : Outcome) (a : AttemptNo) (o : Outcome) (t : Submission) → Runs held attempt h.task
    → Ends held a o t ⊎ ((end_stage attempt outcome ≡ stages.Ended a o) × (h.task ≡ t)) → Ends held a o t ⊎ ((a ≡ attempt) × (o ≡ outcome) × Runs held attempt t)
ended_by held h attempt outcome a o t run (inl end) = inl end
ended_by held h attempt outcome a o t run (inr new) =
    let is = new.0 in
    let one : attempt ≡ a = cc in
    let two : outcome ≡ o = cc in
    inr (sym one, sym two, subst (λ (x : Submission). Runs held attempt x) new.1 run)

pub ended_ends : (held : List Held) (at : ℕ) (h : Held) (attempt : AttemptNo) (outcome : Outcome) → slice_get held at ≡ Some h → h.stage ≡ stages.Runs attempt
    → EndsWith held (slice_set held at (staged (stages.Ended attempt outcome) h)) attempt outcome
ended_ends held at h attempt outcome is run a o t end =
    ended_by held h attempt outcome a o t (runs_there held at h attempt is run) (staged_ends held at h (stages.Ended attempt outcome) is a o t end)

-- ---- by the place of the one that runs

pub both_second : (a b : Bool) → (a && b) ≡ true → b ≡ true
both_second true b e = e
both_second false b e = absurd (true≢false (sym e))

staged_place : (held : List Held) (p : Option ℕ) (id : TaskId) (attempt : AttemptNo) (stage : Stage) (fact : List Held → Type 0) → place_running id attempt held ≡ p → fact held
    → ((at : ℕ) (h : Held) → slice_get held at ≡ Some h → h.stage ≡ stages.Runs attempt → fact (slice_set held at (staged stage h))) → fact (staged_at held p stage)
staged_place held None id attempt stage fact is none some = none
staged_place held (Some at) id attempt stage fact is none some =
    let f = found (is_running id attempt) held at is in
    let runs = both_second (f.item.id.0 == id.0) (is_run attempt f.item.stage) f.passes in
    subst (λ (q : Option Held). fact (staged_by held at stage q)) (sym f.is_there) (some at f.item f.is_there (run_is attempt f.item.stage runs))

pub place_waits_runs : (held : List Held) (id : TaskId) (attempt : AttemptNo) → RunsOn held (staged_at held (place_running id attempt held) stages.Waits)
place_waits_runs held id attempt =
    staged_place held (place_running id attempt held) id attempt stages.Waits (λ (new : List Held). RunsOn held new) refl (λ a t run. run) (λ at h is run. waits_runs held at h is)

pub place_waits_ends : (held : List Held) (id : TaskId) (attempt : AttemptNo) → EndsOn held (staged_at held (place_running id attempt held) stages.Waits)
place_waits_ends held id attempt =
    staged_place held (place_running id attempt held) id attempt stages.Waits (λ (new : List Held). EndsOn held new) refl (λ a o t end. end) (λ at h is run. waits_ends held at h is)

pub place_ended_runs : (held : List Held) (id : TaskId) (attempt : AttemptNo) (outcome : Outcome) → RunsOn held (staged_at held (place_running id attempt held) (stages.Ended attempt outcome))
place_ended_runs held id attempt outcome =
    staged_place held (place_running id attempt held) id attempt (stages.Ended attempt outcome) (λ (new : List Held). RunsOn held new) refl (λ a t run. run)
    (λ at h is run. ended_runs held at h attempt outcome is)

pub place_ended_ends : (held : List Held) (id : TaskId) (attempt : AttemptNo) (outcome : Outcome)
    → EndsWith held (staged_at held (place_running id attempt held) (stages.Ended attempt outcome)) attempt outcome
place_ended_ends held id attempt outcome =
    staged_place held (place_running id attempt held) id attempt (stages.Ended attempt outcome) (λ (new : List Held). EndsWith held new attempt outcome) refl (λ a o t end. inl end)
    (λ at h is run. ended_ends held at h attempt outcome is run)
