-- What the calls of a queue make of the tasks that run, and of those that came to their ends.
use Rattle.std.proofs.Common.{◌≡◌, ◌+◌, inl, inr, ℕ, zero, suc, map, List, [], ◌∷◌, ◌++◌, length, Option, None, Some, Result, Ok, Err, sym, subst}
use Rattle.std.specs.Prelude.{IfNone, IfOk, IfSome, OnErr, remove}
use Rattle.std.specs.List.{AllByRecursion}
use Rattle.flow_types.specs.declared.job.Failure.{Failure}
use Rattle.flow_types.specs.declared.job.Job.{Job}
use Rattle.flow_types.specs.declared.numbers.AttemptNo.{AttemptNo}
use Rattle.flow_types.specs.declared.numbers.FileNo.{FileNo}
use Rattle.flow_types.specs.Serial.{Function}
use Rattle.links.specs.declared.passing.Passed.{Passed}
use Rattle.task_book.specs.declared.task.Held.{Held}
use Rattle.task_book.specs.declared.task.Ready.{Ready}
use Rattle.task_book.specs.declared.task.Submission.{Submission}
use Rattle.task_book.specs.declared.task.TaskId.{TaskId}
use Rattle.task_book.specs.declared.refused.FileRefused.{FileRefused}
use Rattle.task_book.specs.declared.refused.SubmitRefused.{SubmitRefused}
use Rattle.task_book.specs.Kept.{IsEndedAt, Kept, cancelled_at, given_at, next_id, place_ended, submitted_to, waiting_as}
use Rattle.task_book.specs.Stages.{EndsOn, RunsOn}
use Rattle.wq_company.specs.Companies.{AreServed}
use Rattle.wq_seats.specs.Works.{work_of}
use Rattle.wq_seats.specs.Seats.{SeatState}
use Rattle.wq_submit.proofs.Knowing.{known_left}
use Rattle.wq_company.proofs.Serving.{served_with}

-- a task that waits runs with no attempt
pub more_runs : (held : List Held) (id : TaskId) (task : Submission) → RunsOn held (held ++ waiting_as id task ∷ [])
more_runs [] id task a t (inl this) = absurd (let is = this.0 in let wrong : ⊥ = cc in wrong)
more_runs [] id task a t (inr none) = none
more_runs (x ∷ held) id task a t (inl this) = inl this
more_runs (x ∷ held) id task a t (inr rest) = inr (more_runs held id task a t rest)

-- ---- the queue's calls

left_runs : (held : List Held) (at : ℕ) → RunsOn held (remove held at)
left_runs [] zero a t run = run
left_runs [] (suc at) a t run = run
left_runs (x ∷ held) zero a t run = inr run
left_runs (x ∷ held) (suc at) a t (inl this) = inl this
left_runs (x ∷ held) (suc at) a t (inr rest) = inr (left_runs held at a t rest)

cancelled_by : (k : Kept) (id : TaskId) (p : Option ℕ) → RunsOn k.held (cancelled_at k id p).held
cancelled_by k id None a t run = run
cancelled_by k id (Some at) a t run = left_runs k.held at a t run

-- no attempt runs more once a task was cancelled
pub cancelled_runs : (k n : Kept) (id : TaskId) (p : Option ℕ) → n ≡ cancelled_at k id p → RunsOn k.held n.held
cancelled_runs k n id p is = subst (λ (x : Kept). RunsOn k.held x.held) (sym is) (cancelled_by k id p)

-- nor once one was submitted
pub submitted_runs : (k n : Kept) (task : Submission) (r : Result TaskId SubmitRefused) → IfOk r (λ id. (id ≡ next_id k) × (n ≡ submitted_to k task)) → OnErr r (n ≡ k) → RunsOn k.held n.held
submitted_runs k n task (Ok id) ok err = subst (λ (x : Kept). RunsOn k.held x.held) (sym ok.1) (more_runs k.held (next_id k) task)
submitted_runs k n task (Err why) ok err = subst (λ (x : Kept). RunsOn k.held x.held) (sym err) (λ a t run. run)

module _ {L : Type 0} (gives : Function) (may_fail : Job → Failure → Type 0) (history : L → List Passed) where
  -- the peers stay at work where a file comes
  pub served_added : (files now : List (List ℕ)) (content : List ℕ) (r : Result FileNo FileRefused) (held : List Held) (next : ℕ) (seats : List (SeatState L))
      → IfOk r (λ file. (file.0 ≡ length files) × (now ≡ files ++ content ∷ [])) → OnErr r (now ≡ files)
      → AreServed gives may_fail history files held next seats → AreServed gives may_fail history now held next seats
  served_added files now content (Ok file) held next seats ok err all =
      subst (λ (fs : List (List ℕ)). AreServed gives may_fail history fs held next seats) (sym ok.1) (served_with gives may_fail history files (content ∷ []) held next seats all)
  served_added files now content (Err why) held next seats ok err all = subst (λ (fs : List (List ℕ)). AreServed gives may_fail history fs held next seats) (sym err) all

-- ---- the queue gives a task

left_ends : (held : List Held) (at : ℕ) → EndsOn held (remove held at)
left_ends [] zero a o t end = end
left_ends [] (suc at) a o t end = end
left_ends (x ∷ held) zero a o t end = inr end
left_ends (x ∷ held) (suc at) a o t (inl this) = inl this
left_ends (x ∷ held) (suc at) a o t (inr rest) = inr (left_ends held at a o t rest)

-- What giving says, by its answer.
abbrev pub GivesNone : Kept → Kept → Type 0
GivesNone k n = (place_ended k.held ≡ None) × (n ≡ k)

abbrev pub GivesOne : Kept → Kept → Ready → Type 0
GivesOne k n ready = (at : ℕ) × (attempt : AttemptNo) × (place_ended k.held ≡ Some at) × IsEndedAt k.held at (record { id = ready.id; attempt = attempt }) ready.outcome
    × (n ≡ given_at k at (record { id = ready.id; attempt = attempt }))

pub given_runs : (k n : Kept) (r : Option Ready) → IfNone r (GivesNone k n) → IfSome r (GivesOne k n) → RunsOn k.held n.held
given_runs k n None none some = subst (λ (x : Kept). RunsOn k.held x.held) (sym none.1) (λ a t run. run)
given_runs k n (Some ready) none some = subst (λ (x : Kept). RunsOn k.held x.held) (sym some.4) (left_runs k.held some.0)

pub given_ends : (k n : Kept) (r : Option Ready) → IfNone r (GivesNone k n) → IfSome r (GivesOne k n) → EndsOn k.held n.held
given_ends k n None none some = subst (λ (x : Kept). EndsOn k.held x.held) (sym none.1) (λ a o t end. end)
given_ends k n (Some ready) none some = subst (λ (x : Kept). EndsOn k.held x.held) (sym some.4) (left_ends k.held some.0)

pub known_given : (P : TaskId × Submission → Type 0) (k n : Kept) (r : Option Ready) → IfNone r (GivesNone k n) → IfSome r (GivesOne k n) → AllByRecursion P (map work_of k.held) → AllByRecursion P (map work_of n.held)
known_given P k n None none some all = subst (λ (x : Kept). AllByRecursion P (map work_of x.held)) (sym none.1) all
known_given P k n (Some ready) none some all = subst (λ (x : Kept). AllByRecursion P (map work_of x.held)) (sym some.4) (known_left P k.held some.0 all)

-- ---- what came to its end, over the calls of a queue

more_ends : (held : List Held) (id : TaskId) (task : Submission) → EndsOn held (held ++ waiting_as id task ∷ [])
more_ends [] id task a o t (inl this) = absurd (let is = this.0 in let wrong : ⊥ = cc in wrong)
more_ends [] id task a o t (inr none) = none
more_ends (x ∷ held) id task a o t (inl this) = inl this
more_ends (x ∷ held) id task a o t (inr rest) = inr (more_ends held id task a o t rest)

pub submitted_ends : (k n : Kept) (task : Submission) (r : Result TaskId SubmitRefused) → IfOk r (λ id. (id ≡ next_id k) × (n ≡ submitted_to k task)) → OnErr r (n ≡ k) → EndsOn k.held n.held
submitted_ends k n task (Ok id) ok err = subst (λ (x : Kept). EndsOn k.held x.held) (sym ok.1) (more_ends k.held (next_id k) task)
submitted_ends k n task (Err why) ok err = subst (λ (x : Kept). EndsOn k.held x.held) (sym err) (λ a o t end. end)

pub cancelled_ends : (k n : Kept) (id : TaskId) (p : Option ℕ) → n ≡ cancelled_at k id p → EndsOn k.held n.held
cancelled_ends k n id None is = subst (λ (x : Kept). EndsOn k.held x.held) (sym is) (λ a o t end. end)
cancelled_ends k n id (Some at) is = subst (λ (x : Kept). EndsOn k.held x.held) (sym is) (left_ends k.held at)
