-- A queue over a hall that is manned.
use Rattle.std.proofs.Common.{◌≡◌, inl, inr, ℕ, zero, suc, false, map, List, [], ◌∷◌, ◌++◌, length, Option, None, Some, Result, Ok, Err, refl, sym, subst, arith}
use Rattle.std.specs.Prelude.{IfNone, IfOk, IfSome, OnErr, OnOk, is_err, remove}
use Rattle.flow_types.specs.declared.numbers.Amounts.{Amounts}
use Rattle.flow_types.specs.declared.numbers.AttemptNo.{AttemptNo}
use Rattle.task_book.specs.declared.refused.SubmitRefused.{SubmitRefused}
use Rattle.task_book.specs.declared.task.Held.{Held}
use Rattle.task_book.specs.declared.task.Ready.{Ready}
use Rattle.task_book.specs.declared.task.Submission.{Submission}
use Rattle.task_book.specs.declared.task.TaskId.{TaskId}
use Rattle.task_book.specs.Kept.{Kept, cancelled_at, next_id, submitted_to, waiting_as}
use Rattle.task_book.specs.Stages.{RunsAs}
use Rattle.wq_submit.specs.declared.cause.QueueCame.{QueueCame}
use Rattle.wq_submit.specs.declared.cause.QueueCame.TheVariants as came
use Rattle.wq_submit.specs.declared.cause.WaitFault.{WaitFault}
use Rattle.wq_submit.specs.declared.cause.WaitFault.TheVariants as faults
use Rattle.wq_company.specs.declared.company.Stop.{Stop}
use Rattle.wq_company.specs.declared.company.Stop.TheVariants as stops
use Rattle.wq_company.specs.Companies.{AreSureOf, AreWithin, AreRun}
use Rattle.wq_submit.specs.Queues.{IsAnswered, IsHallFault, IsStaffed, QueueState}
use Rattle.wq_company.specs.Rounds.{IsMet, UnlessWanting}
use Rattle.wq_seats.specs.Works.{IsWithin, work_of}
use Rattle.wq_seats.specs.Seats.{SeatState}
use Rattle.wq_submit.proofs.Calling.{GivesNone, GivesOne}

-- ---- where tasks run, over the calls of a queue

pub run_on : {L : Type 0} (held new : List Held) (seats : List (SeatState L)) → ((id : TaskId) (a : AttemptNo) → RunsAs new id a → RunsAs held id a) → AreRun held seats → AreRun new seats
run_on held new seats on are id a run = are id a (on id a run)

left_as : (held : List Held) (at : ℕ) (id : TaskId) (a : AttemptNo) → RunsAs (remove held at) id a → RunsAs held id a
left_as [] zero id a run = run
left_as [] (suc at) id a run = run
left_as (x ∷ held) zero id a run = inr run
left_as (x ∷ held) (suc at) id a (inl this) = inl this
left_as (x ∷ held) (suc at) id a (inr rest) = inr (left_as held at id a rest)

more_as : (held : List Held) (next : TaskId) (task : Submission) (id : TaskId) (a : AttemptNo) → RunsAs (held ++ waiting_as next task ∷ []) id a → RunsAs held id a
more_as [] next task id a (inl this) = absurd (let is = this.1 in let wrong : ⊥ = cc in wrong)
more_as [] next task id a (inr none) = none
more_as (x ∷ held) next task id a (inl this) = inl this
more_as (x ∷ held) next task id a (inr rest) = inr (more_as held next task id a rest)

pub submitted_as : (k n : Kept) (task : Submission) (r : Result TaskId SubmitRefused) → IfOk r (λ id. (id ≡ next_id k) × (n ≡ submitted_to k task)) → OnErr r (n ≡ k) → (id : TaskId) (a : AttemptNo) → RunsAs n.held id a → RunsAs k.held id a
submitted_as k n task (Ok i) ok err id a run = more_as k.held (next_id k) task id a (subst (λ (x : Kept). RunsAs x.held id a) ok.1 run)
submitted_as k n task (Err why) ok err id a run = subst (λ (x : Kept). RunsAs x.held id a) err run

pub cancelled_as : (k n : Kept) (i : TaskId) (p : Option ℕ) → n ≡ cancelled_at k i p → (id : TaskId) (a : AttemptNo) → RunsAs n.held id a → RunsAs k.held id a
cancelled_as k n i None is id a run = subst (λ (x : Kept). RunsAs x.held id a) is run
cancelled_as k n i (Some at) is id a run = left_as k.held at id a (subst (λ (x : Kept). RunsAs x.held id a) is run)

pub given_as : (k n : Kept) (r : Option Ready) → IfNone r (GivesNone k n) → IfSome r (GivesOne k n) → (id : TaskId) (a : AttemptNo) → RunsAs n.held id a → RunsAs k.held id a
given_as k n None none some id a run = subst (λ (x : Kept). RunsAs x.held id a) none.1 run
given_as k n (Some ready) none some id a run = left_as k.held some.0 id a (subst (λ (x : Kept). RunsAs x.held id a) some.4 run)

-- ---- answers

pub ok_of : {T E : Type 0} (P : Type 0) (r : Result T E) → is_err r ≡ false → OnOk r P → P
ok_of P (Ok x) is p = p
ok_of P (Err e) is p = absurd (let wrong : ⊥ = cc in wrong)

pub within_by : (least : Amounts) (task : Submission) (id : TaskId) (r : Result TaskId SubmitRefused) → IsWithin least task.needs → OnOk r (IsWithin least task.needs)
within_by least task id (Ok i) is = is
within_by least task id (Err why) is = tt

pub unless_map : {T : Type 0} (P Q : Type 0) (r : Result T Stop) → (P → Q) → UnlessWanting r P → UnlessWanting r Q
unless_map P Q (Ok x) to p = to p
unless_map P Q (Err stops.Hall) to p = to p
unless_map P Q (Err stops.Memory) to p = tt

pub came_is : (c d : QueueCame) → (let r : Result QueueCame WaitFault = Ok c in r ≡ Ok d) → c ≡ d
came_is c d is = cc

pub answered_now : (c : QueueCame) → (c ≡ came.Idle → ⊥) → (let r : Result QueueCame WaitFault = Ok c in IsAnswered r)
answered_now (came.Got ready) never = tt
answered_now came.Empty never = tt
answered_now came.Idle never = never refl

pub answered : (r : Result QueueCame WaitFault) (before now : ℕ) → (r ≡ Ok came.Idle → ⊥) → IsHallFault before now r → now ≡ before → IsAnswered r
answered (Ok (came.Got ready)) before now never fault same = tt
answered (Ok came.Empty) before now never fault same = tt
answered (Ok came.Idle) before now never fault same = never refl
answered (Err (faults.Hall low high)) before now never fault same = let a = fault.0 in let b = fault.1 in let d = fault.2 in omega (arith, a, b, d, same)
answered (Err faults.Memory) before now never fault same = tt

-- ---- a staffed queue

module _ {L X : Type 0} (sure : L → Type 0) (offers : L → Amounts → Type 0) (manned staffed : X → Amounts → Type 0) (least : Amounts) where
  abbrev pub Staffed : X → QueueState L → Type 0
  Staffed hall q = IsStaffed sure offers manned staffed least hall q

  abbrev pub Met : X → List L → Type 0
  Met hall live = IsMet manned staffed least hall live

  -- the hall goes on
  pub met_on : (hall now : X) (live : List L) → (manned hall least → manned now least) → (staffed hall least → staffed now least) → Met hall live → Met now live
  met_on hall now live one two (inl first) = inl (one first)
  met_on hall now live one two (inr met) = inr (two met.0, met.1)

  -- as many live
  pub met_many : (hall : X) (live after : List L) → length after ≡ length live → Met hall live → Met hall after
  met_many hall live after same (inl first) = inl first
  met_many hall live after same (inr met) = inr (met.0, let some = met.1 in omega (arith, same, some))

  -- the same links live, and of what is held this is so still
  pub staffed_as : (hall : X) (q now : QueueState L) → now.live ≡ q.live → (AreWithin least (map work_of q.kept.held) → AreWithin least (map work_of now.kept.held)) → Staffed hall q → Staffed hall now
  staffed_as hall q now same tasks is = record {
    met = subst (λ (ws : List L). Met hall ws) (sym same) is.met;
    links = subst (λ (ws : List L). AreSureOf sure offers least ws) (sym same) is.links;
    tasks = tasks is.tasks;
  }
