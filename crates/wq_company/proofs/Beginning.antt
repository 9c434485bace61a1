-- What a task that begins makes of what runs, and what is so where none was placed.
use Rattle.std.proofs.Common.{◌≡◌, ◌≤◌, ◌<◌, ◌+◌, ◌⊎◌, inl, inr, ℕ, zero, suc, true, false, map, List, [], ◌∷◌, length, take, Option, Some, None, refl, sym, ◌∙◌, subst, arith, true≢false}
use Rattle.std.specs.Prelude.{IfSome, slice_get, slice_set}
use Rattle.std.specs.List.{AllByRecursion}
use Rattle.flow_types.specs.declared.numbers.Amounts.{Amounts}
use Rattle.flow_types.specs.declared.numbers.AttemptNo.{AttemptNo}
use Rattle.task_book.specs.declared.task.Held.{Held}
use Rattle.task_book.specs.declared.task.Stage.{Stage}
use Rattle.task_book.specs.declared.task.Stage.TheVariants as stages
use Rattle.task_book.specs.declared.task.Submission.{Submission}
use Rattle.task_book.specs.declared.task.TaskId.{TaskId}
use Rattle.task_book.specs.Kept.{Kept, is_end, place_ended, staged, staged_by}
use Rattle.task_book.specs.Lines.{NoneBefore, is_waiting, waiting_in, waiting_of}
use Rattle.task_book.specs.Stages.{RunsAs}
use Rattle.task_book.proofs.Positions.{none_passes_at}
use Rattle.wq_seats.specs.Works.{IsKnown, work_of}
use Rattle.wq_company.specs.Companies.{AreReady, AreRun, AreRunBut, IsRunBy, gone_of}
use Rattle.wq_seats.specs.Turns.{IsOf}
use Rattle.wq_seats.specs.Seats.{SeatState}
use Rattle.wq_company.proofs.Knowing.{Known, known_at}

runs_set : (held : List Held) (at : ℕ) (h : Held) (stage : Stage) (id : TaskId) (a : AttemptNo) → slice_get held at ≡ Some h → RunsAs (slice_set held at (staged stage h)) id a → RunsAs held id a ⊎ ((h.id ≡ id) × (stage ≡ stages.Runs a))
runs_set [] at h stage id a is run = absurd cc
runs_set (x ∷ held) zero h stage id a is (inl this) = inr this
runs_set (x ∷ held) zero h stage id a is (inr rest) = inl (inr rest)
runs_set (x ∷ held) (suc at) h stage id a is (inl this) = inl (inl this)
runs_set (x ∷ held) (suc at) h stage id a is (inr rest) = later (runs_set held at h stage id a is rest)
  where
    later : RunsAs held id a ⊎ ((h.id ≡ id) × (stage ≡ stages.Runs a)) → RunsAs (x ∷ held) id a ⊎ ((h.id ≡ id) × (stage ≡ stages.Runs a))
    later (inl run) = inl (inr run)
    later (inr new) = inr new

set_there : (xs : List Held) (at : ℕ) (x y : Held) → slice_get xs at ≡ Some x → slice_get (slice_set xs at y) at ≡ Some y
set_there [] at x y is = absurd cc
set_there (z ∷ xs) zero x y is = refl
set_there (z ∷ xs) (suc at) x y is = set_there xs at x y is

run_is : (begun a : AttemptNo) → (let s : Stage = stages.Runs begun in s ≡ stages.Runs a) → a ≡ begun
run_is begun a is = cc

module _ {L : Type 0} where
  but_one : (held : List Held) (at : ℕ) (h : Held) (begun : AttemptNo) (seats : List (SeatState L)) → slice_get held at ≡ Some h → AreRun held seats
      → AreRunBut (slice_get (slice_set held at (staged (stages.Runs begun) h)) at) begun (slice_set held at (staged (stages.Runs begun) h)) seats
  but_one held at h begun seats is are id a run =
      subst (λ (q : Option Held). IsRunBy id a seats ⊎ IsOf q begun id a) (sym (set_there held at h (staged (stages.Runs begun) h) is)) (by (runs_set held at h (stages.Runs begun) id a is run))
    where
      by : RunsAs held id a ⊎ ((h.id ≡ id) × ((let s : Stage = stages.Runs begun in s) ≡ stages.Runs a)) → IsRunBy id a seats ⊎ ((id ≡ h.id) × (a ≡ begun))
      by (inl was) = inl (are id a was)
      by (inr new) = inr (sym new.0, run_is begun a new.1)

  but_by : (held : List Held) (at : ℕ) (begun : AttemptNo) (seats : List (SeatState L)) (p : Option Held) → slice_get held at ≡ p → AreRun held seats
      → AreRunBut (slice_get (staged_by held at (stages.Runs begun) p) at) begun (staged_by held at (stages.Runs begun) p) seats
  but_by held at begun seats None is are = λ id a run. inl (are id a run)
  but_by held at begun seats (Some h) is are = but_one held at h begun seats is are

  -- once a task runs, each runs at a peer but this one
  pub begun_but : (k n : Kept) (at : ℕ) (begun : AttemptNo) (seats : List (SeatState L)) → n ≡ record k { held = staged_by k.held at (stages.Runs begun) (slice_get k.held at) } → AreRun k.held seats
      → AreRunBut (slice_get n.held at) begun n.held seats
  begun_but k n at begun seats is are = subst (λ (x : Kept). AreRunBut (slice_get x.held at) begun x.held seats) (sym is) (but_by k.held at begun seats (slice_get k.held at) refl are)

-- what is so of the task at a place is so of it once it runs
known_by : (files : List (List ℕ)) (held : List Held) (at : ℕ) (begun : AttemptNo) (p : Option Held) → slice_get held at ≡ p → IfSome p (λ h. IsKnown files h.task) → IfSome (slice_get (staged_by held at (stages.Runs begun) p) at) (λ h. IsKnown files h.task)
known_by files held at begun None is known = subst (λ (q : Option Held). IfSome q (λ h. IsKnown files h.task)) (sym is) tt
known_by files held at begun (Some h) is known = subst (λ (q : Option Held). IfSome q (λ h. IsKnown files h.task)) (sym (set_there held at h (staged (stages.Runs begun) h) is)) known

pub begun_known : (files : List (List ℕ)) (k n : Kept) (at : ℕ) (begun : AttemptNo) → n ≡ record k { held = staged_by k.held at (stages.Runs begun) (slice_get k.held at) } → IfSome (slice_get k.held at) (λ h. IsKnown files h.task)
    → IfSome (slice_get n.held at) (λ h. IsKnown files h.task)
begun_known files k n at begun is known = subst (λ (x : Kept). IfSome (slice_get x.held at) (λ h. IsKnown files h.task)) (sym is) (known_by files k.held at begun (slice_get k.held at) refl known)

-- and a fact that needs a task there holds as before
some_by : (held : List Held) (at : ℕ) (begun : AttemptNo) (p : Option Held) (Q : Type 0) → slice_get held at ≡ p → IfSome (slice_get (staged_by held at (stages.Runs begun) p) at) (λ h. Q) → IfSome p (λ h. Q)
some_by held at begun None Q is so = tt
some_by held at begun (Some h) Q is so = subst (λ (q : Option Held). IfSome q (λ h. Q)) (set_there held at h (staged (stages.Runs begun) h) is) so

pub begun_some : (k n : Kept) (at : ℕ) (begun : AttemptNo) (Q : Type 0) → n ≡ record k { held = staged_by k.held at (stages.Runs begun) (slice_get k.held at) } → IfSome (slice_get n.held at) (λ h. Q) → IfSome (slice_get k.held at) (λ h. Q)
begun_some k n at begun Q is so = some_by k.held at begun (slice_get k.held at) Q refl (subst (λ (x : Kept). IfSome (slice_get x.held at) (λ h. Q)) is so)

-- ---- none waits

not_waits : (task : Submission) (stage : Stage) → waiting_of task stage ≡ None → is_waiting stage ≡ false
not_waits task stages.Waits is = absurd (let wrong : ⊥ = cc in wrong)
not_waits task (stages.Runs a) is = refl
not_waits task (stages.Ended a o) is = refl

-- the task at a place doesn't wait, nor does one before
pub none_next : (held : List Held) (at : ℕ) → waiting_in (slice_get held at) ≡ None → NoneBefore is_waiting at held → NoneBefore is_waiting (at + 1) held
none_next held at is none = rw add_one_is (by held at is none)
  where
    add_one_is : at + 1 ≡ suc at
    add_one_is = omega arith

    by : (xs : List Held) (k : ℕ) → waiting_in (slice_get xs k) ≡ None → NoneBefore is_waiting k xs → NoneBefore is_waiting (suc k) xs
    by [] zero is none = tt
    by [] (suc k) is none = tt
    by (x ∷ xs) zero is none = (not_waits x.task x.stage is, tt)
    by (x ∷ xs) (suc k) is none = (none.0, by xs k is none.1)

taken_all : (P : Held → Type 0) (xs : List Held) → AllByRecursion P (take (length xs) xs) → AllByRecursion P xs
taken_all P [] all = tt
taken_all P (x ∷ xs) all = (all.0, taken_all P xs all.1)

ended_by : (stage : Stage) → is_waiting stage ≡ false → ((a : AttemptNo) → stage ≡ stages.Runs a → ⊥) → is_end stage ≡ true
ended_by stages.Waits waits runs = absurd (let wrong : ⊥ = cc in wrong)
ended_by (stages.Runs a) waits runs = absurd (runs a refl)
ended_by (stages.Ended a o) waits runs = refl

-- where none waits and none runs, each came to its end
pub all_ended : (held : List Held) → NoneBefore is_waiting (length held) held → ((id : TaskId) (a : AttemptNo) → RunsAs held id a → ⊥) → AllByRecursion (λ h. is_end h.stage ≡ true) held
all_ended held waits runs = by held (taken_all (λ (h : Held). is_waiting h.stage ≡ false) held waits) runs
  where
    by : (xs : List Held) → AllByRecursion (λ (h : Held). is_waiting h.stage ≡ false) xs → ((id : TaskId) (a : AttemptNo) → RunsAs xs id a → ⊥) → AllByRecursion (λ h. is_end h.stage ≡ true) xs
    by [] all none = tt
    by (x ∷ xs) all none = (ended_by x.stage all.0 (λ a is. none x.id a (inl (refl, is))), by xs all.1 (λ id a run. none id a (inr run)))

-- then none is held, where none came to its end
pub none_held : (held : List Held) → AllByRecursion (λ h. is_end h.stage ≡ true) held → place_ended held ≡ None → held ≡ []
none_held held ended none = by held ended (none_passes_at (λ (h : Held). is_end h.stage) held none)
  where
    by : (xs : List Held) → AllByRecursion (λ h. is_end h.stage ≡ true) xs → AllByRecursion (λ (h : Held). is_end h.stage ≡ false) xs → xs ≡ []
    by [] all none = refl
    by (x ∷ xs) all none = absurd (true≢false (sym all.0 ∙ none.0))

-- no task before a place waits, behind which there is none
pub none_up_to : (held : List Held) (at : ℕ) → length held ≤ at → NoneBefore is_waiting at held → NoneBefore is_waiting (length held) held
none_up_to [] at less none = tt
none_up_to (x ∷ held) zero less none = absurd (let wrong : ⊥ = omega (arith, less) in wrong)
none_up_to (x ∷ held) (suc at) less none = (none.0, none_up_to held at (omega (arith, less)) none.1)

-- ---- the task at a place that waits

waiting_at : (p : Option Held) (task : Submission) → waiting_in p ≡ Some task → (h : Held) × (p ≡ Some h) × (h.task ≡ task)
waiting_at None task is = absurd (let wrong : ⊥ = cc in wrong)
waiting_at (Some h) task is = (h, refl, by h.stage is)
  where
    by : (stage : Stage) → waiting_of h.task stage ≡ Some task → h.task ≡ task
    by stages.Waits same = cc
    by (stages.Runs a) same = absurd (let wrong : ⊥ = cc in wrong)
    by (stages.Ended a o) same = absurd (let wrong : ⊥ = cc in wrong)

-- what is so of each held task is so of it
pub waiting_fact : (P : TaskId × Submission → Type 0) (held : List Held) (at : ℕ) (task : Submission) → waiting_in (slice_get held at) ≡ Some task → AllByRecursion P (map work_of held) → (id : TaskId) × P (id, task)
waiting_fact P held at task waits all =
    let h = waiting_at (slice_get held at) task waits in
    (h.0.id, subst (λ (t : Submission). P (h.0.id, t)) h.2 (known_at P held at h.0 h.1 all))

pub waiting_known : (files : List (List ℕ)) (held : List Held) (at : ℕ) → AllByRecursion (Known files) (map work_of held) → IfSome (slice_get held at) (λ h. IsKnown files h.task)
waiting_known files held at all = by (slice_get held at) refl
  where
    by : (p : Option Held) → slice_get held at ≡ p → IfSome p (λ h. IsKnown files h.task)
    by None is = tt
    by (Some h) is = known_at (Known files) held at h is all

none_within : {L : Type 0} (xs : List (SeatState L)) (k : ℕ) → k < length xs → slice_get xs k ≡ None → ⊥
none_within {L} [] k less none = omega (arith, less)
none_within {L} (x ∷ xs) zero less none = cc
none_within {L} (x ∷ xs) (suc k) less none = none_within xs k (omega (arith, less)) none

-- it began where each peer is ready
pub busy_never : {L : Type 0} (least : Amounts) (held : List Held) (at : ℕ) (task : Submission) → waiting_in (slice_get held at) ≡ Some task → (seats now : List (SeatState L)) (place : ℕ) → place < length seats
    → IfSome (slice_get seats place) (λ s. s.gone ≡ false)
    → IfSome (slice_get held at) (λ h. IfSome (slice_get seats place) (λ s. s.gone ≡ false → gone_of now ≡ gone_of seats → AreReady least now → ⊥)) → gone_of now ≡ gone_of seats → AreReady least now → ⊥
busy_never {L} least held at task waits seats now place less lives busy same ready =
    let h = waiting_at (slice_get held at) task waits in
    let some = subst (λ (p : Option Held). IfSome p (λ h. IfSome (slice_get seats place) (λ s. s.gone ≡ false → gone_of now ≡ gone_of seats → AreReady least now → ⊥))) h.1 busy in
    by (slice_get seats place) refl lives some
  where
    by : (q : Option (SeatState L)) → slice_get seats place ≡ q → IfSome q (λ s. s.gone ≡ false) → IfSome q (λ s. s.gone ≡ false → gone_of now ≡ gone_of seats → AreReady least now → ⊥) → ⊥
    by None none a b = none_within seats place less none
    by (Some s) is a b = b a same ready
