-- All peers of a queue at work, while the book and the files go on.
use Rattle.std.proofs.Common.{◌≡◌, ◌≤◌, ◌<◌, ◌+◌, ◌⊎◌, inl, inr, ℕ, zero, suc, Bool, true, false, cond, List, [], ◌∷◌, ◌++◌, Option, None, Some, refl, sym, subst, arith}
use Rattle.std.specs.Prelude.{IfSome, slice_get, slice_set}
use Rattle.std.specs.List.{AllByRecursion}
use Rattle.flow_types.specs.declared.job.Failure.{Failure}
use Rattle.flow_types.specs.declared.job.Job.{Job}
use Rattle.flow_types.specs.declared.numbers.AttemptNo.{AttemptNo}
use Rattle.flow_types.specs.Serial.{Function}
use Rattle.links.specs.declared.passing.Passed.{Passed}
use Rattle.task_book.specs.declared.task.Held.{Held}
use Rattle.task_book.specs.declared.task.Stage.TheVariants as stages
use Rattle.task_book.specs.declared.task.Submission.{Submission}
use Rattle.task_book.specs.Kept.{Kept, staged, staged_by}
use Rattle.task_book.specs.Stages.{Runs, RunsOn, RunsWith}
use Rattle.task_book.proofs.Positions.{all_more}
use Rattle.wq_seats.specs.Turns.{IsQuiet, IsServed}
use Rattle.wq_company.specs.Companies.{RunBefore, AreServed, live_of}
use Rattle.wq_seats.specs.Seats.{SeatState}
use Rattle.wq_seats.proofs.Speaking.{works_begun, works_later, works_on, works_with}

all_step : {A : Type 0} (P Q : A → Type 0) → ((x : A) → P x → Q x) → (xs : List A) → AllByRecursion P xs → AllByRecursion Q xs
all_step P Q step [] all = tt
all_step P Q step (x ∷ xs) all = (step x all.0, all_step P Q step xs all.1)

module _ {L : Type 0} (gives : Function) (may_fail : Job → Failure → Type 0) (history : L → List Passed) where
  pub served_on : (files : List (List ℕ)) (held new : List Held) (next : ℕ) (seats : List (SeatState L)) → RunsOn held new → AreServed gives may_fail history files held next seats
      → AreServed gives may_fail history files new next seats
  served_on files held new next seats on all =
      all_step (IsServed gives may_fail history files held next) (IsServed gives may_fail history files new next)
      (λ s is here. works_on gives may_fail history files held new next s on (is here)) seats all

  pub served_with : (files more : List (List ℕ)) (held : List Held) (next : ℕ) (seats : List (SeatState L)) → AreServed gives may_fail history files held next seats
      → AreServed gives may_fail history (files ++ more) held next seats
  served_with files more held next seats all =
      all_step (IsServed gives may_fail history files held next) (IsServed gives may_fail history (files ++ more) held next)
      (λ s is here. works_with gives may_fail history files more held next s (is here)) seats all

  pub served_later : (files : List (List ℕ)) (held : List Held) (next later : ℕ) (seats : List (SeatState L)) → next ≤ later → AreServed gives may_fail history files held next seats
      → AreServed gives may_fail history files held later seats
  served_later files held next later seats rises all =
      all_step (IsServed gives may_fail history files held next) (IsServed gives may_fail history files held later)
      (λ s is here. works_later gives may_fail history files held next later s rises (is here)) seats all

  pub served_begun : (files : List (List ℕ)) (held new : List Held) (attempt : AttemptNo) (task : Submission) (seats : List (SeatState L)) → RunsWith held new attempt task
      → AreServed gives may_fail history files held attempt.0 seats → AreServed gives may_fail history files new attempt.0 seats
  served_begun files held new attempt task seats with all =
      all_step (IsServed gives may_fail history files held attempt.0) (IsServed gives may_fail history files new attempt.0)
      (λ s is here. works_begun gives may_fail history files held new attempt task s with (is here)) seats all

pub before_on : (next : ℕ) (held new : List Held) → RunsOn held new → RunBefore next held → RunBefore next new
before_on next held new on before a t runs = before a t (on a t runs)

-- ---- links that live

live_more : {L : Type 0} (idles : L → ℕ) (s : SeatState L) (seats : List (SeatState L)) (b : Bool) → s.gone ≡ b → IsQuiet idles s → AllByRecursion (λ (w : L). 0 < idles w) (live_of seats)
    → AllByRecursion (λ (w : L). 0 < idles w) (live_of (s ∷ seats))
live_more idles s seats true is quiet rest = rw is rest
live_more idles s seats false is quiet rest = rw is (quiet is, rest)

-- over each link that lives nothing passed, where none did over that of a peer that isn't gone
pub quiet_live : {L : Type 0} (idles : L → ℕ) (seats : List (SeatState L)) → AllByRecursion (IsQuiet idles) seats → AllByRecursion (λ (w : L). 0 < idles w) (live_of seats)
quiet_live idles [] all = tt
quiet_live idles (s ∷ seats) all = live_more idles s seats s.gone refl all.0 (quiet_live idles seats all.1)

-- ---- the task at a place begins

module _ {L : Type 0} (gives : Function) (may_fail : Job → Failure → Type 0) (history : L → List Passed) where
  -- the peers stay at work where it does
  pub served_begun_by : (files : List (List ℕ)) (k n : Kept) (at : ℕ) (attempt : AttemptNo) (p : Option Held) (seats : List (SeatState L))
      → n ≡ record k { held = staged_by k.held at (stages.Runs attempt) p } → IfSome p (λ h. RunsWith k.held n.held attempt h.task)
      → AreServed gives may_fail history files k.held attempt.0 seats → AreServed gives may_fail history files n.held attempt.0 seats
  served_begun_by files k n at attempt None seats is with all = subst (λ (x : Kept). AreServed gives may_fail history files x.held attempt.0 seats) (sym is) all
  served_begun_by files k n at attempt (Some h) seats is with all = served_begun gives may_fail history files k.held n.held attempt h.task seats with all

set_there : (xs : List Held) (at : ℕ) (x y : Held) → slice_get xs at ≡ Some x → slice_get (slice_set xs at y) at ≡ Some y
set_there [] at x y is = absurd cc
set_there (z ∷ xs) zero x y is = refl
set_there (z ∷ xs) (suc at) x y is = set_there xs at x y is

less_not : (a n : ℕ) → a < n → a ≡ n → ⊥
less_not a n less same = omega (arith, less, same)

-- Who runs with the attempt at a place is the task that is there.
abbrev pub OwnsAt : List Held → ℕ → AttemptNo → Type 0
OwnsAt held at attempt = IfSome (slice_get held at) (λ h. (s : Submission) → Runs held attempt s → s ≡ h.task)

own_by : (k n : Kept) (at : ℕ) (attempt : AttemptNo) (p : Option Held) → slice_get k.held at ≡ p → RunBefore attempt.0 k.held → n ≡ record k { held = staged_by k.held at (stages.Runs attempt) p }
    → IfSome p (λ h. RunsWith k.held n.held attempt h.task) → OwnsAt n.held at attempt
own_by k n at attempt None there before is with =
    subst (λ (q : Option Held). IfSome q (λ h. (s : Submission) → Runs n.held attempt s → s ≡ h.task)) (sym (subst (λ (x : Kept). slice_get x.held at ≡ None) (sym is) there)) tt
own_by k n at attempt (Some h) there before is with =
    let here : slice_get n.held at ≡ Some (staged (stages.Runs attempt) h) =
    subst (λ (x : Kept). slice_get x.held at ≡ Some (staged (stages.Runs attempt) h)) (sym is) (set_there k.held at h (staged (stages.Runs attempt) h) there) in
    subst (λ (q : Option Held). IfSome q (λ y. (s : Submission) → Runs n.held attempt s → s ≡ y.task)) (sym here) (λ s run. by s (with attempt s run))
  where
    by : (s : Submission) → Runs k.held attempt s ⊎ ((attempt ≡ attempt) × (s ≡ h.task)) → s ≡ h.task
    by s (inl run) = absurd (less_not attempt.0 attempt.0 (before attempt s run) refl)
    by s (inr new) = new.1

pub own_begun : (k n : Kept) (at : ℕ) (attempt : AttemptNo) (p : Option Held) → RunBefore attempt.0 k.held → n ≡ record k { held = staged_by k.held at (stages.Runs attempt) (slice_get k.held at) }
    → IfSome (slice_get k.held at) (λ h. RunsWith k.held n.held attempt h.task) → OwnsAt n.held at attempt
own_begun k n at attempt p before is with = own_by k n at attempt (slice_get k.held at) refl before is with

pub served_pushed : {L : Type 0} (gives : Function) (may_fail : Job → Failure → Type 0) (history : L → List Passed) (files : List (List ℕ)) (held : List Held) (next : ℕ) (ok : Bool) (old new : List (SeatState L)) (s : SeatState L)
    → new ≡ cond ok (old ++ s ∷ []) old → IsServed gives may_fail history files held next s → AreServed gives may_fail history files held next old → AreServed gives may_fail history files held next new
served_pushed {L} gives may_fail history files held next true old new s is one all =
    subst (λ (xs : List (SeatState L)). AreServed gives may_fail history files held next xs) (sym is) (all_more (IsServed gives may_fail history files held next) old s one all)
served_pushed {L} gives may_fail history files held next false old new s is one all = subst (λ (xs : List (SeatState L)). AreServed gives may_fail history files held next xs) (sym is) all
