-- How often attempts run at a peer and are open there.
use Rattle.std.proofs.Common.{◌≡◌, ◌≤◌, ◌+◌, ◌⊎◌, inl, inr, ℕ, zero, suc, Bool, true, false, cond, List, [], ◌∷◌, ◌++◌, Option, Some, None, is_some, refl, sym, ap, ◌∙◌, subst, arith}
use Rattle.std.specs.Prelude.{◌==◌, count_by, position, remove, slice_get, slice_set}
use Rattle.std.specs.List.{AllByRecursion}
use Rattle.std.proofs.lemmas.Bool.{eq-eqb, eqb-true}
use Rattle.std.proofs.lemmas.List.Sums.{sum_by-cons}
use Rattle.flow_types.specs.declared.numbers.AttemptNo.{AttemptNo}
use Rattle.link_session.specs.declared.open.Open.{Open}
use Rattle.link_session.specs.Sessions.{State, closed_where, is_of, is_open, place}
use Rattle.peers.proofs.Opens.{placed}
use Rattle.task_book.specs.declared.task.TaskId.{TaskId}
use Rattle.task_book.proofs.Positions.{here, next, none_passes_at, there}
use Rattle.wq_seats.specs.declared.run.Run.{Run}
use Rattle.wq_seats.specs.Tellings.{id_of}
use Rattle.wq_seats.specs.Seats.{AreOpen, HasRun, closed_runs, times_open, times_run}

-- 1 where it is this number
abbrev pub one_if : ℕ → ℕ → ℕ
one_if n k = cond (k == n) 1 0

pub number_is : (a b : AttemptNo) → a.0 ≡ b.0 → a ≡ b
number_is a b is = ap (λ (n : ℕ). let x : AttemptNo = record { 0 = n } in x) is

module _ {A : Type 0} (num : A → ℕ) where
  abbrev times : ℕ → List A → ℕ
  times n xs = count_by (λ x. num x == n) xs

  times_cons : (n : ℕ) (x : A) (xs : List A) → times n (x ∷ xs) ≡ one_if n (num x) + times n xs
  times_cons n x xs = sum_by-cons (λ (y : A). one_if n (num y)) x xs

  times_more : (n : ℕ) (xs : List A) (y : A) → times n (xs ++ y ∷ []) ≡ times n xs + one_if n (num y)
  times_more n [] y = let one = times_cons n y [] in omega (arith, one)
  times_more n (x ∷ xs) y =
      let whole = times_cons n x (xs ++ y ∷ []) in
      let rest = times_more n xs y in
      let part = times_cons n x xs in
      omega (arith, whole, rest, part)

  times_less : (n : ℕ) (xs : List A) (at : ℕ) (y : A) → slice_get xs at ≡ Some y → times n xs ≡ times n (remove xs at) + one_if n (num y)
  times_less n [] at y is = absurd cc
  times_less n (x ∷ xs) zero y is =
      let same : x ≡ y = cc in
      let whole = times_cons n x xs in
      let one : one_if n (num x) ≡ one_if n (num y) = ap (λ (z : A). one_if n (num z)) same in
      omega (arith, whole, one)
  times_less n (x ∷ xs) (suc at) y is =
      let whole = times_cons n x xs in
      let part = times_cons n x (remove xs at) in
      let rest = times_less n xs at y is in
      omega (arith, whole, part, rest)

  times_set : (n : ℕ) (xs : List A) (at : ℕ) (y z : A) → slice_get xs at ≡ Some y → num z ≡ num y → times n (slice_set xs at z) ≡ times n xs
  times_set n [] at y z is same = absurd cc
  times_set n (x ∷ xs) zero y z is same =
      let one : x ≡ y = cc in
      let before = times_cons n x xs in
      let now = times_cons n z xs in
      let equal : one_if n (num z) ≡ one_if n (num x) = ap (λ (k : ℕ). one_if n k) (same ∙ ap num (sym one)) in
      omega (arith, before, now, equal)
  times_set n (x ∷ xs) (suc at) y z is same =
      let before = times_cons n x xs in
      let now = times_cons n x (slice_set xs at z) in
      let rest = times_set n xs at y z is same in
      omega (arith, before, now, rest)

  one_of : (n k : ℕ) → k ≡ n → one_if n k ≡ 1
  one_of n k is = ap (λ (b : Bool). cond b 1 0) (eq-eqb k n is)

  times_there : (xs : List A) (at : ℕ) (y : A) → slice_get xs at ≡ Some y → 1 ≤ times (num y) xs
  times_there xs at y is = let less = times_less (num y) xs at y is in let one = one_of (num y) (num y) refl in omega (arith, less, one)

  times_none : (n : ℕ) (xs : List A) → AllByRecursion (λ x. (num x == n) ≡ false) xs → times n xs ≡ 0
  times_none n [] all = refl
  times_none n (x ∷ xs) all =
      let whole = times_cons n x xs in
      let one : one_if n (num x) ≡ 0 = ap (λ (b : Bool). cond b 1 0) all.0 in
      let rest = times_none n xs all.1 in
      omega (arith, whole, one, rest)

  none_left : (xs : List A) → ((n : ℕ) → times n xs ≡ 0) → xs ≡ []
  none_left [] none = refl
  none_left (x ∷ xs) none =
      let all = none (num x) in
      let whole = times_cons (num x) x xs in
      let one = one_of (num x) (num x) refl in
      absurd (let wrong : ⊥ = omega (arith, all, whole, one) in wrong)

abbrev run_no : Run → ℕ
run_no r = r.attempt.0

abbrev open_no : Open → ℕ
open_no o = o.attempt.0

-- ---- what is open

pub open_more : (n : ℕ) (os : List Open) (o : Open) → times_open n (os ++ o ∷ []) ≡ times_open n os + one_if n o.attempt.0
open_more n os o = times_more open_no n os o

pub open_set : (n : ℕ) (os : List Open) (at : ℕ) (o p : Open) → slice_get os at ≡ Some o → p.attempt ≡ o.attempt → times_open n (slice_set os at p) ≡ times_open n os
open_set n os at o p is same = times_set open_no n os at o p is (ap (λ (a : AttemptNo). a.0) same)

pub open_less : (n : ℕ) (os : List Open) (at : ℕ) (attempt : AttemptNo) → place attempt os ≡ Some at → times_open n os ≡ times_open n (remove os at) + one_if n attempt.0
open_less n os at attempt is =
    let p = placed attempt os at is in
    let less = times_less open_no n os at p.it p.there_it_is in
    let one : one_if n p.it.attempt.0 ≡ one_if n attempt.0 = ap (λ (a : AttemptNo). one_if n a.0) p.of_it in
    omega (arith, less, one)

not_open : (attempt : AttemptNo) (os : List Open) → place attempt os ≡ None → times_open attempt.0 os ≡ 0
not_open attempt os is = times_none open_no attempt.0 os (none_passes_at (is_of attempt) os is)

-- where no attempt is open, none is among them
pub none_open_left : (os : List Open) → ((attempt : AttemptNo) → is_open attempt os ≡ true → ⊥) → os ≡ []
none_open_left [] none = refl
none_open_left (o ∷ os) none =
    absurd (none o.attempt (ap is_some (here (is_of o.attempt) o os (eq-eqb o.attempt.0 o.attempt.0 refl))))

-- ---- what runs

pub run_more : (n : ℕ) (runs : List Run) (r : Run) → times_run n (runs ++ r ∷ []) ≡ times_run n runs + one_if n r.attempt.0
run_more n runs r = times_more run_no n runs r

pub run_less : (n : ℕ) (runs : List Run) (at : ℕ) (r : Run) → slice_get runs at ≡ Some r → times_run n runs ≡ times_run n (remove runs at) + one_if n r.attempt.0
run_less n runs at r is = times_less run_no n runs at r is

closed_by : (n : ℕ) (attempt : AttemptNo) (r : Run) (runs : List Run) (b : Bool) → (r.attempt.0 == attempt.0) ≡ b → 1 ≤ times_run attempt.0 (r ∷ runs)
    → (1 ≤ times_run attempt.0 runs → times_run n runs ≡ times_run n (closed_runs attempt runs) + one_if n attempt.0)
    → times_run n (r ∷ runs) ≡ times_run n (closed_runs attempt (r ∷ runs)) + one_if n attempt.0
closed_by n attempt r runs true is some rest =
    let whole = times_cons run_no n r runs in
    let one : one_if n r.attempt.0 ≡ one_if n attempt.0 = ap (λ (k : ℕ). one_if n k) (eqb-true r.attempt.0 attempt.0 is) in
    let left : times_run n (closed_runs attempt (r ∷ runs)) ≡ times_run n runs = ap (λ (b : Bool). times_run n (cond b runs (r ∷ closed_runs attempt runs))) is in
    omega (arith, whole, one, left)
closed_by n attempt r runs false is some rest =
    let whole = times_cons run_no n r runs in
    let first = times_cons run_no attempt.0 r runs in
    let none : one_if attempt.0 r.attempt.0 ≡ 0 = ap (λ (b : Bool). cond b 1 0) is in
    let more = rest (omega (arith, some, first, none)) in
    let part = times_cons run_no n r (closed_runs attempt runs) in
    let left : times_run n (closed_runs attempt (r ∷ runs)) ≡ times_run n (r ∷ closed_runs attempt runs) = ap (λ (b : Bool). times_run n (cond b runs (r ∷ closed_runs attempt runs))) is in
    omega (arith, whole, more, part, left)

pub run_closed : (n : ℕ) (attempt : AttemptNo) (runs : List Run) → 1 ≤ times_run attempt.0 runs → times_run n runs ≡ times_run n (closed_runs attempt runs) + one_if n attempt.0
run_closed n attempt [] some = absurd (let wrong : ⊥ = omega (arith, some) in wrong)
run_closed n attempt (r ∷ runs) some = closed_by n attempt r runs (r.attempt.0 == attempt.0) refl some (run_closed n attempt runs)

-- closing the first with the attempt takes it out
abbrev closed_at_by : AttemptNo → List Run → Option ℕ → List Run
closed_at_by attempt runs None = runs
closed_at_by attempt runs (Some at) = remove runs at

closed_at_next : (attempt : AttemptNo) (r : Run) (runs : List Run) (p : Option ℕ) → closed_at_by attempt (r ∷ runs) (next p) ≡ r ∷ closed_at_by attempt runs p
closed_at_next attempt r runs None = refl
closed_at_next attempt r runs (Some at) = refl

abbrev is_run_of : AttemptNo → Run → Bool
is_run_of attempt r = r.attempt.0 == attempt.0

closed_is_by : (attempt : AttemptNo) (r : Run) (runs : List Run) (b : Bool) → is_run_of attempt r ≡ b → closed_at_by attempt runs (position (is_run_of attempt) runs) ≡ closed_runs attempt runs
    → closed_at_by attempt (r ∷ runs) (position (is_run_of attempt) (r ∷ runs)) ≡ closed_runs attempt (r ∷ runs)
closed_is_by attempt r runs true is rest =
    ap (closed_at_by attempt (r ∷ runs)) (here (is_run_of attempt) r runs is) ∙ sym (ap (λ (b : Bool). cond b runs (r ∷ closed_runs attempt runs)) is)
closed_is_by attempt r runs false is rest =
    ap (closed_at_by attempt (r ∷ runs)) (there (is_run_of attempt) r runs is) ∙ closed_at_next attempt r runs (position (is_run_of attempt) runs) ∙ ap (λ (xs : List Run). r ∷ xs) rest
    ∙ sym (ap (λ (b : Bool). cond b runs (r ∷ closed_runs attempt runs)) is)

closed_is : (attempt : AttemptNo) (runs : List Run) → closed_at_by attempt runs (position (is_run_of attempt) runs) ≡ closed_runs attempt runs
closed_is attempt [] = refl
closed_is attempt (r ∷ runs) = closed_is_by attempt r runs (is_run_of attempt r) refl (closed_is attempt runs)

pub closed_none : (attempt : AttemptNo) (runs : List Run) → position (λ r. r.attempt.0 == attempt.0) runs ≡ None → closed_runs attempt runs ≡ runs
closed_none attempt runs is = sym (closed_is attempt runs) ∙ ap (closed_at_by attempt runs) is

pub closed_some : (attempt : AttemptNo) (runs : List Run) (at : ℕ) → position (λ r. r.attempt.0 == attempt.0) runs ≡ Some at → closed_runs attempt runs ≡ remove runs at
closed_some attempt runs at is = sym (closed_is attempt runs) ∙ ap (closed_at_by attempt runs) is

-- ---- both

-- one more opens and runs
pub are_more : (runs : List Run) (os : List Open) (r : Run) (o : Open) → r.attempt ≡ o.attempt → AreOpen runs os → AreOpen (runs ++ r ∷ []) (os ++ o ∷ [])
are_more runs os r o same are n =
    let was = are n in
    let one = run_more n runs r in
    let two = open_more n os o in
    let equal : one_if n r.attempt.0 ≡ one_if n o.attempt.0 = ap (λ (a : AttemptNo). one_if n a.0) same in
    omega (arith, was, one, two, equal)

-- one is closed
pub are_less : (runs runs_now : List Run) (os : List Open) (attempt : AttemptNo) (at : ℕ) → place attempt os ≡ Some at → ((n : ℕ) → times_run n runs ≡ times_run n runs_now + one_if n attempt.0) → AreOpen runs os
    → AreOpen runs_now (remove os at)
are_less runs runs_now os attempt at is less are n =
    let was = are n in
    let one = less n in
    let two = open_less n os at attempt is in
    omega (arith, was, one, two)

some_open : (attempt : AttemptNo) (os : List Open) (p : Option ℕ) → place attempt os ≡ p → 1 ≤ times_open attempt.0 os → (at : ℕ) × (place attempt os ≡ Some at)
some_open attempt os None is some = let none = not_open attempt os is in absurd (let wrong : ⊥ = omega (arith, none, some) in wrong)
some_open attempt os (Some at) is some = (at, is)

-- a run is taken out, and its attempt closed
pub are_cancelled : (runs : List Run) (at : ℕ) (r : Run) (s : State) → slice_get runs at ≡ Some r → AreOpen runs s.attempts → AreOpen (remove runs at) (closed_where s (place r.attempt s.attempts)).attempts
are_cancelled runs at r s is are =
    let some = times_there run_no runs at r is in
    let same = are r.attempt.0 in
    let p = some_open r.attempt s.attempts (place r.attempt s.attempts) refl (omega (arith, some, same)) in
    subst (λ (q : Option ℕ). AreOpen (remove runs at) (closed_where s q).attempts) (sym p.1)
    (are_less runs (remove runs at) s.attempts r.attempt p.0 p.1 (λ n. run_less n runs at r is) are)

-- where none is open nothing runs
pub none_runs : (runs : List Run) (os : List Open) → AreOpen runs os → os ≡ [] → runs ≡ []
none_runs runs os are none = none_left run_no runs (λ n. are n ∙ ap (times_open n) none)

-- ---- which tasks run

pub has_more : (id : TaskId) (attempt : AttemptNo) (runs more : List Run) → HasRun id attempt runs → HasRun id attempt (runs ++ more)
has_more id attempt [] more has = absurd has
has_more id attempt (r ∷ runs) more (inl this) = inl this
has_more id attempt (r ∷ runs) more (inr rest) = inr (has_more id attempt runs more rest)

pub has_last : (runs : List Run) (r : Run) → HasRun r.id r.attempt (runs ++ r ∷ [])
has_last [] r = inl (refl, refl)
has_last (x ∷ runs) r = inr (has_last runs r)

pub has_left : (id : TaskId) (attempt : AttemptNo) (runs : List Run) (at : ℕ) (r : Run) → slice_get runs at ≡ Some r → HasRun id attempt runs → HasRun id attempt (remove runs at) ⊎ ((r.id ≡ id) × (r.attempt ≡ attempt))
has_left id attempt [] at r is has = absurd has
has_left id attempt (x ∷ runs) zero r is (inl this) = let same : x ≡ r = cc in inr (subst (λ (y : Run). (y.id ≡ id) × (y.attempt ≡ attempt)) same this)
has_left id attempt (x ∷ runs) zero r is (inr rest) = inl rest
has_left id attempt (x ∷ runs) (suc at) r is (inl this) = inl (inl this)
has_left id attempt (x ∷ runs) (suc at) r is (inr rest) = later (has_left id attempt runs at r is rest)
  where
    later : HasRun id attempt (remove runs at) ⊎ ((r.id ≡ id) × (r.attempt ≡ attempt)) → HasRun id attempt (x ∷ remove runs at) ⊎ ((r.id ≡ id) × (r.attempt ≡ attempt))
    later (inl has) = inl (inr has)
    later (inr same) = inr same

has_closed_by : (id : TaskId) (attempt closed : AttemptNo) (r : Run) (runs : List Run) (b : Bool) → (r.attempt.0 == closed.0) ≡ b
    → (HasRun id attempt runs → HasRun id attempt (closed_runs closed runs) ⊎ ((attempt ≡ closed) × (id_of closed runs ≡ Some id))) → HasRun id attempt (r ∷ runs)
    → HasRun id attempt (closed_runs closed (r ∷ runs)) ⊎ ((attempt ≡ closed) × (id_of closed (r ∷ runs) ≡ Some id))
has_closed_by id attempt closed r runs true is rest (inl this) =
    inr (sym this.1 ∙ number_is r.attempt closed (eqb-true r.attempt.0 closed.0 is), rw is (ap (λ (i : TaskId). Some i) this.0))
has_closed_by id attempt closed r runs true is rest (inr later) = inl (rw is later)
has_closed_by id attempt closed r runs false is rest (inl this) = inl (rw is (inl this))
has_closed_by id attempt closed r runs false is rest (inr later) = by (rest later)
  where
    by : HasRun id attempt (closed_runs closed runs) ⊎ ((attempt ≡ closed) × (id_of closed runs ≡ Some id)) → HasRun id attempt (closed_runs closed (r ∷ runs)) ⊎ ((attempt ≡ closed) × (id_of closed (r ∷ runs) ≡ Some id))
    by (inl has) = inl (rw is (inr has))
    by (inr same) = inr (same.0, rw is same.1)

-- what runs still does once the first with an attempt is closed, or is that one
pub has_closed : (id : TaskId) (attempt closed : AttemptNo) (runs : List Run) → HasRun id attempt runs → HasRun id attempt (closed_runs closed runs) ⊎ ((attempt ≡ closed) × (id_of closed runs ≡ Some id))
has_closed id attempt closed [] has = absurd has
has_closed id attempt closed (r ∷ runs) has = has_closed_by id attempt closed r runs (r.attempt.0 == closed.0) refl (has_closed id attempt closed runs) has
