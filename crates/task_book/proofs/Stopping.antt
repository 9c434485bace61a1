-- What runs no more once the task of an id that ran is in another stage: ids stand once.
use Rattle.std.proofs.Common.{◌≡◌, ◌≤◌, ◌+◌, inl, inr, ℕ, suc, Bool, true, false, cond, List, [], ◌∷◌, Option, Some, None, refl, sym, ap, subst, ◌∙◌, arith, true≢false}
use Rattle.std.specs.Prelude.{◌==◌, ◌&&◌, slice_get}
use Rattle.std.proofs.lemmas.Bool.{and_parts, eq-eqb, eqb-true}
use Rattle.std.proofs.lemmas.List.Sums.{sum_by-cons}
use Rattle.task_book.specs.declared.task.Held.{Held}
use Rattle.task_book.specs.declared.task.Stage.{Stage}
use Rattle.task_book.specs.declared.task.Stage.TheVariants as stages
use Rattle.task_book.specs.declared.task.TaskId.{TaskId}
use Rattle.flow_types.specs.declared.numbers.AttemptNo.{AttemptNo}
use Rattle.task_book.specs.Kept.{AreKept, Kept, ids_held, is_run, is_running, place_running, staged, staged_at, staged_by, times}
use Rattle.task_book.specs.Stages.{RunsAs, Stops}
use Rattle.task_book.proofs.Positions.{here, next, there}

-- the stage is no run
abbrev pub IsNoRun : Stage → Type 0
IsNoRun stage = (a : AttemptNo) → stage ≡ stages.Runs a → ⊥

-- no id stands twice
abbrev pub AreOnce : List Held → Type 0
AreOnce held = (n : ℕ) → times n (ids_held held) ≤ 1

abbrev one_if : ℕ → TaskId → ℕ
one_if n id = cond (id.0 == n) 1 0

times_cons : (n : ℕ) (id : TaskId) (ids : List TaskId) → times n (id ∷ ids) ≡ one_if n id + times n ids
times_cons n id ids = sum_by-cons (λ (x : TaskId). one_if n x) id ids

one_of : (n : ℕ) (id : TaskId) → id.0 ≡ n → one_if n id ≡ 1
one_of n id is = ap (λ (b : Bool). cond b 1 0) (eq-eqb id.0 n is)

once_left : (h : Held) (held : List Held) → AreOnce (h ∷ held) → AreOnce held
once_left h held once n = let all = once n in let whole = times_cons n h.id (ids_held held) in omega (arith, all, whole)

stands : (held : List Held) (id : TaskId) (a : AttemptNo) → RunsAs held id a → 1 ≤ times id.0 (ids_held held)
stands [] id a run = absurd run
stands (h ∷ held) id a (inl this) =
    let whole = times_cons id.0 h.id (ids_held held) in
    let one = one_of id.0 h.id (ap (λ (i : TaskId). i.0) this.0) in
    omega (arith, whole, one)
stands (h ∷ held) id a (inr rest) =
    let whole = times_cons id.0 h.id (ids_held held) in
    let more = stands held id a rest in
    omega (arith, whole, more)

stands_twice : (h : Held) (held : List Held) (id : TaskId) (a : AttemptNo) → AreOnce (h ∷ held) → h.id.0 ≡ id.0 → RunsAs held id a → ⊥
stands_twice h held id a once is run =
    let all = once id.0 in
    let whole = times_cons id.0 h.id (ids_held held) in
    let one = one_of id.0 h.id is in
    let more = stands held id a run in
    omega (arith, all, whole, one, more)

staged_next : (h : Held) (held : List Held) (p : Option ℕ) (stage : Stage) → staged_at (h ∷ held) (next p) stage ≡ h ∷ staged_at held p stage
staged_next h held None stage = refl
staged_next h held (Some at) stage = by (slice_get held at)
  where
    by : (q : Option Held) → staged_by (h ∷ held) (suc at) stage q ≡ h ∷ staged_by held at stage q
    by None = refl
    by (Some x) = refl

pub is_it : (id : TaskId) (a : AttemptNo) (h : Held) → h.id ≡ id → h.stage ≡ stages.Runs a → is_running id a h ≡ true
is_it id a h same run =
    let one : (h.id.0 == id.0) ≡ true = eq-eqb h.id.0 id.0 (ap (λ (i : TaskId). i.0) same) in
    let two : is_run a h.stage ≡ true = ap (is_run a) run ∙ eq-eqb a.0 a.0 refl in
    ap (λ (b : Bool). b && is_run a h.stage) one ∙ two

module _ (id : TaskId) (attempt : AttemptNo) (stage : Stage) (none : IsNoRun stage) where
  by_next : (h : Held) (held : List Held) (i : TaskId) (a : AttemptNo) → is_running id attempt h ≡ false
      → (RunsAs (staged_at held (place_running id attempt held) stage) i a → RunsAs held i a × ((i ≡ id) → (a ≡ attempt) → ⊥))
      → RunsAs (h ∷ staged_at held (place_running id attempt held) stage) i a → RunsAs (h ∷ held) i a × ((i ≡ id) → (a ≡ attempt) → ⊥)
  by_next h held i a not rest (inl this) = (
    inl this,
    λ same one. true≢false (sym (is_it id attempt h (this.0 ∙ same) (this.1 ∙ ap (λ (x : AttemptNo). stages.Runs x) one)) ∙ not),
  )
  by_next h held i a not rest (inr later) = let is = rest later in (inr is.0, is.1)

  by_here : (h : Held) (held : List Held) (i : TaskId) (a : AttemptNo) → AreOnce (h ∷ held) → is_running id attempt h ≡ true
      → RunsAs (staged stage h ∷ held) i a → RunsAs (h ∷ held) i a × ((i ≡ id) → (a ≡ attempt) → ⊥)
  by_here h held i a once is (inl this) = absurd (none a this.1)
  by_here h held i a once is (inr later) =
      let its = eqb-true h.id.0 id.0 (and_parts (h.id.0 == id.0) (is_run attempt h.stage) is).0 in (
        inr later,
        λ same one. stands_twice h held id a once its (subst (λ (x : TaskId). RunsAs held x a) same later),
      )

  stops_by : (h : Held) (held : List Held) (b : Bool) → is_running id attempt h ≡ b → AreOnce (h ∷ held) → Stops held (staged_at held (place_running id attempt held) stage) id attempt
      → Stops (h ∷ held) (staged_at (h ∷ held) (place_running id attempt (h ∷ held)) stage) id attempt
  stops_by h held true is once rest i a run =
      by_here h held i a once is (subst (λ (p : Option ℕ). RunsAs (staged_at (h ∷ held) p stage) i a) (here (is_running id attempt) h held is) run)
  stops_by h held false is once rest i a run =
      by_next h held i a is (rest i a)
      (subst (λ (xs : List Held). RunsAs xs i a) (staged_next h held (place_running id attempt held) stage)
      (subst (λ (p : Option ℕ). RunsAs (staged_at (h ∷ held) p stage) i a) (there (is_running id attempt) h held is) run))

  -- The task that ran with the attempt does so no more.
  pub place_stops : (held : List Held) → AreOnce held → Stops held (staged_at held (place_running id attempt held) stage) id attempt
  place_stops [] once = λ i a run. absurd run
  place_stops (h ∷ held) once = stops_by h held (is_running id attempt h) refl once (place_stops held (once_left h held once))

-- no id stands twice among those held
pub held_once : (k : Kept) → AreKept k → AreOnce k.held
held_once k are n = let all = are.together n in let once = are.once n in omega (arith, all, once)
