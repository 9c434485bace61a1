-- What runs at a peer, and what is promised of its link, while the queue goes on.
use Rattle.std.proofs.Common.{◌≡◌, ◌≤◌, ◌<◌, ◌+◌, ◌⊎◌, ◌∙◌, inl, inr, ℕ, zero, suc, true, false, List, [], ◌∷◌, drop, get_or, length, Option, None, Some, refl, sym, subst, arith, true≢false}
use Rattle.std.specs.Prelude.{IfSome, remove, slice_get}
use Rattle.std.specs.List.{AllByRecursion}
use Rattle.flow_types.specs.declared.numbers.Amounts.{Amounts}
use Rattle.flow_types.specs.declared.numbers.AttemptNo.{AttemptNo}
use Rattle.peers.specs.States.{GoesOn}
use Rattle.task_book.specs.declared.task.Held.{Held}
use Rattle.task_book.specs.declared.task.TaskId.{TaskId}
use Rattle.task_book.specs.Kept.{is_running, place_running}
use Rattle.task_book.specs.Stages.{RunsAs, Stops}
use Rattle.task_book.proofs.Positions.{none_passes_at}
use Rattle.std.proofs.Math.Seq.{drop-cons}
use Rattle.task_book.proofs.Stopping.{is_it}
use Rattle.wq_seats.specs.declared.run.Run.{Run}
use Rattle.wq_seats.specs.Turns.{IsSureOf, BeginsRun}
use Rattle.wq_seats.specs.Tellings.{StopsWhere, id_of}
use Rattle.wq_seats.specs.Seats.{HasRun, KeepsRuns, RunsAt, SeatState, closed_runs}
use Rattle.wq_seats.proofs.Counting.{has_closed, has_left}

some_is : (a b : TaskId) → (let p : Option TaskId = Some a in p ≡ Some b) → a ≡ b
some_is a b is = cc

-- ---- what is promised of a link goes on

pub goes_on_same : {L : Type 0} (honest sure : L → Type 0) (offers : L → Amounts → Type 0) (way : L) → GoesOn honest sure offers way way
goes_on_same honest sure offers way = record { honestly = λ is. is; surely = λ is. is; offering = λ amounts is. is }

pub goes_on_then : {L : Type 0} (honest sure : L → Type 0) (offers : L → Amounts → Type 0) (old mid new : L) → GoesOn honest sure offers old mid → GoesOn honest sure offers mid new → GoesOn honest sure offers old new
goes_on_then honest sure offers old mid new one two = record {
  honestly = λ is. two.honestly (one.honestly is);
  surely = λ is. two.surely (one.surely is);
  offering = λ amounts is. two.offering amounts (one.offering amounts is);
}

pub sure_on : {L : Type 0} (honest sure : L → Type 0) (offers : L → Amounts → Type 0) (least : Amounts) (old new : L) → GoesOn honest sure offers old new → IsSureOf sure offers least old → IsSureOf sure offers least new
sure_on honest sure offers least old new on is = record { surely = on.surely is.surely; offering = on.offering least is.offering }

-- ---- what runs at a peer

pub keeps_same : {L : Type 0} (held : List Held) (s : SeatState L) → KeepsRuns held held s s
keeps_same held s id attempt run = (run, λ here. here)

pub keeps_then : {L : Type 0} (held mid new : List Held) (s t u : SeatState L) → KeepsRuns held mid s t → KeepsRuns mid new t u → KeepsRuns held new s u
keeps_then held mid new s t u one two id attempt run =
    let second = two id attempt run in
    let first = one id attempt second.0 in
    (first.0, λ here. second.1 (first.1 here))

-- no task of the id runs with the attempt
pub not_running : (held : List Held) (id : TaskId) (attempt : AttemptNo) → place_running id attempt held ≡ None → RunsAs held id attempt → ⊥
not_running held id attempt none run = by held (none_passes_at (is_running id attempt) held none) run
  where
    by : (xs : List Held) → AllByRecursion (λ (h : Held). is_running id attempt h ≡ false) xs → RunsAs xs id attempt → ⊥
    by [] all is = is
    by (x ∷ xs) all (inl this) = true≢false (sym (is_it id attempt x this.0 this.1) ∙ all.0)
    by (x ∷ xs) all (inr rest) = by xs all.1 rest

-- a run of which no task runs is taken out
pub keeps_removed : {L : Type 0} (held : List Held) (s now : SeatState L) (at : ℕ) (r : Run) → slice_get s.runs at ≡ Some r → place_running r.id r.attempt held ≡ None → now.gone ≡ s.gone → now.runs ≡ remove s.runs at → KeepsRuns held held s now
keeps_removed held s now at r there none gone runs id attempt run = (run, λ here. (gone ∙ here.0, subst (HasRun id attempt) (sym runs) (by (has_left id attempt s.runs at r there here.1))))
  where
    by : HasRun id attempt (remove s.runs at) ⊎ ((r.id ≡ id) × (r.attempt ≡ attempt)) → HasRun id attempt (remove s.runs at)
    by (inl has) = has
    by (inr same) = absurd (not_running held r.id r.attempt none (subst (λ (a : AttemptNo). RunsAs held r.id a) (sym same.1) (subst (λ (i : TaskId). RunsAs held i attempt) (sym same.0) run)))

-- one with the attempt is closed, and its task runs with it no more
pub keeps_closed : {L : Type 0} (held new : List Held) (s now : SeatState L) (attempt : AttemptNo) → StopsWhere (id_of attempt s.runs) attempt held new → now.gone ≡ s.gone → now.runs ≡ closed_runs attempt s.runs → KeepsRuns held new s now
keeps_closed held new s now attempt stops gone runs id a run = by (id_of attempt s.runs) refl stops
  where
    there : (HasRun id a s.runs → (a ≡ attempt) → id_of attempt s.runs ≡ Some id → ⊥) → RunsAt id a s → RunsAt id a now
    there never here = (gone ∙ here.0, subst (HasRun id a) (sym runs) (left (has_closed id a attempt s.runs here.1)))
      where
        left : HasRun id a (closed_runs attempt s.runs) ⊎ ((a ≡ attempt) × (id_of attempt s.runs ≡ Some id)) → HasRun id a (closed_runs attempt s.runs)
        left (inl has) = has
        left (inr same) = absurd (never here.1 same.0 same.1)

    by : (p : Option TaskId) → id_of attempt s.runs ≡ p → StopsWhere p attempt held new → RunsAs held id a × (RunsAt id a s → RunsAt id a now)
    by None is same = (subst (λ (h : List Held). RunsAs h id a) same run, there (λ has one some. let wrong : ⊥ = cc (sym is ∙ some) in wrong))
    by (Some other) is stopped =
        let was = stopped id a run in
        (was.0, there (λ has one some. was.1 (some_is id other (sym some ∙ is)) one))

-- of runs whose tasks wait again one is left less
pub left_run : (id : TaskId) (attempt : AttemptNo) (runs : List Run) (i : ℕ) (d : Run) → i < length runs → ((id ≡ (get_or runs i d).id) → (attempt ≡ (get_or runs i d).attempt) → ⊥) → HasRun id attempt (drop i runs) → HasRun id attempt (drop (i + 1) runs)
left_run id attempt runs i d less never has = by (subst (HasRun id attempt) (drop-cons runs i d less) has)
  where
    next : suc i ≡ i + 1
    next = omega arith

    by : HasRun id attempt (get_or runs i d ∷ drop (suc i) runs) → HasRun id attempt (drop (i + 1) runs)
    by (inl this) = absurd (never (sym this.0) (sym this.1))
    by (inr rest) = subst (λ (n : ℕ). HasRun id attempt (drop n runs)) next rest

pub none_left_run : (id : TaskId) (attempt : AttemptNo) (runs : List Run) (i : ℕ) → length runs ≤ i → HasRun id attempt (drop i runs) → ⊥
none_left_run id attempt [] zero less has = has
none_left_run id attempt [] (suc i) less has = has
none_left_run id attempt (r ∷ runs) zero less has = omega (arith, less)
none_left_run id attempt (r ∷ runs) (suc i) less has = none_left_run id attempt runs i (omega (arith, less)) has

-- from a seat with the same runs
pub keeps_from : {L : Type 0} (held new : List Held) (s mid now : SeatState L) → mid.gone ≡ s.gone → mid.runs ≡ s.runs → KeepsRuns held new mid now → KeepsRuns held new s now
keeps_from held new s mid now gone runs keeps id attempt run =
    let k = keeps id attempt run in
    (k.0, λ here. k.1 (gone ∙ here.0, subst (HasRun id attempt) (sym runs) here.1))

pub keeps_equal : {L : Type 0} (held : List Held) (s now : SeatState L) → now.gone ≡ s.gone → now.runs ≡ s.runs → KeepsRuns held held s now
keeps_equal held s now gone runs id attempt run = (run, λ here. (gone ∙ here.0, subst (HasRun id attempt) (sym runs) here.1))

-- ---- a task begins at a peer

-- there is no such task
pub begins_none : {L : Type 0} (p : Option Held) (begun : AttemptNo) (held : List Held) (s : SeatState L) → p ≡ None → BeginsRun p begun held held s s
begins_none {L} p begun held s none = subst (λ (q : Option Held). BeginsRun q begun held held s s) (sym none) by
  where
    by : (let q : Option Held = None in BeginsRun q begun held held s s)
    by id attempt run = (run, there)
      where
        there : RunsAt id attempt s ⊎ ⊥ → RunsAt id attempt s
        there (inl here) = here
        there (inr wrong) = absurd wrong

-- it begins
pub begins_run : {L : Type 0} (p : Option Held) (h : Held) (begun : AttemptNo) (held : List Held) (s now : SeatState L) → p ≡ Some h → now.gone ≡ s.gone → s.gone ≡ false
    → ((other : TaskId) (number : AttemptNo) → HasRun other number s.runs → HasRun other number now.runs) → HasRun h.id begun now.runs → BeginsRun p begun held held s now
begins_run {L} p h begun held s now some gone lives keeps has = subst (λ (q : Option Held). BeginsRun q begun held held s now) (sym some) by
  where
    by : (let q : Option Held = Some h in BeginsRun q begun held held s now)
    by id attempt run = (run, there)
      where
        there : RunsAt id attempt s ⊎ ((id ≡ h.id) × (attempt ≡ begun)) → RunsAt id attempt now
        there (inl here) = (gone ∙ here.0, keeps id attempt here.1)
        there (inr same) = (gone ∙ lives, subst (λ (a : AttemptNo). HasRun id a now.runs) (sym same.1) (subst (λ (i : TaskId). HasRun i begun now.runs) (sym same.0) has))

-- it waits again
pub begins_not : {L : Type 0} (p : Option Held) (h : Held) (begun : AttemptNo) (held mid new : List Held) (s now : SeatState L) → p ≡ Some h → KeepsRuns held mid s now → Stops mid new h.id begun → BeginsRun p begun held new s now
begins_not {L} p h begun held mid new s now some keeps stops = subst (λ (q : Option Held). BeginsRun q begun held new s now) (sym some) by
  where
    by : (let q : Option Held = Some h in BeginsRun q begun held new s now)
    by id attempt run = (first.0, there)
      where
        stopped : RunsAs mid id attempt × ((id ≡ h.id) → (attempt ≡ begun) → ⊥)
        stopped = stops id attempt run

        first : RunsAs held id attempt × (RunsAt id attempt s → RunsAt id attempt now)
        first = keeps id attempt stopped.0

        there : RunsAt id attempt s ⊎ ((id ≡ h.id) × (attempt ≡ begun)) → RunsAt id attempt now
        there (inl here) = first.1 here
        there (inr same) = absurd (stopped.1 same.0 same.1)

pub if_some : {A : Type 0} (p : Option A) (Q : A → Type 0) → ((x : A) → Q x) → IfSome p Q
if_some None Q all = tt
if_some (Some x) Q all = all x

pub has_none : (id : TaskId) (attempt : AttemptNo) (runs : List Run) → HasRun id attempt runs → runs ≡ [] → ⊥
has_none id attempt runs has none = subst (HasRun id attempt) none has

pub drop_none : {A : Type 0} (xs : List A) (i : ℕ) → length xs ≤ i → drop i xs ≡ []
drop_none [] zero less = refl
drop_none [] (suc i) less = refl
drop_none (x ∷ xs) zero less = absurd (let wrong : ⊥ = omega (arith, less) in wrong)
drop_none (x ∷ xs) (suc i) less = drop_none xs i (omega (arith, less))
