-- The jobs of a peer are those of the attempts that its worker runs.
use Rattle.std.proofs.Common.{◌≡◌, inl, inr, subst, ℕ, zero, suc, ◌+◌, Bool, true, false, not, cond, ltb, List, [], ◌∷◌, ◌++◌, length, map, Option, Some, None, refl, ap, sym, ◌∙◌, append-nil}
use Rattle.std.specs.Prelude.{slice_get, slice_set, remove, position, ◌==◌}
use Rattle.std.specs.List.{position_or_len}
use Rattle.std.specs.Option.{option_map_or}
use Rattle.std.proofs.lemmas.List.{length-map}
use Rattle.flow_types.specs.declared.job.Outcome.{Outcome}
use Rattle.flow_types.specs.declared.job.Start.{Start}
use Rattle.flow_types.specs.declared.job.Task.{Task}
use Rattle.flow_types.specs.declared.numbers.AttemptNo.{AttemptNo}
use Rattle.flow_types.specs.declared.messages.Message.{Message}
use Rattle.flow_types.specs.declared.messages.Message.TheVariants as messages
use Rattle.worker_cache.specs.Caches.{is_full, put_in}
use Rattle.worker_core.specs.declared.running.Running.{Running}
use Rattle.worker_core.specs.Workers.{Worker, Acted, hears, holds_all, misses, place_of, quiet, reports, ends_at, runs, running_of, silenced_at, silent_one, starts, with_rows}
use Rattle.world_laws.specs.Members.{Every}
use Rattle.world_peers.specs.Peers.{is_job_of, without_job}
use Rattle.world_laws.specs.Laws.{attempts_in, attempts_of}
use Rattle.world_laws.proofs.Members.{every_cons}

-- with what a step starts they are the attempts that run then
abbrev pub Agrees : List Start → Acted → Type 0
Agrees jobs did = attempts_of (jobs ++ did.acts.start) ≡ attempts_in did.worker.running

map_more : {A B : Type 0} (f : A → B) (xs ys : List A) → map f (xs ++ ys) ≡ map f xs ++ map f ys
map_more f [] ys = refl
map_more f (x ∷ xs) ys = ap (λ more. f x ∷ more) (map_more f xs ys)

map_remove : {A B : Type 0} (f : A → B) (xs : List A) (n : ℕ) → map f (remove xs n) ≡ remove (map f xs) n
map_remove f [] zero = refl
map_remove f [] (suc n) = refl
map_remove f (x ∷ xs) zero = refl
map_remove f (x ∷ xs) (suc n) = ap (λ more. f x ∷ more) (map_remove f xs n)

remove_none : {A : Type 0} (xs : List A) (n : ℕ) → slice_get xs n ≡ None → remove xs n ≡ xs
remove_none [] zero none = refl
remove_none [] (suc n) none = refl
remove_none (x ∷ xs) zero none = absurd (let h : ⊥ = cc in h)
remove_none (x ∷ xs) (suc n) none = ap (λ more. x ∷ more) (remove_none xs n none)

every_remove : {A : Type 0} (P : A → Type 0) (xs : List A) (n : ℕ) → Every P xs → Every P (remove xs n)
every_remove P [] zero all = all
every_remove P [] (suc n) all = all
every_remove P (x ∷ xs) zero all = λ y there. all y (inr there)
every_remove P (x ∷ xs) (suc n) all = every_cons P x (remove xs n) (all x (inl refl)) (every_remove P xs n (λ y there. all y (inr there)))

every_at : (P : Start → Type 0) (jobs : List Start) (found : Option ℕ) → Every P jobs → Every P (option_map_or (remove jobs) found jobs)
every_at P jobs None all = all
every_at P jobs (Some at) all = every_remove P jobs at all

-- what holds of each job holds of those that are left
pub every_without : (P : Start → Type 0) (attempt : AttemptNo) (jobs : List Start) → Every P jobs → Every P (without_job attempt jobs)
every_without P attempt jobs all = every_at P jobs (position (is_job_of attempt) jobs) all

-- ---- places

-- it is this attempt
abbrev is_attempt : AttemptNo → AttemptNo → Bool
is_attempt attempt other = other.0 == attempt.0

place_from : {A : Type 0} (f : A → AttemptNo) (attempt : AttemptNo) (xs : List A) → position_or_len (λ x. is_attempt attempt (f x)) xs ≡ position_or_len (is_attempt attempt) (map f xs)
place_from f attempt [] = refl
place_from f attempt (x ∷ xs) = ap (λ (n : ℕ). cond (not (is_attempt attempt (f x))) (1 + n) 0) (place_from f attempt xs)

-- the place of a number, where it is below a length
abbrev below : ℕ → ℕ → Option ℕ
below n size = cond (ltb n size) (Some n) None

place_is : {A : Type 0} (f : A → AttemptNo) (attempt : AttemptNo) (xs : List A) → position (λ x. is_attempt attempt (f x)) xs ≡ position (is_attempt attempt) (map f xs)
place_is f attempt xs =
    ap (λ (n : ℕ). below n (length xs)) (place_from f attempt xs)
    ∙ ap (below (position_or_len (is_attempt attempt) (map f xs))) (sym (length-map xs f))

same_place : (attempt : AttemptNo) (jobs : List Start) (running : List Running) → attempts_of jobs ≡ attempts_in running → position (is_job_of attempt) jobs ≡ place_of attempt running
same_place attempt jobs running same =
    place_is (λ s. s.attempt) attempt jobs ∙ ap (position (is_attempt attempt)) same ∙ sym (place_is (λ r. r.attempt) attempt running)

-- ---- messages

still : (jobs : List Start) (w : Worker) → attempts_of jobs ≡ attempts_in w.running → Agrees jobs (quiet w)
still jobs w same = ap attempts_of (append-nil jobs) ∙ same

task_agrees : (jobs : List Start) (w : Worker) (t : Task) (running holds : Bool) → attempts_of jobs ≡ attempts_in w.running
    → Agrees jobs (cond running (quiet w) (cond holds (starts w t) (misses w t)))
task_agrees jobs w t true holds same = still jobs w same
task_agrees jobs w t false true same =
    map_more (λ s. s.attempt) jobs (starts w t).acts.start ∙ ap (λ attempts. attempts ++ (t.attempt ∷ [])) same
    ∙ sym (map_more (λ r. r.attempt) w.running (running_of t ∷ []))
task_agrees jobs w t false false same = ap attempts_of (append-nil jobs) ∙ same

put_agrees : (jobs : List Start) (w kept : Worker) (full : Bool) → kept.running ≡ w.running → attempts_of jobs ≡ attempts_in w.running → Agrees jobs (cond full (quiet w) (quiet kept))
put_agrees jobs w kept true is same = still jobs w same
put_agrees jobs w kept false is same = still jobs kept (same ∙ ap attempts_in (sym is))

set_same : (running : List Running) (at : ℕ) (r : Running) → slice_get running at ≡ Some r → attempts_in (slice_set running at (silent_one r)) ≡ attempts_in running
set_same [] at r is = refl
set_same (x ∷ running) zero r is = let one : r ≡ x = cc in ap (λ (y : Running). y.attempt ∷ attempts_in running) one
set_same (x ∷ running) (suc at) r is = ap (λ more. x.attempt ∷ more) (set_same running at r is)

silent_at : (running : List Running) (at : ℕ) (found : Option Running) → slice_get running at ≡ found → attempts_in (silenced_at running at found) ≡ attempts_in running
silent_at running at None is = refl
silent_at running at (Some r) is = set_same running at r is

silent_by : (running : List Running) (found : Option ℕ) → attempts_in (option_map_or (λ at. silenced_at running at (slice_get running at)) found running) ≡ attempts_in running
silent_by running None = refl
silent_by running (Some at) = silent_at running at (slice_get running at) refl

-- what a worker starts on a message it runs
pub hears_agrees : (jobs : List Start) (w : Worker) (m : Message) → attempts_of jobs ≡ attempts_in w.running → Agrees jobs (hears w m)
hears_agrees jobs w (messages.Put key content) same =
    put_agrees jobs w (with_rows w (put_in w.cache.cap key content w.cache.rows)) (is_full key (length content) w.cache.cap w.cache.rows) refl same
hears_agrees jobs w (messages.Task t) same = task_agrees jobs w t (runs t.attempt w) (holds_all w.cache.rows t.run t.inputs) same
hears_agrees jobs w (messages.Cancel attempt) same = ap attempts_of (append-nil jobs) ∙ same ∙ sym (silent_by w.running (place_of attempt w.running))
hears_agrees jobs w (messages.Unlink key) same = ap attempts_of (append-nil jobs) ∙ same
hears_agrees jobs w (messages.Hello total largest cache) same = still jobs w same
hears_agrees jobs w (messages.Done attempt outcome) same = still jobs w same
hears_agrees jobs w (messages.Missing attempt files) same = still jobs w same
hears_agrees jobs w (messages.Totals total largest cache) same = still jobs w same
hears_agrees jobs w messages.Bye same = ap attempts_of (append-nil jobs) ∙ same

-- ---- reports

ends_agree : (jobs : List Start) (w : Worker) (attempt : AttemptNo) (outcome : Outcome) (at : ℕ) (found : Option Running) → slice_get w.running at ≡ found → attempts_of jobs ≡ attempts_in w.running
    → Agrees (remove jobs at) (ends_at w attempt outcome at found)
ends_agree jobs w attempt outcome at None is same =
    ap attempts_of (append-nil (remove jobs at)) ∙ map_remove (λ s. s.attempt) jobs at ∙ ap (λ attempts. remove attempts at) same
    ∙ sym (map_remove (λ r. r.attempt) w.running at) ∙ ap attempts_in (remove_none w.running at is)
ends_agree jobs w attempt outcome at (Some r) is same =
    ap attempts_of (append-nil (remove jobs at)) ∙ map_remove (λ s. s.attempt) jobs at ∙ ap (λ attempts. remove attempts at) same
    ∙ sym (map_remove (λ r. r.attempt) w.running at)

ended_agrees : (jobs : List Start) (w : Worker) (attempt : AttemptNo) (outcome : Outcome) (found : Option ℕ) → attempts_of jobs ≡ attempts_in w.running
    → Agrees (option_map_or (remove jobs) found jobs) (option_map_or (λ at. ends_at w attempt outcome at (slice_get w.running at)) found (quiet w))
ended_agrees jobs w attempt outcome None same = still jobs w same
ended_agrees jobs w attempt outcome (Some at) same = ends_agree jobs w attempt outcome at (slice_get w.running at) refl same

-- an attempt that is reported runs no more
pub reports_agrees : (jobs : List Start) (w : Worker) (attempt : AttemptNo) (outcome : Outcome) → attempts_of jobs ≡ attempts_in w.running
    → Agrees (without_job attempt jobs) (reports w attempt outcome)
reports_agrees jobs w attempt outcome same =
    subst (λ found. Agrees (option_map_or (remove jobs) found jobs) (reports w attempt outcome)) (sym (same_place attempt jobs w.running same))
    (ended_agrees jobs w attempt outcome (place_of attempt w.running) same)
