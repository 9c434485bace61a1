-- Which attempts run at a worker.
use Rattle.std.proofs.Common.{◌≡◌, ◌≢◌, ◌≤◌, ℕ, zero, suc, ◌+◌, Bool, true, false, not, cond, ltb, List, [], ◌∷◌, ◌++◌, length, get_or, Option, Some, None, refl, sym, ap, ◌∙◌, subst, arith}
use Rattle.std.specs.Prelude.{slice_get, slice_set, remove, is_some, ◌==◌, ◌||◌}
use Rattle.std.specs.List.{list_any, position_or_len}
use Rattle.std.specs.Option.{option_map_or}
use Rattle.std.proofs.lemmas.Bool.{lt-ltb, le-ltb, ltb-true, ltb-false, eqb-true, eq-eqb, ne_eqb}
use Rattle.std.proofs.lemmas.List.Folds.{list_any-append}
use Rattle.std.proofs.lemmas.List.Quantifiers.{position-Some}
use Rattle.std.proofs.lemmas.Option.{slice_get-get_or}
use Rattle.flow_types.specs.declared.job.Outcome.{Outcome}
use Rattle.flow_types.specs.declared.job.Start.{Start}
use Rattle.flow_types.specs.declared.job.Task.{Task}
use Rattle.flow_types.specs.declared.messages.Message.{Message}
use Rattle.flow_types.specs.declared.messages.Message.TheVariants as messages
use Rattle.flow_types.specs.declared.numbers.AttemptNo.{AttemptNo}
use Rattle.wq_messages.specs.Spelling.{HasCounts, most_outputs}
use Rattle.worker_cache.specs.Caches.{is_full, put_in}
use Rattle.worker_core.specs.declared.running.Running.{Running}
use Rattle.worker_core.specs.Workers.{Worker, runs, place_of, holds_all, quiet, with_rows, starts, misses, running_of, silent_one, silenced_at, hears, reports, ends_at}
use Rattle.worker_pool.specs.Courses.{NoneHas, TakesOut}
use Rattle.worker_pool.specs.Steers.{AllDue}
use Rattle.peer_run.specs.Works.{IsRunning}

-- whether it is the attempt
abbrev is_of : AttemptNo → Running → Bool
is_of attempt r = r.attempt.0 == attempt.0

ltb_suc : (a b : ℕ) (t : Bool) → ltb a b ≡ t → ltb (1 + a) (suc b) ≡ t
ltb_suc a b true e = lt-ltb (1 + a) (suc b) (omega (arith, ltb-true a b e))
ltb_suc a b false e = le-ltb (1 + a) (suc b) (omega (arith, ltb-false a b e))

pos_any : (p : Running → Bool) (xs : List Running) → ltb (position_or_len p xs) (length xs) ≡ list_any p xs
pos_any p [] = refl
pos_any p (x ∷ xs) = by (p x) (pos_any p xs)
  where
    by : (b : Bool) → ltb (position_or_len p xs) (length xs) ≡ list_any p xs → ltb (cond (not b) (1 + position_or_len p xs) 0) (suc (length xs)) ≡ (b || list_any p xs)
    by true same = lt-ltb 0 (suc (length xs)) (omega arith)
    by false same = ltb_suc (position_or_len p xs) (length xs) (list_any p xs) same

some_if : (b : Bool) (n : ℕ) → is_some (let found : Option ℕ = cond b (Some n) None in found) ≡ b
some_if true n = refl
some_if false n = refl

-- whether an attempt runs, told element by element
pub runs_any : (attempt : AttemptNo) (w : Worker) → runs attempt w ≡ list_any (is_of attempt) w.running
runs_any attempt w =
    some_if (ltb (position_or_len (is_of attempt) w.running) (length w.running)) (position_or_len (is_of attempt) w.running)
    ∙ pos_any (is_of attempt) w.running

or_left : (a b : Bool) → a ≡ true → (a || b) ≡ true
or_left true b e = refl
or_left false b e = absurd cc

or_right : (a b : Bool) → b ≡ true → (a || b) ≡ true
or_right true b e = refl
or_right false b e = e

-- ---- lists of attempts

any_set : (p : Running → Bool) (xs : List Running) (at : ℕ) (r y : Running) → slice_get xs at ≡ Some r → p y ≡ p r → list_any p (slice_set xs at y) ≡ list_any p xs
any_set p [] at r y is same = refl
any_set p (x ∷ xs) zero r y is same = ap (λ (b : Bool). b || list_any p xs) (same ∙ ap p (let one : r ≡ x = cc in one))
any_set p (x ∷ xs) (suc at) r y is same = ap (λ (b : Bool). p x || b) (any_set p xs at r y is same)

any_remove : (p : Running → Bool) (xs : List Running) (at : ℕ) (r : Running) → slice_get xs at ≡ Some r → p r ≡ false → list_any p (remove xs at) ≡ list_any p xs
any_remove p [] at r is other = absurd (let none : ⊥ = cc in none)
any_remove p (x ∷ xs) zero r is other = ap (λ (b : Bool). b || list_any p xs) (sym (ap p (let one : x ≡ r = cc in one) ∙ other))
any_remove p (x ∷ xs) (suc at) r is other = ap (λ (b : Bool). p x || b) (any_remove p xs at r is other)

any_silenced : (p : Running → Bool) (xs : List Running) (at : ℕ) (found : Option Running) → ((r : Running) → p (silent_one r) ≡ p r) → slice_get xs at ≡ found
    → list_any p (silenced_at xs at found) ≡ list_any p xs
any_silenced p xs at None same is = refl
any_silenced p xs at (Some r) same is = any_set p xs at r (silent_one r) is (same r)

silenced_by : (b attempt : AttemptNo) (xs : List Running) (found : Option ℕ)
    → list_any (is_of b) (option_map_or (λ at. silenced_at xs at (slice_get xs at)) found xs) ≡ list_any (is_of b) xs
silenced_by b attempt xs None = refl
silenced_by b attempt xs (Some at) = any_silenced (is_of b) xs at (slice_get xs at) (λ r. refl) refl

-- ---- what still runs

-- with the same attempts the same run
by_lists : (b : AttemptNo) (old new : Worker) → list_any (is_of b) new.running ≡ list_any (is_of b) old.running → runs b old ≡ true → runs b new ≡ true
by_lists b old new same is = runs_any b new ∙ same ∙ sym (runs_any b old) ∙ is

-- one attempt more
added : (b : AttemptNo) (w : Worker) (task : Task) → runs b w ≡ true → runs b (starts w task).worker ≡ true
added b w task is =
    runs_any b (starts w task).worker ∙ list_any-append (is_of b) w.running (running_of task ∷ [])
    ∙ or_left (list_any (is_of b) w.running) _ (sym (runs_any b w) ∙ is)

new_runs : (w : Worker) (task : Task) → runs task.attempt (starts w task).worker ≡ true
new_runs w task =
    runs_any task.attempt (starts w task).worker ∙ list_any-append (is_of task.attempt) w.running (running_of task ∷ [])
    ∙ or_right (list_any (is_of task.attempt) w.running) _ (or_left (task.attempt.0 == task.attempt.0) false (eq-eqb task.attempt.0 task.attempt.0 refl))

task_keeps : (b : AttemptNo) (w : Worker) (task : Task) (running holds : Bool) → runs b w ≡ true
    → runs b (cond running (quiet w) (cond holds (starts w task) (misses w task))).worker ≡ true
task_keeps b w task true holds is = is
task_keeps b w task false true is = added b w task is
task_keeps b w task false false is = is

put_keeps : (b : AttemptNo) (w : Worker) (full : Bool) (kept : Worker) → kept.running ≡ w.running → runs b w ≡ true
    → runs b (cond full (quiet w) (quiet kept)).worker ≡ true
put_keeps b w true kept same is = is
put_keeps b w false kept same is = by_lists b w kept (ap (list_any (is_of b)) same) is

-- What runs still does after a message.
pub still_hears : (w : Worker) (m : Message) (b : AttemptNo) → runs b w ≡ true → runs b (hears w m).worker ≡ true
still_hears w (messages.Hello total largest cache) b is = is
still_hears w (messages.Put key content) b is =
    put_keeps b w (is_full key (length content) w.cache.cap w.cache.rows) (with_rows w (put_in w.cache.cap key content w.cache.rows)) refl is
still_hears w (messages.Task task) b is = task_keeps b w task (runs task.attempt w) (holds_all w.cache.rows task.run task.inputs) is
still_hears w (messages.Done attempt outcome) b is = is
still_hears w (messages.Missing attempt files) b is = is
still_hears w (messages.Cancel attempt) b is = by_lists b w (hears w (messages.Cancel attempt)).worker (silenced_by b attempt w.running (place_of attempt w.running)) is
still_hears w (messages.Unlink key) b is = is
still_hears w (messages.Totals total largest cache) b is = is
still_hears w messages.Bye b is = is

same_attempt : (a b : AttemptNo) → a.0 ≡ b.0 → a ≡ b
same_attempt a b e = ap (λ (n : ℕ). let x : AttemptNo = record { 0 = n } in x) e

ended_keeps : (w : Worker) (a b : AttemptNo) (o : Outcome) (at : ℕ) (found : Option Running) → slice_get w.running at ≡ found
    → ((r : Running) → found ≡ Some r → is_of b r ≡ false) → runs b w ≡ true → runs b (ends_at w a o at found).worker ≡ true
ended_keeps w a b o at None is others on = on
ended_keeps w a b o at (Some r) is others on =
    by_lists b w (ends_at w a o at (Some r)).worker (any_remove (is_of b) w.running at r is (others r refl)) on

one_of : (x y : Running) → (let some : Option Running = Some x in some ≡ Some y) → x ≡ y
one_of x y e = cc

-- the row at an attempt's place is of that attempt
placed_of : (a : AttemptNo) (xs : List Running) (at : ℕ) (r : Running) → place_of a xs ≡ Some at → slice_get xs at ≡ Some r → r.attempt.0 ≡ a.0
placed_of a xs at r is got =
    let found = position-Some (is_of a) xs at r is in
    let here : r ≡ get_or xs at r = one_of r (get_or xs at r) (sym got ∙ slice_get-get_or xs at r found.0) in
    eqb-true r.attempt.0 a.0 (ap (is_of a) here ∙ found.1)

ends_keep : (w : Worker) (a b : AttemptNo) (o : Outcome) (found : Option ℕ) → place_of a w.running ≡ found → b ≢ a → runs b w ≡ true
    → runs b (option_map_or (λ at. ends_at w a o at (slice_get w.running at)) found (quiet w)).worker ≡ true
ends_keep w a b o None is other on = on
ends_keep w a b o (Some at) is other on =
    ended_keeps w a b o at (slice_get w.running at) refl
    (λ r got. ne_eqb r.attempt.0 b.0 (λ e. other (same_attempt b a (sym e ∙ placed_of a w.running at r is got)))) on

-- What runs of other attempts still does after a report.
pub still_reports : (w : Worker) (a : AttemptNo) (o : Outcome) (b : AttemptNo) → b ≢ a → runs b w ≡ true → runs b (reports w a o).worker ≡ true
still_reports w a o b other on = ends_keep w a b o (place_of a w.running) refl other on

-- ---- what waits

none_among : (due : Start → Type 0) (attempt : AttemptNo) (xs : List Start) → ((s : Start) → due s → s.attempt ≢ attempt) → AllDue due xs → NoneHas attempt xs
none_among due attempt [] k a = tt
none_among due attempt (s ∷ xs) k a = (k s a.0, none_among due attempt xs k a.2)

none_snoc : (attempt : AttemptNo) (xs : List Start) (s : Start) → NoneHas attempt xs → s.attempt ≢ attempt → NoneHas attempt (xs ++ s ∷ [])
none_snoc attempt [] s n k = (k, tt)
none_snoc attempt (x ∷ xs) s n k = (n.0, none_snoc attempt xs s n.1 k)

due_snoc : (due : Start → Type 0) (xs : List Start) (s : Start) → AllDue due xs → NoneHas s.attempt xs → due s → AllDue due (xs ++ s ∷ [])
due_snoc due [] s a n d = (d, tt, tt)
due_snoc due (x ∷ xs) s a n d = (a.0, none_snoc x.attempt xs s a.1 (λ e. n.0 (sym e)), due_snoc due xs s a.2 n.1 d)

none_out : (attempt : AttemptNo) (front back : List Start) (s : Start) → NoneHas attempt (front ++ s ∷ back) → (s.attempt ≢ attempt) × NoneHas attempt (front ++ back)
none_out attempt [] back s n = (n.0, n.1)
none_out attempt (x ∷ front) back s n = let r = none_out attempt front back s n.1 in (r.0, (n.0, r.1))

-- the one that is taken out is due, and the others are due and have other attempts
due_out : (due : Start → Type 0) (front back : List Start) (s : Start) → AllDue due (front ++ s ∷ back) → due s × NoneHas s.attempt (front ++ back) × AllDue due (front ++ back)
due_out due [] back s a = a
due_out due (x ∷ front) back s a =
    let r = due_out due front back s a.2 in
    let n = none_out x.attempt front back s a.1 in
    (r.0, ((λ e. n.0 (sym e)), r.1), (a.0, n.1, r.2))

-- what is due and has another attempt than one
due_but : (due later : Start → Type 0) (attempt : AttemptNo) (xs : List Start) → ((s : Start) → s.attempt ≢ attempt → due s → later s) → NoneHas attempt xs → AllDue due xs → AllDue later xs
due_but due later attempt [] k n a = tt
due_but due later attempt (x ∷ xs) k n a = (k x n.0 a.0, a.1, due_but due later attempt xs k n.1 a.2)

all_kept : (due later : Start → Type 0) (xs : List Start) → ((s : Start) → due s → later s) → AllDue due xs → AllDue later xs
all_kept due later [] k a = tt
all_kept due later (s ∷ xs) k a = (k s a.0, a.1, all_kept due later xs k a.2)

-- What waited and runs still does after a report of another, which ran.
pub running_out : (w : Worker) (start : Start) (o : Outcome) (before after : List Start) → TakesOut start before after → AllDue (IsRunning w) before
    → IsRunning w start × AllDue (IsRunning (reports w start.attempt o).worker) after
running_out w start o before after out all =
    let parts = due_out (IsRunning w) out.0 out.1 start (subst (AllDue (IsRunning w)) out.2 all) in (
      parts.0,
      subst (AllDue (IsRunning (reports w start.attempt o).worker)) (sym out.3)
          (due_but (IsRunning w) (IsRunning (reports w start.attempt o).worker) start.attempt (out.0 ++ out.1) (λ s other is. (still_reports w start.attempt o s.attempt other is.0, is.1)) parts.1 parts.2),
    )

same_end : (due : Start → Type 0) (xs : List Start) → AllDue due xs → AllDue due (xs ++ [])
same_end due [] a = a
same_end due (x ∷ xs) a = (a.0, none_end x.attempt xs a.1, same_end due xs a.2)
  where
    none_end : (attempt : AttemptNo) (ys : List Start) → NoneHas attempt ys → NoneHas attempt (ys ++ [])
    none_end attempt [] n = tt
    none_end attempt (y ∷ ys) n = (n.0, none_end attempt ys n.1)

others_run : (w : Worker) (task : Task) (s : Start) → runs task.attempt w ≡ false → runs s.attempt w ≡ true → s.attempt ≢ task.attempt
others_run w task s stood on same = let wrong : ⊥ = cc (ap (λ (a : AttemptNo). runs a w) same, on, stood) in wrong

task_waits : (w : Worker) (task : Task) (xs : List Start) (running holds : Bool) → runs task.attempt w ≡ running → length task.outputs ≤ most_outputs → AllDue (IsRunning w) xs
    → let acted = cond running (quiet w) (cond holds (starts w task) (misses w task)) in AllDue (IsRunning acted.worker) (xs ++ acted.acts.start)
task_waits w task xs true holds is few all = same_end (IsRunning w) xs all
task_waits w task xs false true is few all =
    let new = (starts w task).worker in
    let kept = all_kept (IsRunning w) (IsRunning new) xs (λ s on. (added s.attempt w task on.0, on.1)) all in
    let apart = none_among (IsRunning w) task.attempt xs (λ s on. others_run w task s is on.0) all in
    due_snoc (IsRunning new) xs _ kept apart (new_runs w task, few)
task_waits w task xs false false is few all = same_end (IsRunning w) xs all

-- What waits runs, after a message too, with what it starts.
pub running_more : (w : Worker) (m : Message) (xs : List Start) → HasCounts m → AllDue (IsRunning w) xs → AllDue (IsRunning (hears w m).worker) (xs ++ (hears w m).acts.start)
running_more w (messages.Task task) xs few all = task_waits w task xs (runs task.attempt w) (holds_all w.cache.rows task.run task.inputs) refl few.1 all
running_more w (messages.Hello total largest cache) xs few all = same_end (IsRunning w) xs all
running_more w (messages.Put key content) xs few all =
    by (is_full key (length content) w.cache.cap w.cache.rows)
  where
    by : (full : Bool) → let acted = cond full (quiet w) (quiet (with_rows w (put_in w.cache.cap key content w.cache.rows))) in AllDue (IsRunning acted.worker) (xs ++ acted.acts.start)
    by true = same_end (IsRunning w) xs all
    by false = same_end (IsRunning w) xs all
running_more w (messages.Done attempt outcome) xs few all = same_end (IsRunning w) xs all
running_more w (messages.Missing attempt files) xs few all = same_end (IsRunning w) xs all
running_more w (messages.Cancel attempt) xs few all =
    let new = (hears w (messages.Cancel attempt)).worker in
    same_end (IsRunning new) xs (all_kept (IsRunning w) (IsRunning new) xs (λ s on. (still_hears w (messages.Cancel attempt) s.attempt on.0, on.1)) all)
running_more w (messages.Unlink key) xs few all = same_end (IsRunning w) xs all
running_more w (messages.Totals total largest cache) xs few all = same_end (IsRunning w) xs all
running_more w messages.Bye xs few all = same_end (IsRunning w) xs all
