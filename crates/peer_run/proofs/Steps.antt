-- What a worker comes to by each thing that it does.
use Rattle.std.proofs.Common.{◌≡◌, ◌≤◌, ℕ, Bool, true, false, cond, List, [], ◌∷◌, ◌++◌, length, Option, Some, None, Result, Ok, Err, refl, sym, ◌∙◌, subst, arith}
use Rattle.std.specs.Prelude.{slice_get}
use Rattle.std.specs.Option.{option_map_or}
use Rattle.flow_types.specs.declared.job.Failure.{Failure}
use Rattle.flow_types.specs.declared.job.Job.{Job}
use Rattle.flow_types.specs.declared.job.Outcome.{Outcome}
use Rattle.flow_types.specs.declared.job.Outcome.TheVariants.{Success, Failed, NotRun}
use Rattle.flow_types.specs.declared.job.Start.{Start}
use Rattle.flow_types.specs.declared.job.Task.{Task}
use Rattle.flow_types.specs.declared.messages.Key.{Key}
use Rattle.flow_types.specs.declared.messages.Message.{Message}
use Rattle.flow_types.specs.declared.messages.Message.TheVariants as messages
use Rattle.flow_types.specs.declared.numbers.AttemptNo.{AttemptNo}
use Rattle.flow_types.specs.Serial.{Function}
use Rattle.links.specs.Peers.{MaySay}
use Rattle.message_forms.proofs.Parses.{carries_more}
use Rattle.wq_frames.specs.Frames.{front}
use Rattle.std.proofs.lemmas.Bool.{and_from, leb-true}
use Rattle.wq_messages.specs.Spelling.{HasCounts, HasSpelling}
use Rattle.worker_cache.specs.Caches.{Rows, is_full, put_in}
use Rattle.worker_core.specs.declared.acts.Acts.{Acts}
use Rattle.worker_core.specs.declared.running.Running.{Running}
use Rattle.worker_core.specs.Answers.{Hears}
use Rattle.wq_messages.specs.declared.fault.PeerFault.{PeerFault}
use Rattle.wq_messages.specs.declared.fault.PeerFault.TheVariants as peers
use Rattle.worker_core.specs.Workers.{Acted, Worker, runs, holds_all, quiet, with_rows, starts, misses, missing_message, hears, reports, ends_at, place_of, told, unpinned_all, goes_up}
use Rattle.peer_run.specs.Asked.{AllRows, AreAsked, IsAsked, WasPut}
use Rattle.peer_run.specs.Met.{hello_of, is_bye}
use Rattle.peer_run.specs.Says.{CanBeTold, Each}
use Rattle.peer_run.proofs.HeldContents.{all_unpinned}
use Rattle.peer_run.proofs.Sizes.{missing_told}

-- ---- one message at most is said at a step

task_says : (w : Worker) (task : Task) (running holds : Bool) → holds_all w.cache.rows task.run task.inputs ≡ holds → HasCounts (messages.Task task)
    → let acted = cond running (quiet w) (cond holds (starts w task) (misses w task)) in (length acted.acts.send ≤ 1) × Each CanBeTold acted.acts.send
task_says w task true holds is few = (omega arith, tt)
task_says w task false true is few = (omega arith, tt)
task_says w task false false is few = (omega arith, (missing_told w task few.0 is, tt))

put_says : (w : Worker) (key : Key) (content : List ℕ) (full : Bool)
    → let acted = cond full (quiet w) (quiet (with_rows w (put_in w.cache.cap key content w.cache.rows))) in (length acted.acts.send ≤ 1) × Each CanBeTold acted.acts.send
put_says w key content true = (omega arith, tt)
put_says w key content false = (omega arith, tt)

-- What a message makes a worker say is one message at most, which can be told.
pub hears_says : (w : Worker) (m : Message) → HasCounts m → (length (hears w m).acts.send ≤ 1) × Each CanBeTold (hears w m).acts.send
hears_says w (messages.Hello total largest cache) few = (omega arith, tt)
hears_says w (messages.Put key content) few = put_says w key content (is_full key (length content) w.cache.cap w.cache.rows)
hears_says w (messages.Task task) few = task_says w task (runs task.attempt w) (holds_all w.cache.rows task.run task.inputs) refl few
hears_says w (messages.Done attempt outcome) few = (omega arith, tt)
hears_says w (messages.Missing attempt files) few = (omega arith, tt)
hears_says w (messages.Cancel attempt) few = (omega arith, tt)
hears_says w (messages.Unlink key) few = (omega arith, tt)
hears_says w (messages.Totals total largest cache) few = (omega arith, tt)
hears_says w messages.Bye few = (omega arith, tt)

-- What a message makes a worker start is one job at most.
pub hears_starts : (w : Worker) (m : Message) → length (hears w m).acts.start ≤ 1
hears_starts w (messages.Hello total largest cache) = omega arith
hears_starts w (messages.Put key content) = by (is_full key (length content) w.cache.cap w.cache.rows)
  where
    by : (full : Bool) → length (cond full (quiet w) (quiet (with_rows w (put_in w.cache.cap key content w.cache.rows)))).acts.start ≤ 1
    by true = omega arith
    by false = omega arith
hears_starts w (messages.Task task) = by (runs task.attempt w) (holds_all w.cache.rows task.run task.inputs)
  where
    by : (running holds : Bool) → length (cond running (quiet w) (cond holds (starts w task) (misses w task))).acts.start ≤ 1
    by true holds = omega arith
    by false true = omega arith
    by false false = omega arith
hears_starts w (messages.Done attempt outcome) = omega arith
hears_starts w (messages.Missing attempt files) = omega arith
hears_starts w (messages.Cancel attempt) = omega arith
hears_starts w (messages.Unlink key) = omega arith
hears_starts w (messages.Totals total largest cache) = omega arith
hears_starts w messages.Bye = omega arith

-- Only Bye is the end of the work, and says nothing.
pub hears_bye : (w : Worker) (m : Message) → ((hears w m).acts.bye ≡ is_bye m) × (is_bye m ≡ true → (hears w m).acts.send ≡ [])
hears_bye w (messages.Hello total largest cache) = (refl, λ e. refl)
hears_bye w (messages.Put key content) = by (is_full key (length content) w.cache.cap w.cache.rows)
  where
    by : (full : Bool) → let acted = cond full (quiet w) (quiet (with_rows w (put_in w.cache.cap key content w.cache.rows))) in (acted.acts.bye ≡ false) × (false ≡ true → acted.acts.send ≡ [])
    by true = (refl, λ e. refl)
    by false = (refl, λ e. refl)
hears_bye w (messages.Task task) = by (runs task.attempt w) (holds_all w.cache.rows task.run task.inputs)
  where
    by : (running holds : Bool) → let acted = cond running (quiet w) (cond holds (starts w task) (misses w task)) in (acted.acts.bye ≡ false) × (false ≡ true → acted.acts.send ≡ [])
    by true holds = (refl, λ e. refl)
    by false true = (refl, λ e. refl)
    by false false = (refl, λ e. absurd cc)
hears_bye w (messages.Done attempt outcome) = (refl, λ e. refl)
hears_bye w (messages.Missing attempt files) = (refl, λ e. refl)
hears_bye w (messages.Cancel attempt) = (refl, λ e. refl)
hears_bye w (messages.Unlink key) = (refl, λ e. refl)
hears_bye w (messages.Totals total largest cache) = (refl, λ e. refl)
hears_bye w messages.Bye = (refl, λ e. refl)

-- it is no result
abbrev IsNoResult : Message → Type 0
IsNoResult (messages.Done attempt outcome) = ⊥
IsNoResult _ = Unit {0}

may_say : (gives : Function) (may_fail : Job → Failure → Type 0) (down : List ℕ) (m : Message) → IsNoResult m → MaySay gives may_fail down m
may_say gives may_fail down m other attempt outcome is ran = absurd (subst IsNoResult is other)

hears_no_result : (w : Worker) (m : Message) → Each IsNoResult (hears w m).acts.send
hears_no_result w (messages.Hello total largest cache) = tt
hears_no_result w (messages.Put key content) = by (is_full key (length content) w.cache.cap w.cache.rows)
  where
    by : (full : Bool) → Each IsNoResult (cond full (quiet w) (quiet (with_rows w (put_in w.cache.cap key content w.cache.rows)))).acts.send
    by true = tt
    by false = tt
hears_no_result w (messages.Task task) = by (runs task.attempt w) (holds_all w.cache.rows task.run task.inputs)
  where
    by : (running holds : Bool) → Each IsNoResult (cond running (quiet w) (cond holds (starts w task) (misses w task))).acts.send
    by true holds = tt
    by false true = tt
    by false false = (tt, tt)
hears_no_result w (messages.Done attempt outcome) = tt
hears_no_result w (messages.Missing attempt files) = tt
hears_no_result w (messages.Cancel attempt) = tt
hears_no_result w (messages.Unlink key) = tt
hears_no_result w (messages.Totals total largest cache) = tt
hears_no_result w messages.Bye = tt

-- A hello may be said.
pub hello_may : (gives : Function) (may_fail : Job → Failure → Type 0) (down : List ℕ) (w : Worker) → MaySay gives may_fail down (hello_of w)
hello_may gives may_fail down w = may_say gives may_fail down (hello_of w) tt

each_kept : (P Q : Message → Type 0) (ms : List Message) → ((m : Message) → P m → Q m) → Each P ms → Each Q ms
each_kept P Q [] k all = tt
each_kept P Q (m ∷ ms) k all = (k m all.0, each_kept P Q ms k all.1)

-- What a message makes a worker say may be said.
pub hears_may : (gives : Function) (may_fail : Job → Failure → Type 0) (down : List ℕ) (w : Worker) (m : Message) → Each (MaySay gives may_fail down) (hears w m).acts.send
hears_may gives may_fail down w m = each_kept IsNoResult (MaySay gives may_fail down) (hears w m).acts.send (may_say gives may_fail down) (hears_no_result w m)

-- ---- a report

-- a fact of what is said of an attempt that ended so holds where it holds of its result
told_each : (P : Message → Type 0) (silent : Bool) (attempt : AttemptNo) (outcome : Outcome) → P (messages.Done attempt outcome)
    → (length (told silent attempt outcome) ≤ 1) × Each P (told silent attempt outcome)
told_each P true attempt outcome is = (omega arith, tt)
told_each P false attempt outcome is = (omega arith, (is, tt))

ended_each : (P : Message → Type 0) (w : Worker) (attempt : AttemptNo) (outcome : Outcome) (at : ℕ) (found : Option Running) → P (messages.Done attempt outcome)
    → (length (ends_at w attempt outcome at found).acts.send ≤ 1) × Each P (ends_at w attempt outcome at found).acts.send
ended_each P w attempt outcome at None is = (omega arith, tt)
ended_each P w attempt outcome at (Some r) is = told_each P r.silent attempt outcome is

placed_each : (P : Message → Type 0) (w : Worker) (attempt : AttemptNo) (outcome : Outcome) (found : Option ℕ) → P (messages.Done attempt outcome)
    → let acted = option_map_or (λ at. ends_at w attempt outcome at (slice_get w.running at)) found (quiet w) in (length acted.acts.send ≤ 1) × Each P acted.acts.send
placed_each P w attempt outcome None is = (omega arith, tt)
placed_each P w attempt outcome (Some at) is = ended_each P w attempt outcome at (slice_get w.running at) is

-- What a report makes a worker say is its result, if anything.
pub reports_each : (P : Message → Type 0) (w : Worker) (attempt : AttemptNo) (outcome : Outcome) → P (messages.Done attempt outcome)
    → (length (reports w attempt outcome).acts.send ≤ 1) × Each P (reports w attempt outcome).acts.send
reports_each P w attempt outcome is = placed_each P w attempt outcome (place_of attempt w.running) is

all_given_back : (P : Key → List ℕ → Type 0) (run : ℕ) (inputs : List Rattle.flow_types.specs.declared.plan.Port.Port) (rows : Rows) → AllRows P rows → AllRows P (unpinned_all run inputs rows)
all_given_back P run [] rows all = all
all_given_back P run (port ∷ ports) rows all = all_given_back P run ports _ (all_unpinned P (Rattle.worker_core.specs.Workers.key_of run port.file) rows all)

ended_rows : (P : Key → List ℕ → Type 0) (w : Worker) (attempt : AttemptNo) (outcome : Outcome) (at : ℕ) (found : Option Running) → AllRows P w.cache.rows
    → AllRows P (ends_at w attempt outcome at found).worker.cache.rows
ended_rows P w attempt outcome at None all = all
ended_rows P w attempt outcome at (Some r) all = all_given_back P r.run r.inputs w.cache.rows all

placed_rows : (P : Key → List ℕ → Type 0) (w : Worker) (attempt : AttemptNo) (outcome : Outcome) (found : Option ℕ) → AllRows P w.cache.rows
    → AllRows P (option_map_or (λ at. ends_at w attempt outcome at (slice_get w.running at)) found (quiet w)).worker.cache.rows
placed_rows P w attempt outcome None all = all
placed_rows P w attempt outcome (Some at) all = ended_rows P w attempt outcome at (slice_get w.running at) all

pub reports_rows : (P : Key → List ℕ → Type 0) (w : Worker) (attempt : AttemptNo) (outcome : Outcome) → AllRows P w.cache.rows → AllRows P (reports w attempt outcome).worker.cache.rows
reports_rows P w attempt outcome all = placed_rows P w attempt outcome (place_of attempt w.running) all

-- ---- more comes down

rows_kept : (P Q : Key → List ℕ → Type 0) (rows : Rows) → ((key : Key) (content : List ℕ) → P key content → Q key content) → AllRows P rows → AllRows Q rows
rows_kept P Q [] k all = tt
rows_kept P Q (row ∷ rows) k all = (k row.0 row.1.content all.0, rows_kept P Q rows k all.1)

pub rows_more : (down more : List ℕ) (rows : Rows) → AllRows (WasPut down) rows → AllRows (WasPut (down ++ more)) rows
rows_more down more rows all = rows_kept (WasPut down) (WasPut (down ++ more)) rows (λ key content c. carries_more down more (messages.Put key content) c) all

asked_one_more : (down more : List ℕ) (start : Start) → IsAsked down start → IsAsked (down ++ more) start
asked_one_more down more start a = record {
  task = a.task;
  of_attempt = a.of_attempt;
  asked = carries_more down more (messages.Task a.task) a.asked;
  contents = a.contents;
  were_put = λ f is. let put = a.were_put f is in (put.0, put.1, carries_more down more _ put.2);
  job_is = a.job_is;
}

pub asked_more : (down more : List ℕ) (xs : List Start) → AreAsked down xs → AreAsked (down ++ more) xs
asked_more down more [] all = tt
asked_more down more (x ∷ xs) all = (asked_one_more down more x all.0, asked_more down more xs all.1)

pub asked_append : (down : List ℕ) (xs ys : List Start) → AreAsked down xs → AreAsked down ys → AreAsked down (xs ++ ys)
asked_append down [] ys left right = right
asked_append down (x ∷ xs) ys left right = (left.0, asked_append down xs ys left.1 right)

pub asked_out : (down : List ℕ) (front back : List Start) (start : Start) → AreAsked down (front ++ start ∷ back) → IsAsked down start × AreAsked down (front ++ back)
asked_out down [] back start all = all
asked_out down (x ∷ front) back start all = let r = asked_out down front back start all.1 in (r.0, (all.0, r.1))

-- ---- what the machine's answers say

pub hears_up : (b : Bool) (acted : Acted) (old new : Worker) (fault : PeerFault) → (let r : Result Acts PeerFault = Err fault in Hears b acted old r new) → fault ≡ peers.Unexpected → b ≡ true
hears_up true acted old new fault h is = refl
hears_up false acted old new fault h is = absurd (let wrong : ⊥ = cc (sym h.0 ∙ is) in wrong)

pub hears_ok : (b : Bool) (acted : Acted) (old new : Worker) (acts : Acts) → (let r : Result Acts PeerFault = Ok acts in Hears b acted old r new)
    → (b ≡ false) × (acts ≡ acted.acts) × (new ≡ acted.worker)
hears_ok true acted old new acts h = absurd (let wrong : ⊥ = cc h.0 in wrong)
hears_ok false acted old new acts h = (refl, h.0, h.1)

-- where something is said, it isn't the end of the work
pub not_bye : (w : Worker) (m : Message) → ((hears w m).acts.send ≡ [] → ⊥) → is_bye m ≡ false
not_bye w m some = by (is_bye m) refl
  where
    by : (b : Bool) → is_bye m ≡ b → is_bye m ≡ false
    by true e = absurd (some ((hears_bye w m).1 e))
    by false e = e

-- ---- what was read can be counted

outcome_counts : (attempt : AttemptNo) (outcome : Outcome) → HasSpelling (messages.Done attempt outcome) → HasCounts (messages.Done attempt outcome)
outcome_counts attempt (Success contents) h = leb-true (length contents) 1024 h.1.0.1
outcome_counts attempt (Failed why) h = tt
outcome_counts attempt NotRun h = tt

-- A message that can be spelled has its counts within their limits.
pub spelled_counts : (m : Message) → HasSpelling m → HasCounts m
spelled_counts (messages.Hello total largest cache) h = tt
spelled_counts (messages.Put key content) h = tt
spelled_counts (messages.Task task) h =
    (leb-true (length task.inputs) 4096 h.1.1.1.1.1.0.0.1, leb-true (length task.outputs) 1024 h.1.1.1.1.1.1.0.1)
spelled_counts (messages.Done attempt outcome) h = outcome_counts attempt outcome h
spelled_counts (messages.Missing attempt files) h = and_from _ _ h.1.0.1 h.1.1.1
spelled_counts (messages.Cancel attempt) h = tt
spelled_counts (messages.Unlink key) h = tt
spelled_counts (messages.Totals total largest cache) h = tt
spelled_counts messages.Bye h = tt
