-- What the rules do is kept by each step of a table.
use Rattle.std.proofs.Common.{◌≡◌, ℕ, zero, suc, ◌+◌, ◌<◌, ◌≤◌, ◌∙◌, Bool, true, false, cond, not, Option, Some, None, List, [], ◌∷◌, length, get_or, map, replicate, refl, ap, sym, subst, arith}
use Rattle.std.specs.Prelude.{◌==◌, nat_le, nat_lt, slice_index_or, slice_set}
use Rattle.std.specs.List.{list_all}
use Rattle.std.specs.Option.{option_map_or}
use mathlib.Core.Path.{fun_ext}
use Rattle.std.proofs.lemmas.Bool.{and_parts, eqb-true, eqb-false, le-leb, leb-true, leb-false, lt-leb, true≢false}
use Rattle.std.proofs.lemmas.List.{get_or-set_other, get_or-set_same}
use Rattle.flow_types.specs.declared.plan.Plan.{Plan}
use Rattle.flow_types.specs.Plans.{contains_number, most_bytes, most_rules, takes}
use Rattle.run_history.specs.declared.options.Options.{Options}
use Rattle.run_history.specs.declared.states.RuleState.{RuleState}
use Rattle.run_history.specs.declared.states.RuleState.TheVariants as rule
use Rattle.run_history.specs.declared.states.FileState.{FileState}
use Rattle.run_history.specs.declared.states.FileState.TheVariants as file
use Rattle.run_history.specs.States.{Place, unfinished_state}
use Rattle.run_history.specs.Storage.{is_complete_state, is_failed_state, is_running_state, is_waiting_state, size_in}
use Rattle.ready_rules.specs.Lines.{Line, placed, without}
use Rattle.ready_rules.specs.Pendings.{with_wait}
use Rattle.rule_progress.specs.Progress.{ChangesAt, HasInputs, HasOpened, IsProgress, IsSame, Knows, Progressing, bytes_by, closed_as, with_size}
use Rattle.rule_progress.proofs.Stepping.{closed-so, done-few, failed-room, finished, only-running, only-waiting, running-room, started}
use Rattle.rule_progress.proofs.Coming.{got, opened, passing-inside}
use Rattle.task_core.specs.declared.rows.RuleRow.{RuleRow}
use Rattle.task_core.specs.Accounts.{IsProgressOf, size_of}
use Rattle.task_core.specs.Known.{can_start, is_dispensable, is_there, known_size, runs_now}
use Rattle.task_core.specs.Stands.{waiting_row}
use Rattle.task_core.specs.States.{IsTable, TableState, blank_row, known_in, row_at, state_of}
use Rattle.task_core.proofs.Accounting.{waiting-open}
use Rattle.task_core.proofs.Ending.{dispensable-parts, made-inside}
use Rattle.task_core.proofs.Keeping.{same_row}

-- the states of rules with these rows
abbrev pub states_by : ℕ → List RuleRow → ℕ → RuleState
states_by retries rows r = state_of retries (slice_index_or rows r blank_row)

-- what is kept is as these rows and files say
abbrev pub IsBy : Plan → Options → ℕ → List RuleRow → List FileState → Progressing → Type 0
IsBy P O retries rows files V = IsProgress P O (states_by retries rows) (size_of files) V

changes : (retries r : ℕ) (rows : List RuleRow) (row : RuleRow) → ChangesAt (states_by retries rows) (states_by retries (slice_set rows r row)) r
changes retries r rows row q apart = ap (state_of retries) (get_or-set_other rows r q row blank_row apart)

state-set : (retries r : ℕ) (rows : List RuleRow) (row : RuleRow) → r < length rows → states_by retries (slice_set rows r row) r ≡ state_of retries row
state-set retries r rows row inside = ap (state_of retries) (get_or-set_same rows r row blank_row inside)

with_place : (done failed : Bool) (place : Place) → done ≡ false → is_running_state (cond done rule.Complete (unfinished_state (Some place) failed)) ≡ true
with_place true failed place undone = absurd (true≢false undone)
with_place false failed place undone = refl

run_undone : (done failed : Bool) (place : Option Place) → is_running_state (cond done rule.Complete (unfinished_state place failed)) ≡ true → done ≡ false
run_undone true failed place runs = absurd (true≢false (sym runs))
run_undone false failed place runs = refl

-- a rule that runs isn't done
running-open : (retries : ℕ) (row : RuleRow) → is_running_state (state_of retries row) ≡ true → row.done ≡ false
running-open retries row runs = run_undone row.done (nat_le (retries + 1) row.failures) row.place runs

-- there is a place for what starts
pub start-room : (t value : TableState) → t ≡ value → (V : Progressing) (r : ℕ) → IsTable t → IsProgressOf (known_in t) V → r < length value.plan.rules → can_start (known_in value) r ≡ true
    → (r < length V.pending.waits) × (length V.running.numbers < V.running.places)
start-room t value same V r table is inside starts =
    let within : r < length t.plan.rules = subst (λ (v : TableState). r < length v.plan.rules) (sym same) inside in
    let ready : can_start (known_in t) r ≡ true = subst (λ (v : TableState). can_start (known_in v) r ≡ true) (sym same) starts in
    let waits : is_waiting_state ((known_in t).rules r) ≡ true = (and_parts (is_waiting_state ((known_in t).rules r)) (list_all (is_there (known_in t)) (takes t.plan r)) ready).0 in
    (omega (arith, within, is.rules.rules), running-room t.plan t.options (known_in t).rules (known_size (known_in t)) V r within (only-waiting ((known_in t).rules r) waits).0 is)

-- an attempt starts
pub started-progress : (t value : TableState) → t ≡ value → (V U : Progressing) (r : ℕ) (place : Place) (old : RuleRow) → IsTable t → IsProgressOf (known_in t) V → r < length value.plan.rules → can_start (known_in value) r ≡ true
    → old ≡ get_or t.rules r old → U ≡ record V { pending = with_wait V.pending r false; running = record V.running { numbers = placed r V.running.numbers } }
    → IsBy t.plan t.options t.retries (slice_set t.rules r (record { place = Some place; done = old.done; failures = old.failures; why = old.why; started = true })) t.files U
started-progress t value same V U r place old table is inside starts here set =
    let within : r < length t.plan.rules = subst (λ (v : TableState). r < length v.plan.rules) (sym same) inside in
    let less : r < length t.rules = omega (arith, within, table.rules) in
    let ready : can_start (known_in t) r ≡ true = subst (λ (v : TableState). can_start (known_in v) r ≡ true) (sym same) starts in
    let waits : is_waiting_state ((known_in t).rules r) ≡ true = (and_parts (is_waiting_state ((known_in t).rules r)) (list_all (is_there (known_in t)) (takes t.plan r)) ready).0 in
    let row_is : row_at t r ≡ old = same_row t.rules r old here less in
    let undone : old.done ≡ false = sym (ap (λ (w : RuleRow). w.done) row_is) ∙ waiting-open t.retries (row_at t r) waits in
    let row : RuleRow = record { place = Some place; done = old.done; failures = old.failures; why = old.why; started = true } in
    let runs : is_running_state (states_by t.retries (slice_set t.rules r row) r) ≡ true = ap is_running_state (state-set t.retries r t.rules row less) ∙ with_place old.done (nat_le (t.retries + 1) old.failures) place undone in
    subst (λ (X : Progressing). IsBy t.plan t.options t.retries (slice_set t.rules r row) t.files X) (sym set)
    (started t.plan t.options (states_by t.retries t.rules) (states_by t.retries (slice_set t.rules r row)) (size_of t.files) V r within (changes t.retries r t.rules row) waits runs is)

-- there is a place for what fails
pub close-room : (t value : TableState) → t ≡ value → (V : Progressing) (r : ℕ) → IsTable t → IsProgressOf (known_in t) V → r < length value.plan.rules → runs_now (known_in value) r ≡ true
    → (r < length V.pending.waits) × (length V.failed.numbers < V.failed.places)
close-room t value same V r table is inside runs =
    let within : r < length t.plan.rules = subst (λ (v : TableState). r < length v.plan.rules) (sym same) inside in
    let ran : runs_now (known_in t) r ≡ true = subst (λ (v : TableState). runs_now (known_in v) r ≡ true) (sym same) runs in
    (omega (arith, within, is.rules.rules), failed-room t.plan t.options (known_in t).rules (known_size (known_in t)) V r within (only-running ((known_in t).rules r) ran).1 is)

closed_state : (done b : Bool) (place : Option Place) → done ≡ false → place ≡ None → (is_failed_state (cond done rule.Complete (unfinished_state place b)) ≡ b) × (is_waiting_state (cond done rule.Complete (unfinished_state place b)) ≡ not b)
closed_state true b place undone none = absurd (true≢false undone)
closed_state false true place undone none = (ap (λ p. is_failed_state (unfinished_state p true)) none, ap (λ p. is_waiting_state (unfinished_state p true)) none)
closed_state false false place undone none = (ap (λ p. is_failed_state (unfinished_state p false)) none, ap (λ p. is_waiting_state (unfinished_state p false)) none)

-- an attempt is closed
pub closed-progress : (t value : TableState) → t ≡ value → (V U : Progressing) (r : ℕ) (row old : RuleRow) (b : Bool) → IsTable t → IsProgressOf (known_in t) V → r < length value.plan.rules → runs_now (known_in value) r ≡ true
    → old ≡ get_or t.rules r old → row.place ≡ None → row.done ≡ old.done → b ≡ nat_le (t.retries + 1) row.failures → U ≡ closed_as V r b → IsBy t.plan t.options t.retries (slice_set t.rules r row) t.files U
closed-progress t value same V U r row old b table is inside runs here none done_is failed set =
    let within : r < length t.plan.rules = subst (λ (v : TableState). r < length v.plan.rules) (sym same) inside in
    let less : r < length t.rules = omega (arith, within, table.rules) in
    let ran : runs_now (known_in t) r ≡ true = subst (λ (v : TableState). runs_now (known_in v) r ≡ true) (sym same) runs in
    let undone : row.done ≡ false = done_is ∙ sym (ap (λ (w : RuleRow). w.done) (same_row t.rules r old here less)) ∙ running-open t.retries (row_at t r) ran in
    let state = closed_state row.done (nat_le (t.retries + 1) row.failures) row.place undone none in
    let at : states_by t.retries (slice_set t.rules r row) r ≡ state_of t.retries row = state-set t.retries r t.rules row less in
    subst (λ (X : Progressing). IsBy t.plan t.options t.retries (slice_set t.rules r row) t.files X) (sym set)
    (closed-so t.plan t.options (states_by t.retries t.rules) (states_by t.retries (slice_set t.rules r row)) (size_of t.files) V r b within (changes t.retries r t.rules row) ran
    (ap is_failed_state at ∙ state.0 ∙ sym failed) (ap is_waiting_state at ∙ state.1 ∙ ap not (sym failed)) is)

-- fewer than all rules are complete where one runs
pub finish-room : (t value : TableState) → t ≡ value → (V U : Progressing) (r : ℕ) → IsTable t → IsProgressOf (known_in t) V → r < length value.plan.rules → runs_now (known_in value) r ≡ true → IsSame V U → U.done < 4294967295
finish-room t value same V U r table is inside runs only =
    let within : r < length t.plan.rules = subst (λ (v : TableState). r < length v.plan.rules) (sym same) inside in
    let ran : runs_now (known_in t) r ≡ true = subst (λ (v : TableState). runs_now (known_in v) r ≡ true) (sym same) runs in
    let few : V.done < length t.plan.rules = done-few t.plan t.options (known_in t).rules (known_size (known_in t)) V r within (only-running ((known_in t).rules r) ran).2 is in
    let most : length t.plan.rules ≤ most_rules = leb-true (length t.plan.rules) most_rules table.valid.few_rules in
    let done_is : U.done ≡ V.done = ap (λ (X : Progressing). X.done) only.rest in
    omega (arith, few, most, done_is)

-- a rule is done, and its outputs are there
pub done-progress : (t value : TableState) → t ≡ value → (P : Plan) → P ≡ t.plan → (V X U : Progressing) (r : ℕ) (old : RuleRow) (files : List FileState) → IsTable t → IsProgressOf (known_in t) V → r < length value.plan.rules → runs_now (known_in value) r ≡ true
    → old ≡ get_or t.rules r old → Knows t.plan (size_of files) X → IsSame V X → U ≡ record X { running = record X.running { numbers = without r X.running.numbers }; done = X.done + 1 }
    → IsBy P t.options t.retries (slice_set t.rules r (record { place = None; done = true; failures = old.failures; why = old.why; started = old.started })) files U
done-progress t value same P plan V X U r old files table is inside runs here known only set =
    let within : r < length t.plan.rules = subst (λ (v : TableState). r < length v.plan.rules) (sym same) inside in
    let less : r < length t.rules = omega (arith, within, table.rules) in
    let ran : runs_now (known_in t) r ≡ true = subst (λ (v : TableState). runs_now (known_in v) r ≡ true) (sym same) runs in
    let row : RuleRow = record { place = None; done = true; failures = old.failures; why = old.why; started = old.started } in
    let mid : IsBy t.plan t.options t.retries t.rules files X = got t.plan t.options (states_by t.retries t.rules) (size_of t.files) (size_of files) V X known.inputs only.needs only.waits only.rest is in
    subst (λ (Q : Plan). IsBy Q t.options t.retries (slice_set t.rules r row) files U) (sym plan)
    (subst (λ (Y : Progressing). IsBy t.plan t.options t.retries (slice_set t.rules r row) files Y) (sym set)
    (finished t.plan t.options (states_by t.retries t.rules) (states_by t.retries (slice_set t.rules r row)) (size_of files) X r within (changes t.retries r t.rules row) ran
    (ap is_complete_state (state-set t.retries r t.rules row less)) mid))

sizes_at : (files : List FileState) (f g : ℕ) (state : FileState) → f < length files → with_size (size_of files) f (size_in state) g ≡ size_of (slice_set files f state) g
sizes_at files f g state inside = by_place (g == f) refl
  where
    by_place : (b : Bool) → (g == f) ≡ b → cond (g == f) (size_in state) (size_of files g) ≡ size_of (slice_set files f state) g
    by_place true is =
        ap (λ c. cond c (size_in state) (size_of files g)) is ∙ sym (ap size_in (ap (λ k. slice_index_or (slice_set files f state) k file.Absent) (eqb-true g f is) ∙ get_or-set_same files f state file.Absent inside))
    by_place false other =
        ap (λ c. cond c (size_in state) (size_of files g)) other ∙ sym (ap size_in (get_or-set_other files f g state file.Absent (eqb-false g f other)))

-- the sizes once a file has a new state
pub sizes-set : (files : List FileState) (f : ℕ) (state : FileState) → f < length files → with_size (size_of files) f (size_in state) ≡ size_of (slice_set files f state)
sizes-set files f state inside = fun_ext (λ g. sizes_at files f g state inside)

-- a file is dropped
pub dropped-progress : (t value : TableState) → t ≡ value → (P : Plan) → P ≡ t.plan → (V U : Progressing) (f : ℕ) (files : List FileState) → IsTable t → IsProgressOf (known_in t) V → f < length t.plan.files → files ≡ slice_set t.files f file.Collected
    → Knows t.plan (with_size (size_of t.files) f None) U → IsSame V U → IsBy P t.options t.retries t.rules files U
dropped-progress t value same P plan V U f files table is inside noted known only =
    let sizes : with_size (size_of t.files) f None ≡ size_of files = sizes-set t.files f file.Collected (omega (arith, inside, table.files)) ∙ ap size_of (sym noted) in
    subst (λ (Q : Plan). IsBy Q t.options t.retries t.rules files U) (sym plan)
    (got t.plan t.options (states_by t.retries t.rules) (size_of t.files) (size_of files) V U (subst (λ s. HasInputs t.plan s U.pending) sizes known.inputs) only.needs only.waits only.rest is)

complete_done : (done failed : Bool) (place : Option Place) → is_complete_state (cond done rule.Complete (unfinished_state place failed)) ≡ done
complete_done true failed place = refl
complete_done false failed None = by_test failed
  where
    by_test : (b : Bool) → is_complete_state (unfinished_state None b) ≡ false
    by_test true = refl
    by_test false = refl
complete_done false failed (Some place) = refl

read_map : (rows : List RuleRow) (r : ℕ) → slice_index_or (map waiting_row rows) r blank_row ≡ waiting_row (slice_index_or rows r blank_row)
read_map [] r = refl
read_map (x ∷ xs) zero = refl
read_map (x ∷ xs) (suc r) = read_map xs r

open_state : (retries : ℕ) (row : RuleRow) (b : Bool) → row.done ≡ b → state_of retries (waiting_row row) ≡ cond b rule.Complete rule.Waiting
open_state retries row true done = ap (λ d. cond d rule.Complete (unfinished_state None (nat_le (retries + 1) 0))) done
open_state retries row false open_is =
    ap (λ d. cond d rule.Complete (unfinished_state None (nat_le (retries + 1) 0))) open_is ∙ ap (λ c. unfinished_state None c) (lt-leb (retries + 1) 0 (omega arith))

-- a run is opened
pub opened-progress : (P : Plan) (O : Options) (before : ℕ) (old rows : List RuleRow) (files : List FileState) (V U : Progressing) (retries : ℕ) → IsBy P O before old files V → rows ≡ map waiting_row old → HasOpened V U → IsBy P O retries rows files U
opened-progress P O before old rows files V U retries is set open_is =
    subst (λ (xs : List RuleRow). IsBy P O retries xs files U) (sym set)
    (opened P O (states_by before old) (states_by retries (map waiting_row old)) (size_of files) V U
    (λ r inside done. ap (state_of retries) (read_map old r) ∙ open_state retries (row_in r) true (sym (complete_done (row_in r).done (nat_le (before + 1) (row_in r).failures) (row_in r).place) ∙ done))
    (λ r inside undone. ap (state_of retries) (read_map old r) ∙ open_state retries (row_in r) false (sym (complete_done (row_in r).done (nat_le (before + 1) (row_in r).failures) (row_in r).place) ∙ undone))
    open_is is)
  where
    row_in : ℕ → RuleRow
    row_in r = slice_index_or old r blank_row

blank_at : (n r : ℕ) → slice_index_or (replicate n blank_row) r blank_row ≡ blank_row
blank_at zero r = refl
blank_at (suc n) zero = refl
blank_at (suc n) (suc r) = blank_at n r

-- of rules of which nothing is recorded each waits
pub blank-waits : (retries n r : ℕ) (rows : List RuleRow) → rows ≡ replicate n blank_row → states_by retries rows r ≡ rule.Waiting
blank-waits retries n r rows set =
    ap (λ (xs : List RuleRow). states_by retries xs r) set ∙ ap (state_of retries) (blank_at n r) ∙ ap (λ c. unfinished_state None c) (lt-leb (retries + 1) 0 (omega arith))

-- a free file is one of the plan
pub free-inside : (t value : TableState) → t ≡ value → (f : ℕ) → is_dispensable (known_in value) f ≡ true → f < length t.plan.files
free-inside t value same f free =
    made-inside t.plan f (dispensable-parts _ _ _ _ (subst (λ (v : TableState). is_dispensable (known_in v) f ≡ true) (sym same) free)).0

-- what is kept of the files, as the table knows it
pub files-known : (P : Plan) (O : Options) (states : ℕ → RuleState) (sizes : ℕ → Option ℕ) (V : Progressing) → IsProgress P O states sizes V → Knows P sizes V
files-known P O states sizes V is = record { takers = is.takers; inputs = is.inputs; rules = is.rules.rules }

later_by : (a b : ℕ) (c : Bool) → nat_le a b ≡ c → nat_le (a + 1) (b + 1) ≡ c
later_by a b true is = le-leb (a + 1) (b + 1) (let low : a ≤ b = leb-true a b is in omega (arith, low))
later_by a b false is = lt-leb (a + 1) (b + 1) (let over : b < a = leb-false a b is in omega (arith, over))

-- whether a rule has failed once one more failure counts
pub fails-now : (t value : TableState) → t ≡ value → (r retries : ℕ) (row old : RuleRow) → IsTable t → r < length value.plan.rules → row ≡ row_at value r → old ≡ get_or t.rules r old → retries ≡ t.retries
    → nat_le retries row.failures ≡ nat_le (t.retries + 1) (old.failures + 1)
fails-now t value same r retries row old table inside read here is =
    let less : r < length t.rules = (let within : r < length t.plan.rules = subst (λ (v : TableState). r < length v.plan.rules) (sym same) inside in omega (arith, within, table.rules)) in
    let rows : row ≡ old = subst (λ (v : TableState). row ≡ row_at v r) (sym same) read ∙ same_row t.rules r old here less in
    ap (λ n. nat_le n row.failures) is ∙ ap (λ (w : RuleRow). nat_le t.retries w.failures) rows ∙ sym (later_by t.retries old.failures (nat_le t.retries old.failures) refl)

-- whether it has failed as it stands
pub fails-still : (t value : TableState) → t ≡ value → (r retries : ℕ) (row old : RuleRow) → IsTable t → r < length value.plan.rules → row ≡ row_at value r → old ≡ get_or t.rules r old → retries ≡ t.retries
    → nat_lt retries row.failures ≡ nat_le (t.retries + 1) old.failures
fails-still t value same r retries row old table inside read here is =
    let less : r < length t.rules = (let within : r < length t.plan.rules = subst (λ (v : TableState). r < length v.plan.rules) (sym same) inside in omega (arith, within, table.rules)) in
    let rows : row ≡ old = subst (λ (v : TableState). row ≡ row_at v r) (sym same) read ∙ same_row t.rules r old here less in
    let next : suc retries ≡ t.retries + 1 = omega (arith, is) in
    ap (λ n. nat_le n row.failures) next ∙ ap (λ (w : RuleRow). nat_le (t.retries + 1) w.failures) rows

absent_at : (n f : ℕ) → size_of (replicate n file.Absent) f ≡ None
absent_at zero f = refl
absent_at (suc n) zero = refl
absent_at (suc n) (suc f) = absent_at n f

-- no file is there, so none is large
pub absent-small : (n f : ℕ) (files : List FileState) → files ≡ replicate n file.Absent → bytes_by (size_of files) f ≤ most_bytes
absent-small n f files none =
    let gone : bytes_by (size_of files) f ≡ 0 = ap (λ (xs : List FileState). bytes_by (size_of xs) f) none ∙ ap (λ (o : Option ℕ). option_map_or (λ n. n) o 0) (absent_at n f) in
    omega (arith, gone)

-- the rules that run, and those that have failed, are rules of the plan
pub listed-rules : (P : Plan) (O : Options) (states : ℕ → RuleState) (sizes : ℕ → Option ℕ) (V : Progressing) → IsProgress P O states sizes V
    → ((r : ℕ) → contains_number r V.running.numbers ≡ true → r < length V.pending.waits) × ((r : ℕ) → contains_number r V.failed.numbers ≡ true → r < length V.pending.waits)
listed-rules P O states sizes V is = (
  λ r stands. passing-inside P (λ q. is_running_state (states q)) r (length V.pending.waits) is.rules.rules (subst (λ (l : Line). contains_number r l.numbers ≡ true) is.running stands),
  λ r stands. passing-inside P (λ q. is_failed_state (states q)) r (length V.pending.waits) is.rules.rules (subst (λ (l : Line). contains_number r l.numbers ≡ true) is.failed stands),
)
