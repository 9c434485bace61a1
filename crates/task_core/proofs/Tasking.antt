-- Which rules run on which link is kept by each step of a table.
use Rattle.std.proofs.Common.{◌≡◌, ℕ, zero, suc, ◌+◌, ◌<◌, ◌≤◌, ◌∙◌, Bool, true, false, cond, ◌&&◌, ◌||◌, Option, Some, None, List, [], ◌∷◌, length, map, get_or, replicate, refl, ap, sym, subst, arith}
use Rattle.std.specs.Prelude.{◌==◌, filter, is_some, nat_le, nat_lt, slice_index_or, slice_set}
use Rattle.std.specs.List.{list_all, range_with_len}
use Rattle.std.specs.Option.{option_map_or}
use Rattle.std.proofs.lemmas.Bool.{and_parts, eq-eqb, eqb-true, eqb-false, true≢false}
use Rattle.std.proofs.lemmas.List.{get_or-set_other, get_or-set_same}
use Rattle.flow_types.specs.declared.plan.Plan.{Plan}
use Rattle.flow_types.specs.declared.numbers.AttemptNo.{AttemptNo}
use Rattle.flow_types.specs.declared.numbers.LinkNo.{LinkNo}
use Rattle.flow_types.specs.Plans.{contains_number, takes}
use Rattle.run_history.specs.declared.states.RuleState.TheVariants as rule
use Rattle.run_history.specs.States.{Place, unfinished_state}
use Rattle.run_history.specs.Storage.{is_running_state, is_waiting_state}
use Rattle.ready_rules.specs.Lines.{placed, without}
use Rattle.ready_rules.proofs.Filtering.{filter-few, filter-none, filter-placed, filter-same, filter-without}
use Rattle.running_rules.specs.Tasks.{Tasks, tasks_on}
use Rattle.rule_progress.specs.Progress.{passing}
use Rattle.rule_progress.proofs.Stepping.{only-waiting}
use Rattle.task_core.specs.declared.rows.RuleRow.{RuleRow}
use Rattle.task_core.specs.Accounts.{AreTasksOf, HasLetGo, HasTask, IsTasksOf, runs_there}
use Rattle.task_core.specs.Known.{can_start, is_there, runs_now}
use Rattle.task_core.specs.Stands.{waiting_row}
use Rattle.task_core.specs.States.{IsTable, TableState, blank_row, known_in, row_at, state_of}
use Rattle.task_core.proofs.Accounting.{waiting-open}
use Rattle.task_core.proofs.Blank.{blank_idle}
use Rattle.task_core.proofs.Keeping.{no_run, same_row}
use Rattle.task_core.proofs.Opening.{idle_row}
use Rattle.task_core.proofs.Progressing.{states_by}

-- the places of rules with these rows
abbrev seats_by : List RuleRow → ℕ → Option Place
seats_by rows r = (slice_index_or rows r blank_row).place

-- the rules that run on each link are as these rows say
abbrev pub AreBy : Plan → ℕ → List RuleRow → Tasks → Type 0
AreBy P retries rows T = AreTasksOf P (states_by retries rows) (seats_by rows) T

-- whether a rule with this row runs, and whether it does so on link k
abbrev row_runs : ℕ → RuleRow → Bool
row_runs retries row = is_running_state (state_of retries row)

abbrev row_on : ℕ → ℕ → RuleRow → Bool
row_on retries k row = row_runs retries row && option_map_or (λ place. place.1.0 == k) row.place false

-- what a test says of the rows when one is written
test_other : (t : RuleRow → Bool) (rows : List RuleRow) (row : RuleRow) (r q : ℕ) → (q ≡ r → ⊥) → t (slice_index_or rows q blank_row) ≡ t (slice_index_or (slice_set rows r row) q blank_row)
test_other t rows row r q apart = ap t (sym (get_or-set_other rows r q row blank_row apart))

test_same : (t : RuleRow → Bool) (rows : List RuleRow) (row : RuleRow) (r : ℕ) → r < length rows → t (slice_index_or (slice_set rows r row) r blank_row) ≡ t row
test_same t rows row r inside = ap t (get_or-set_same rows r row blank_row inside)

-- the rules that pass when one row is written
more : (t : RuleRow → Bool) (n : ℕ) (rows : List RuleRow) (row : RuleRow) (r : ℕ) → r < n → r < length rows → t (slice_index_or rows r blank_row) ≡ false → t row ≡ true
    → placed r (filter (λ q. t (slice_index_or rows q blank_row)) (range_with_len 0 n)) ≡ filter (λ q. t (slice_index_or (slice_set rows r row) q blank_row)) (range_with_len 0 n)
more t n rows row r inside less fails passes =
    filter-placed (λ q. t (slice_index_or rows q blank_row)) (λ q. t (slice_index_or (slice_set rows r row) q blank_row)) r 0 n fails (test_same t rows row r less ∙ passes) (test_other t rows row r) (omega arith) (omega (arith, inside))

fewer : (t : RuleRow → Bool) (n : ℕ) (rows : List RuleRow) (row : RuleRow) (r : ℕ) → r < n → r < length rows → t (slice_index_or rows r blank_row) ≡ true → t row ≡ false
    → without r (filter (λ q. t (slice_index_or rows q blank_row)) (range_with_len 0 n)) ≡ filter (λ q. t (slice_index_or (slice_set rows r row) q blank_row)) (range_with_len 0 n)
fewer t n rows row r inside less passes fails =
    filter-without (λ q. t (slice_index_or rows q blank_row)) (λ q. t (slice_index_or (slice_set rows r row) q blank_row)) r 0 n passes (test_same t rows row r less ∙ fails) (test_other t rows row r) (omega arith) (omega (arith, inside))

-- the same turned round
back : (t : RuleRow → Bool) (n : ℕ) (rows : List RuleRow) (row : RuleRow) (r : ℕ) → r < n → r < length rows → t (slice_index_or rows r blank_row) ≡ true → t row ≡ false
    → placed r (filter (λ q. t (slice_index_or (slice_set rows r row) q blank_row)) (range_with_len 0 n)) ≡ filter (λ q. t (slice_index_or rows q blank_row)) (range_with_len 0 n)
back t n rows row r inside less passes fails =
    filter-placed (λ q. t (slice_index_or (slice_set rows r row) q blank_row)) (λ q. t (slice_index_or rows q blank_row)) r 0 n (test_same t rows row r less ∙ fails) passes (λ q apart. sym (test_other t rows row r q apart)) (omega arith) (omega (arith, inside))

alike : (t : RuleRow → Bool) (n : ℕ) (rows : List RuleRow) (row : RuleRow) (r : ℕ) → r < length rows → t (slice_index_or rows r blank_row) ≡ t row
    → filter (λ q. t (slice_index_or rows q blank_row)) (range_with_len 0 n) ≡ filter (λ q. t (slice_index_or (slice_set rows r row) q blank_row)) (range_with_len 0 n)
alike t n rows row r less here = filter-same (λ q. t (slice_index_or rows q blank_row)) (λ q. t (slice_index_or (slice_set rows r row) q blank_row)) 0 n (λ q low high. by_place q (q == r) refl)
  where
    by_place : (q : ℕ) (b : Bool) → (q == r) ≡ b → t (slice_index_or rows q blank_row) ≡ t (slice_index_or (slice_set rows r row) q blank_row)
    by_place q true same =
        let is : q ≡ r = eqb-true q r same in
        ap (λ n. t (slice_index_or rows n blank_row)) is ∙ here ∙ sym (test_same t rows row r less) ∙ ap (λ n. t (slice_index_or (slice_set rows r row) n blank_row)) (sym is)
    by_place q false other = test_other t rows row r q (eqb-false q r other)

length_placed : (r : ℕ) (xs : List ℕ) → length (placed r xs) ≡ length xs + 1
length_placed r [] = refl
length_placed r (x ∷ xs) = by_test (nat_lt x r) refl (length_placed r xs)
  where
    by_test : (b : Bool) → nat_lt x r ≡ b → length (placed r xs) ≡ length xs + 1 → length (placed r (x ∷ xs)) ≡ suc (length xs) + 1
    by_test true is rest = ap (λ c. length (cond c (x ∷ placed r xs) (r ∷ (x ∷ xs)))) is ∙ ap suc rest ∙ (let same : suc (length xs + 1) ≡ suc (length xs) + 1 = omega arith in same)
    by_test false is rest = ap (λ c. length (cond c (x ∷ placed r xs) (r ∷ (x ∷ xs)))) is ∙ (let same : suc (suc (length xs)) ≡ suc (length xs) + 1 = omega arith in same)

on_is : (retries k : ℕ) (row : RuleRow) (b : Bool) (seat : Option Place) → row_runs retries row ≡ b → row.place ≡ seat → row_on retries k row ≡ (b && option_map_or (λ place. place.1.0 == k) seat false)
on_is retries k row b seat runs here = ap (λ c. c && option_map_or (λ place. place.1.0 == k) row.place false) runs ∙ ap (λ (p : Option Place). b && option_map_or (λ place. place.1.0 == k) p false) here

-- a rule starts on a link
started_by : (P : Plan) (retries r : ℕ) (rows : List RuleRow) (row : RuleRow) (attempt : AttemptNo) (link : LinkNo) (T U : Tasks) → r < length P.rules → r < length rows
    → row_runs retries (slice_index_or rows r blank_row) ≡ false → row_runs retries row ≡ true → row.place ≡ Some (attempt, link) → AreBy P retries rows T → length U.rules ≡ length T.rules + 1 → U.places ≡ T.places
    → ((k : ℕ) → tasks_on U k ≡ cond (link.0 == k) (placed r (tasks_on T k)) (tasks_on T k)) → AreBy P retries (slice_set rows r row) U
started_by P retries r rows row attempt link T U inside less idle runs here are count room tasks = record {
  tasks = λ k. tasks k ∙ by_link k (link.0 == k) refl;
  count = count ∙ ap (λ n. n + 1) are.count ∙ sym (length_placed r (passing P (λ q. row_runs retries (slice_index_or rows q blank_row))))
      ∙ ap (λ (xs : List ℕ). length xs) (more (row_runs retries) (length P.rules) rows row r inside less idle runs);
  room = room ∙ are.room;
}
  where
    old : RuleRow
    old = slice_index_or rows r blank_row

    by_link : (k : ℕ) (b : Bool) → (link.0 == k) ≡ b → cond (link.0 == k) (placed r (tasks_on T k)) (tasks_on T k) ≡ passing P (runs_there (states_by retries (slice_set rows r row)) (seats_by (slice_set rows r row)) k)
    by_link k true same =
        ap (λ c. cond c (placed r (tasks_on T k)) (tasks_on T k)) same ∙ ap (placed r) (are.tasks k)
        ∙ more (row_on retries k) (length P.rules) rows row r inside less (on_is retries k old false old.place idle refl) (on_is retries k row true (Some (attempt, link)) runs here ∙ same)
    by_link k false other =
        ap (λ c. cond c (placed r (tasks_on T k)) (tasks_on T k)) other ∙ are.tasks k
        ∙ alike (row_on retries k) (length P.rules) rows row r less (on_is retries k old false old.place idle refl ∙ sym (on_is retries k row true (Some (attempt, link)) runs here ∙ other))

-- a rule that ran on a link runs no more
closed_by : (P : Plan) (retries r : ℕ) (rows : List RuleRow) (row : RuleRow) (place : Place) (T U : Tasks) → r < length P.rules → r < length rows
    → row_runs retries (slice_index_or rows r blank_row) ≡ true → (slice_index_or rows r blank_row).place ≡ Some place → row_runs retries row ≡ false → AreBy P retries rows T → HasLetGo T (Some place) r U
    → AreBy P retries (slice_set rows r row) U
closed_by P retries r rows row place T U inside less ran here idle are gone = record {
  tasks = λ k. gone.tasks k ∙ by_link k (place.1.0 == k) refl;
  count =
      let all : length T.rules ≡ length (passing P (λ q. row_runs retries (slice_index_or rows q blank_row))) = are.count in
      let one : length (passing P (λ q. row_runs retries (slice_index_or (slice_set rows r row) q blank_row))) + 1 ≡ length (passing P (λ q. row_runs retries (slice_index_or rows q blank_row))) =
      sym (length_placed r (passing P (λ q. row_runs retries (slice_index_or (slice_set rows r row) q blank_row)))) ∙ ap (λ (xs : List ℕ). length xs) (back (row_runs retries) (length P.rules) rows row r inside less ran idle) in
      omega (arith, gone.count, all, one);
  room = gone.room ∙ are.room;
}
  where
    old : RuleRow
    old = slice_index_or rows r blank_row

    by_link : (k : ℕ) (b : Bool) → (place.1.0 == k) ≡ b → cond (place.1.0 == k) (without r (tasks_on T k)) (tasks_on T k) ≡ passing P (runs_there (states_by retries (slice_set rows r row)) (seats_by (slice_set rows r row)) k)
    by_link k true same =
        ap (λ c. cond c (without r (tasks_on T k)) (tasks_on T k)) same ∙ ap (without r) (are.tasks k)
        ∙ fewer (row_on retries k) (length P.rules) rows row r inside less (on_is retries k old true (Some place) ran here ∙ same) (on_is retries k row false row.place idle refl)
    by_link k false other =
        ap (λ c. cond c (without r (tasks_on T k)) (tasks_on T k)) other ∙ are.tasks k
        ∙ alike (row_on retries k) (length P.rules) rows row r less (on_is retries k old true (Some place) ran here ∙ other ∙ sym (on_is retries k row false row.place idle refl))

placed_runs : (done failed : Bool) (place : Place) → done ≡ false → is_running_state (cond done rule.Complete (unfinished_state (Some place) failed)) ≡ true
placed_runs true failed place fresh = absurd (true≢false fresh)
placed_runs false failed place fresh = refl

some_place : (done failed : Bool) (place : Option Place) → is_running_state (cond done rule.Complete (unfinished_state place failed)) ≡ true → (p : Place) × (place ≡ Some p)
some_place true failed place runs = absurd (true≢false (sym runs))
some_place false failed (Some p) runs = (p, refl)
some_place false true None runs = absurd (true≢false (sym runs))
some_place false false None runs = absurd (true≢false (sym runs))

-- a rule that runs has a place
seat_of : (retries : ℕ) (row : RuleRow) → row_runs retries row ≡ true → (p : Place) × (row.place ≡ Some p)
seat_of retries row runs = some_place row.done (nat_le (retries + 1) row.failures) row.place runs

-- there is room for one rule more that runs
pub tasks-room : (t value : TableState) → t ≡ value → (T : Tasks) (r : ℕ) → IsTasksOf (known_in t) T → r < length value.plan.rules → can_start (known_in value) r ≡ true → length T.rules < T.places
tasks-room t value same T r are inside starts =
    let within : r < length t.plan.rules = subst (λ (v : TableState). r < length v.plan.rules) (sym same) inside in
    let ready : can_start (known_in t) r ≡ true = subst (λ (v : TableState). can_start (known_in v) r ≡ true) (sym same) starts in
    let waits : is_waiting_state ((known_in t).rules r) ≡ true = (and_parts (is_waiting_state ((known_in t).rules r)) (list_all (is_there (known_in t)) (takes t.plan r)) ready).0 in
    let few : length (passing t.plan (runs_now (known_in t))) < length t.plan.rules = filter-few (runs_now (known_in t)) r 0 (length t.plan.rules) (only-waiting ((known_in t).rules r) waits).0 (omega arith) (omega (arith, within)) in
    omega (arith, few, are.count, are.room)

-- an attempt starts
pub started-tasks : (t value : TableState) → t ≡ value → (T U : Tasks) (r : ℕ) (attempt : AttemptNo) (link : LinkNo) (old : RuleRow) → IsTable t → IsTasksOf (known_in t) T → r < length value.plan.rules → can_start (known_in value) r ≡ true
    → old ≡ get_or t.rules r old → length U.rules ≡ length T.rules + 1 → U.places ≡ T.places → ((k : ℕ) → tasks_on U k ≡ cond (link.0 == k) (placed r (tasks_on T k)) (tasks_on T k))
    → AreBy t.plan t.retries (slice_set t.rules r (record { place = Some (attempt, link); done = old.done; failures = old.failures; why = old.why; started = true })) U
started-tasks t value same T U r attempt link old table are inside starts here count room tasks =
    let within : r < length t.plan.rules = subst (λ (v : TableState). r < length v.plan.rules) (sym same) inside in
    let less : r < length t.rules = omega (arith, within, table.rules) in
    let ready : can_start (known_in t) r ≡ true = subst (λ (v : TableState). can_start (known_in v) r ≡ true) (sym same) starts in
    let waits : is_waiting_state ((known_in t).rules r) ≡ true = (and_parts (is_waiting_state ((known_in t).rules r)) (list_all (is_there (known_in t)) (takes t.plan r)) ready).0 in
    let fresh : old.done ≡ false = sym (ap (λ (w : RuleRow). w.done) (same_row t.rules r old here less)) ∙ waiting-open t.retries (row_at t r) waits in
    started_by t.plan t.retries r t.rules (record { place = Some (attempt, link); done = old.done; failures = old.failures; why = old.why; started = true }) attempt link T U within less
    (only-waiting ((known_in t).rules r) waits).0 (placed_runs old.done (nat_le (t.retries + 1) old.failures) (attempt, link) fresh) refl are count room tasks

holds_by : (p : ℕ → Bool) (r a n : ℕ) → p r ≡ true → (b : Bool) → (a == r) ≡ b → ((a == r) ≡ false → contains_number r (filter p (range_with_len (a + 1) n)) ≡ true) → (c : Bool) → p a ≡ c
    → contains_number r (cond (p a) (a ∷ filter p (range_with_len (a + 1) n)) (filter p (range_with_len (a + 1) n))) ≡ true
holds_by p r a n passes true here rest true is =
    ap (λ c. contains_number r (cond c (a ∷ filter p (range_with_len (a + 1) n)) (filter p (range_with_len (a + 1) n)))) is ∙ ap (λ c. c || contains_number r (filter p (range_with_len (a + 1) n))) here
holds_by p r a n passes true here rest false is = absurd (true≢false (sym passes ∙ ap p (sym (eqb-true a r here)) ∙ is))
holds_by p r a n passes false here rest true is =
    ap (λ c. contains_number r (cond c (a ∷ filter p (range_with_len (a + 1) n)) (filter p (range_with_len (a + 1) n)))) is ∙ ap (λ c. c || contains_number r (filter p (range_with_len (a + 1) n))) here ∙ rest here
holds_by p r a n passes false here rest false is =
    ap (λ c. contains_number r (cond c (a ∷ filter p (range_with_len (a + 1) n)) (filter p (range_with_len (a + 1) n)))) is ∙ rest here

-- a number that passes is among those that do
holds : (p : ℕ → Bool) (r a n : ℕ) → p r ≡ true → a ≤ r → r < a + n → contains_number r (filter p (range_with_len a n)) ≡ true
holds p r a zero passes from to = absurd (let wrong : ⊥ = omega (arith, from, to) in wrong)
holds p r a (suc n) passes from to =
    holds_by p r a n passes (a == r) refl (λ other. let apart : a ≡ r → ⊥ = eqb-false a r other in holds p r (a + 1) n passes (omega (arith, from, apart)) (omega (arith, to))) (p a) refl

-- what runs stands among the rules of its link
pub closing-has : (t value : TableState) → t ≡ value → (T : Tasks) (r : ℕ) (place : Option Place) → IsTasksOf (known_in t) T → r < length value.plan.rules → runs_now (known_in value) r ≡ true → place ≡ (row_at value r).place → HasTask T place r
closing-has t value same T r place are inside runs read =
    let within : r < length t.plan.rules = subst (λ (v : TableState). r < length v.plan.rules) (sym same) inside in
    let ran : runs_now (known_in t) r ≡ true = subst (λ (v : TableState). runs_now (known_in v) r ≡ true) (sym same) runs in
    let seat = seat_of t.retries (row_at t r) ran in
    let here : place ≡ Some seat.0 = subst (λ (v : TableState). place ≡ (row_at v r).place) (sym same) read ∙ seat.1 in
    let k : ℕ = seat.0.1.0 in
    let on : runs_there (known_in t).rules (known_in t).places k r ≡ true = on_is t.retries k (row_at t r) true (Some seat.0) ran seat.1 ∙ eq-eqb k k refl in
    ap (λ (p : Option Place). option_map_or (λ q. contains_number r (tasks_on T q.1.0)) p true) here
    ∙ ap (contains_number r) (are.tasks k) ∙ holds (runs_there (known_in t).rules (known_in t).places k) r 0 (length t.plan.rules) on (omega arith) (omega (arith, within))

-- an attempt is closed
pub closed-tasks : (t value : TableState) → t ≡ value → (P : Plan) → P ≡ t.plan → (T U : Tasks) (r : ℕ) (row : RuleRow) (place : Option Place) → IsTable t → IsTasksOf (known_in t) T → r < length value.plan.rules → runs_now (known_in value) r ≡ true
    → place ≡ (row_at value r).place → row.place ≡ None → HasLetGo T place r U → AreBy P t.retries (slice_set t.rules r row) U
closed-tasks t value same P plan T U r row place table are inside runs read none gone =
    let within : r < length t.plan.rules = subst (λ (v : TableState). r < length v.plan.rules) (sym same) inside in
    let ran : runs_now (known_in t) r ≡ true = subst (λ (v : TableState). runs_now (known_in v) r ≡ true) (sym same) runs in
    let seat = seat_of t.retries (row_at t r) ran in
    let here : place ≡ Some seat.0 = subst (λ (v : TableState). place ≡ (row_at v r).place) (sym same) read ∙ seat.1 in
    subst (λ (Q : Plan). AreBy Q t.retries (slice_set t.rules r row) U) (sym plan)
    (closed_by t.plan t.retries r t.rules row seat.0 T U within (omega (arith, within, table.rules)) ran seat.1 (no_run t.retries row none) are (subst (λ (p : Option Place). HasLetGo T p r U) here gone))

-- where no rule runs, none runs on a link
none_runs : (P : Plan) (retries : ℕ) (rows : List RuleRow) (U : Tasks) → ((r : ℕ) → row_runs retries (slice_index_or rows r blank_row) ≡ false) → U.links ≡ [] → U.rules ≡ [] → U.places ≡ length P.rules → AreBy P retries rows U
none_runs P retries rows U idle links rules room = record {
  tasks = λ k. ap (λ (V : Tasks). tasks_on V k) (emptied U links rules)
      ∙ sym (filter-none (λ r. row_on retries k (slice_index_or rows r blank_row)) 0 (length P.rules) (λ r. on_is retries k (slice_index_or rows r blank_row) false (slice_index_or rows r blank_row).place (idle r) refl));
  count = ap (λ xs. length xs) rules ∙ sym (ap (λ (xs : List ℕ). length xs) (filter-none (λ r. row_runs retries (slice_index_or rows r blank_row)) 0 (length P.rules) idle));
  room = room;
}
  where
    emptied : (V : Tasks) → V.links ≡ [] → V.rules ≡ [] → V ≡ record { links = []; rules = []; places = V.places }
    emptied V no_links no_rules = ap (λ xs. record { links = xs; rules = V.rules; places = V.places }) no_links ∙ ap (λ xs. record { links = []; rules = xs; places = V.places }) no_rules

-- a run is opened
pub opened-tasks : (P : Plan) (before retries : ℕ) (old rows : List RuleRow) (T U : Tasks) → AreBy P before old T → rows ≡ map waiting_row old → U ≡ record T { links = []; rules = [] } → AreBy P retries rows U
opened-tasks P before retries old rows T U are set cleared =
    none_runs P retries rows U (λ r. ap (λ (xs : List RuleRow). row_runs retries (slice_index_or xs r blank_row)) set ∙ idle_row old retries r)
    (ap (λ (V : Tasks). V.links) cleared) (ap (λ (V : Tasks). V.rules) cleared) (ap (λ (V : Tasks). V.places) cleared ∙ are.room)

-- nothing is recorded of any rule
pub blank-tasks : (P : Plan) (retries n : ℕ) (rows : List RuleRow) (U : Tasks) → rows ≡ replicate n blank_row → U.links ≡ [] → U.rules ≡ [] → U.places ≡ length P.rules → AreBy P retries rows U
blank-tasks P retries n rows U set links rules room =
    none_runs P retries rows U (λ r. ap (λ (xs : List RuleRow). row_runs retries (slice_index_or xs r blank_row)) set ∙ blank_idle n retries r) links rules room
