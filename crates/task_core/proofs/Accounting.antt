-- What holds of a table with its counts and its account holds after each step.
use Rattle.std.proofs.Common.{◌≡◌, ◌≤◌, ◌<◌, ◌+◌, ◌-◌, ◌*◌, ℕ, Bool, true, false, cond, not, ◌&&◌, List, [], Result, Ok, Err, length, get_or, replicate, Option, Some, None, refl, ap, sym, subst, ◌∙◌, true≢false, arith}
use mathlib.Core.Path.{fun_ext}
use Rattle.std.specs.Result.{OnErr, OnOk, is_ok}
use Rattle.std.specs.Prelude.{find, is_some, map, nat_le, slice_get, slice_set}
use Rattle.std.specs.List.{list_all}
use Rattle.std.proofs.lemmas.Bool.{and_parts}
use Rattle.flow_types.specs.declared.plan.Plan.{Plan}
use Rattle.flow_types.specs.declared.numbers.Content.{Content}
use Rattle.flow_types.specs.declared.numbers.FileNo.{FileNo}
use Rattle.flow_types.specs.Plans.{IsValid, file_numbers, is_kept, is_source, maker_of, makes, most_bytes, most_files, most_rules, numbers, sources_of, takers_of, takes}
use Rattle.file_states.specs.States.{first_states}
use Rattle.run_history.specs.declared.options.Options.{Options}
use Rattle.run_history.specs.declared.states.RuleState.{RuleState}
use Rattle.run_history.specs.declared.states.RuleState.TheVariants as rule
use Rattle.run_history.specs.declared.states.FileState.{FileState}
use Rattle.run_history.specs.declared.states.FileState.TheVariants as file
use Rattle.run_history.specs.States.{Place, present_with, row_of, unfinished_state}
use Rattle.run_history.specs.Storage.{is_complete_state, is_running_state, is_waiting_state, is_within, rule_bound}
use Rattle.gc_refcount.specs.Counting.{Counting, is_free, is_made, is_present, least_free, nothing_made, number_in, with_rule, without_file}
use Rattle.storage_limit.specs.Holdings.{Holdings, has_room, with_need, without_need, without_size}
use Rattle.task_core.specs.declared.rows.RuleRow.{RuleRow}
use Rattle.task_core.specs.declared.rows.LinkEntry.{LinkEntry}
use Rattle.task_core.specs.Accounts.{AreMirrored, IsKept, bytes_in, holdings_of, state_in, stored_in}
use Rattle.task_core.specs.Allowed.{are_small, has_two_places}
use Rattle.task_core.specs.Collections.{file_number}
use Rattle.task_core.specs.Known.{Known, can_start, first_free, has_storage, is_dispensable, is_done, is_there, known_bytes, leaves_places, reserved_sum, running, runs_now, stored_sum}
use Rattle.task_core.specs.Parts.{blank_table}
use Rattle.task_core.specs.States.{IsTable, TableState, blank_row, known_in, row_at, state_of}
use Rattle.task_core.specs.Stands.{after_drop, after_first, after_opening, made_or, waiting_row, with_row}
use Rattle.task_core.proofs.Blank.{blank_idle, keeps-blank, length_same, same_at}
use Rattle.task_core.proofs.Ending.{dispensable-parts, made-inside}
use Rattle.task_core.proofs.Keeping.{keeps-closed, keeps-dropped, keeps-started, no_run, same_row}
use Rattle.task_core.proofs.Mirroring.{mirrors-done, mirrors-dropped, mirrors-first, mirrors-opened, mirrors-row}
use Rattle.task_core.proofs.Opening.{first-length, first-small, first_at, idle_row, keeps-opened, none_passes, source_maker}
use Rattle.task_core.proofs.Storing.{held, holdings-are, reserved-holds, reserved-less, reserved-more, reserved-most, reserved-none, stored-changed, stored-holds, stored-most, stored-none}

-- a blank table
blank_kept : (P : Plan) (O : Options) (n runs starts : ℕ) → IsValid P → n < 9223372036854775808 → runs ≤ n → starts ≤ n
    → IsKept (blank_table P O n runs starts) (nothing_made P) (record { limit = None; stored = 0; reserved = 0 })
blank_kept P O n runs starts valid few ran started =
    let t : TableState = blank_table P O n runs starts in
    let absent : (f : ℕ) → is_some (maker_of P f) ≡ true → state_in t.files f ≡ file.Absent = λ f made. same_at (length P.files) f file.Absent in
    let empty : Holdings = record { limit = None; stored = 0; reserved = 0 } in (
      keeps-blank P O n runs starts valid few ran started,
      mirrors-first P (length P.rules) t.files absent,
      holdings-are empty (known_in t) refl (sym (stored-none P t.files absent)) (sym (reserved-none t (blank_idle (length P.rules) 0))),
    )

not_source : (b : Bool) (P : Plan) (f : ℕ) → is_source P f ≡ b → is_some (maker_of P f) ≡ true → b ≡ false
not_source true P f is made = absurd (true≢false (sym made ∙ ap is_some (source_maker P f (slice_get P.files f) refl is)))
not_source false P f is made = refl

-- at a first opening no made file is present
pub first-absent : (P : Plan) (sources : List Content) (f : ℕ) → is_some (maker_of P f) ≡ true → state_in (first_states P sources) f ≡ file.Absent
first-absent P sources f made =
    first_at P sources f _ refl ∙ ap (λ b. cond b (present_with (row_of f (sources_of P) sources)) file.Absent) (not_source (is_source P f) P f refl made)

-- before anything is made
first_kept : (t : TableState) (C : Counting) (A : Holdings) (sources : List Content) → IsKept t C A → are_small sources ≡ true
    → IsKept (after_first t sources) (nothing_made t.plan) (record { limit = t.limit; stored = 0; reserved = 0 })
first_kept t C A sources is small =
    let after : TableState = after_first t sources in
    let idle : (r : ℕ) → runs_now (known_in after) r ≡ false = blank_idle (length t.rules) t.retries in
    let none : length (running (known_in after)) ≡ 0 = ap (λ (xs : List ℕ). length xs) (none_passes (runs_now (known_in after)) (numbers (length t.plan.rules)) idle) in
    let empty : Holdings = record { limit = t.limit; stored = 0; reserved = 0 } in (
      record {
        valid = is.0.valid;
        rules = length_same (length t.rules) blank_row ∙ is.0.rules;
        files = first-length t.plan sources;
        small = λ f. first-small t.plan sources f small;
        places = omega (arith, none, is.0.places);
        runs = is.0.runs;
        starts = is.0.starts;
        failures = λ r. subst (λ (row : RuleRow). row.failures ≤ t.records) (sym (same_at (length t.rules) r blank_row)) (omega arith);
        joins = is.0.joins;
      },
      mirrors-first t.plan (length t.rules) (first_states t.plan sources) (first-absent t.plan sources),
      holdings-are empty (known_in after) refl (sym (stored-none t.plan (first_states t.plan sources) (first-absent t.plan sources))) (sym (reserved-none after idle)),
    )

done_state : (done failed : Bool) (place : Option Place) → is_waiting_state (cond done rule.Complete (unfinished_state place failed)) ≡ true → done ≡ false
done_state true failed place waits = absurd (true≢false (sym waits))
done_state false failed place waits = refl

-- a rule that waits isn't done
pub waiting-open : (retries : ℕ) (row : RuleRow) → is_waiting_state (state_of retries row) ≡ true → row.done ≡ false
waiting-open retries row waits = done_state row.done (nat_le (retries + 1) row.failures) row.place waits

waits_idle : (state : RuleState) → is_waiting_state state ≡ true → is_running_state state ≡ false
waits_idle rule.Waiting waits = refl
waits_idle (rule.Running attempt) waits = absurd (true≢false (sym waits))
waits_idle rule.Complete waits = refl
waits_idle rule.Failed waits = refl

placed_runs : (done failed : Bool) (place : Place) → done ≡ false → is_running_state (cond done rule.Complete (unfinished_state (Some place) failed)) ≡ true
placed_runs true failed place open_rule = absurd (true≢false open_rule)
placed_runs false failed place open_rule = refl

-- a table whose account says what is stored and reserved
kept_with : (t : TableState) (C : Counting) (A : Holdings) → IsTable t → AreMirrored C t.plan t.rules t.files → A.limit ≡ t.limit → A.stored ≡ stored_sum (known_in t) → A.reserved ≡ reserved_sum (known_in t)
    → IsKept (record t { limit = A.limit }) C A
kept_with t C A table mirrored limit stored reserved =
    (subst (λ l. IsTable (record t { limit = l })) (sym limit) table, mirrored, holdings-are A (known_in (record t { limit = A.limit })) refl stored reserved)

abbrev row_with : Option Place → RuleRow → RuleRow
row_with place old = record { place = place; done = old.done; failures = old.failures; why = old.why; started = true }

started_kept : (t : TableState) (C : Counting) (A B : Holdings) (r need : ℕ) (place : Place) (old : RuleRow) → IsKept t C A → r < length t.plan.rules → can_start (known_in t) r ≡ true → t.ended ≡ false
    → leaves_places (known_in t) 2 ≡ true → old ≡ get_or t.rules r old → need ≡ rule_bound t.plan r → B ≡ with_need A need
    → IsKept (record (with_row t r (row_with (Some place) old)) { starts = t.starts + 1; limit = B.limit }) C B
started_kept t C A B r need place old is inside starts going places here bound set =
    let row : RuleRow = row_with (Some place) old in
    let within : r < length t.rules = subst (λ n. r < n) (sym is.0.rules) inside in
    let same : row_at t r ≡ old = same_row t.rules r old here within in
    let waits : is_waiting_state (state_of t.retries (row_at t r)) ≡ true = (and_parts (is_waiting_state ((known_in t).rules r)) (list_all (is_there (known_in t)) (takes t.plan r)) starts).0 in
    let fresh : old.done ≡ false = sym (ap (λ (w : RuleRow). w.done) same) ∙ waiting-open t.retries (row_at t r) waits in
    let more = reserved-more t r row inside within (waits_idle ((known_in t).rules r) waits) (placed_runs old.done (nat_le (t.retries + 1) old.failures) place fresh) in
    let before : A.reserved ≡ reserved_sum (known_in t) = ap (λ (H : Holdings). H.reserved) is.2 in
    let now : B.reserved ≡ A.reserved + need = ap (λ (H : Holdings). H.reserved) set in
    kept_with (record (with_row t r row) { starts = t.starts + 1 }) C B (keeps-started t r row old is.0 inside going places here refl)
    (mirrors-row C t.plan t.rules t.files r row is.1 within (ap (λ (w : RuleRow). w.done) (sym same)))
    (ap (λ (H : Holdings). H.limit) set ∙ ap (λ (H : Holdings). H.limit) is.2)
    (ap (λ (H : Holdings). H.stored) set ∙ ap (λ (H : Holdings). H.stored) is.2)
    (omega (arith, more, before, now, bound))

-- an attempt starts
pub started-kept : (t value : TableState) → t ≡ value → (C : Counting) (A B : Holdings) (r need : ℕ) (place : Place) (old : RuleRow) → IsKept t C A → r < length value.plan.rules
    → can_start (known_in value) r ≡ true → value.ended ≡ false → leaves_places (known_in value) 2 ≡ true → old ≡ get_or t.rules r old → need ≡ rule_bound value.plan r → B ≡ with_need A need
    → IsKept (record (with_row t r (row_with (Some place) old)) { starts = t.starts + 1; limit = B.limit }) C B
started-kept t value same C A B r need place old is inside starts going places here bound set =
    started_kept t C A B r need place old is (subst (λ (v : TableState). r < length v.plan.rules) (sym same) inside) (subst (λ (v : TableState). can_start (known_in v) r ≡ true) (sym same) starts)
    (subst (λ (v : TableState). v.ended ≡ false) (sym same) going) (subst (λ (v : TableState). leaves_places (known_in v) 2 ≡ true) (sym same) places) here
    (subst (λ (v : TableState). need ≡ rule_bound v.plan r) (sym same) bound) set

closed_kept : (t : TableState) (C : Counting) (A B : Holdings) (r need : ℕ) (row old : RuleRow) → IsKept t C A → r < length t.plan.rules → runs_now (known_in t) r ≡ true → old ≡ get_or t.rules r old
    → row.place ≡ None → row.done ≡ old.done → row.failures ≤ old.failures + 1 → need ≡ rule_bound t.plan r → B ≡ without_need A need
    → IsKept (record (with_row t r row) { limit = B.limit }) C B
closed_kept t C A B r need row old is inside runs here none done few bound set =
    let within : r < length t.rules = subst (λ n. r < n) (sym is.0.rules) inside in
    let same : row_at t r ≡ old = same_row t.rules r old here within in
    let less = reserved-less t r row inside within runs (no_run t.retries row none) in
    let before : A.reserved ≡ reserved_sum (known_in t) = ap (λ (H : Holdings). H.reserved) is.2 in
    let now : B.reserved ≡ A.reserved - need = ap (λ (H : Holdings). H.reserved) set in
    kept_with (with_row t r row) C B (keeps-closed t r row old is.0 inside runs here none few)
    (mirrors-row C t.plan t.rules t.files r row is.1 within (done ∙ ap (λ (w : RuleRow). w.done) (sym same)))
    (ap (λ (H : Holdings). H.limit) set ∙ ap (λ (H : Holdings). H.limit) is.2)
    (ap (λ (H : Holdings). H.stored) set ∙ ap (λ (H : Holdings). H.stored) is.2)
    (omega (arith, less, before, now, bound))

-- an attempt is lost or fails
pub closed-kept : (t value : TableState) → t ≡ value → (C : Counting) (A B : Holdings) (r need : ℕ) (row old : RuleRow) → IsKept t C A → r < length value.plan.rules → runs_now (known_in value) r ≡ true
    → old ≡ get_or t.rules r old → row.place ≡ None → row.done ≡ old.done → row.failures ≤ old.failures + 1 → need ≡ rule_bound value.plan r → B ≡ without_need A need
    → IsKept (record (with_row t r row) { limit = B.limit }) C B
closed-kept t value same C A B r need row old is inside runs here none done few bound set =
    closed_kept t C A B r need row old is (subst (λ (v : TableState). r < length v.plan.rules) (sym same) inside) (subst (λ (v : TableState). runs_now (known_in v) r ≡ true) (sym same) runs) here none done few
    (subst (λ (v : TableState). need ≡ rule_bound v.plan r) (sym same) bound) set

-- a run is opened
pub opened-kept : (t value : TableState) → t ≡ value → (C : Counting) (A B : Holdings) (rows : List RuleRow) (retries : ℕ) (limit : Option ℕ) → IsKept t C A → has_two_places (known_in value) ≡ true
    → rows ≡ map waiting_row t.rules → B.limit ≡ limit → B.stored ≡ A.stored → B.reserved ≡ 0 → IsKept (record (after_opening t retries limit) { rules = rows; limit = B.limit }) C B
opened-kept t value same C A B rows retries limit is places set bound stored reserved =
    let after : TableState = after_opening t retries limit in
    subst (λ (xs : List RuleRow). IsKept (record after { rules = xs; limit = B.limit }) C B) (sym set)
    (kept_with after C B (keeps-opened t retries limit is.0 (subst (λ (v : TableState). has_two_places (known_in v) ≡ true) (sym same) places))
    (mirrors-opened C t.plan t.rules t.files is.1) bound (stored ∙ ap (λ (H : Holdings). H.stored) is.2) (reserved ∙ sym (reserved-none after (idle_row t.rules retries))))

dropped_kept : (t : TableState) (C D : Counting) (A B : Holdings) (f size : ℕ) (states : List FileState) → IsKept t C A → is_dispensable (known_in t) f ≡ true → leaves_places (known_in t) 1 ≡ true
    → states ≡ slice_set t.files f file.Collected → size ≡ known_bytes (known_in t) f → D ≡ without_file C f → B ≡ without_size A size
    → IsKept (record (after_drop t f) { files = states; plan = D.plan; limit = B.limit }) D B
dropped_kept t C D A B f size states is free places noted bytes counted set =
    let made : is_some (maker_of t.plan f) ≡ true = (dispensable-parts _ _ _ _ free).0 in
    let inside : f < length t.plan.files = made-inside t.plan f made in
    let within : f < length t.files = subst (λ n. f < n) (sym is.0.files) inside in
    let change = stored-changed t.plan t.files f file.Collected made inside within in
    let before : A.stored ≡ stored_in t.plan t.files = ap (λ (H : Holdings). H.stored) is.2 in
    let now : B.stored ≡ A.stored - size = ap (λ (H : Holdings). H.stored) set in
    let plan : D.plan ≡ t.plan = ap (λ (X : Counting). X.plan) counted ∙ is.1.plan in
    subst (λ (P : Plan). IsKept (record (after_drop t f) { files = states; plan = P; limit = B.limit }) D B) (sym plan)
    (subst (λ (xs : List FileState). IsKept (record (after_drop t f) { files = xs; limit = B.limit }) D B) (sym noted)
    (kept_with (after_drop t f) D B (keeps-dropped t f is.0 inside places)
    (subst (λ (X : Counting). AreMirrored X t.plan t.rules (slice_set t.files f file.Collected)) (sym counted) (mirrors-dropped C t.plan t.rules t.files f is.1 inside within))
    (ap (λ (H : Holdings). H.limit) set ∙ ap (λ (H : Holdings). H.limit) is.2)
    (omega (arith, change, before, now, bytes))
    (ap (λ (H : Holdings). H.reserved) set ∙ ap (λ (H : Holdings). H.reserved) is.2)))

-- a file is dropped
pub dropped-kept : (t value : TableState) → t ≡ value → (C D : Counting) (A B : Holdings) (f size : ℕ) (states : List FileState) → IsKept t C A → is_dispensable (known_in value) f ≡ true
    → leaves_places (known_in value) 1 ≡ true → states ≡ slice_set t.files f file.Collected → size ≡ known_bytes (known_in value) f → D ≡ without_file C f → B ≡ without_size A size
    → IsKept (record (after_drop t f) { files = states; plan = D.plan; limit = B.limit }) D B
dropped-kept t value same C D A B f size states is free places noted bytes counted set =
    dropped_kept t C D A B f size states is (subst (λ (v : TableState). is_dispensable (known_in v) f ≡ true) (sym same) free) (subst (λ (v : TableState). leaves_places (known_in v) 1 ≡ true) (sym same) places) noted
    (subst (λ (v : TableState). size ≡ known_bytes (known_in v) f) (sym same) bytes) counted set

complete_is : (done failed : Bool) (place : Option Place) → is_complete_state (cond done rule.Complete (unfinished_state place failed)) ≡ done
complete_is true failed place = refl
complete_is false failed (Some place) = refl
complete_is false true None = refl
complete_is false false None = refl

mades_are : (t : TableState) (C : Counting) → AreMirrored C t.plan t.rules t.files → is_made C ≡ is_done (known_in t)
mades_are t C is = fun_ext (λ r. is.done r ∙ sym (complete_is (row_at t r).done (nat_le (t.retries + 1) (row_at t r).failures) (row_at t r).place))

made_and : (b m n c d : Bool) → (b ≡ true → m ≡ n) → (b && m && c && d) ≡ (b && n && c && d)
made_and true m n c d same = ap (λ x. x && c && d) (same refl)
made_and false m n c d same = refl

free_same : (t : TableState) (C : Counting) (f : ℕ) → AreMirrored C t.plan t.rules t.files → is_free C f ≡ is_dispensable (known_in t) f
free_same t C f is =
    ap (λ (P : Plan). is_some (maker_of P f) && is_present C f && not (is_kept P f) && list_all (is_made C) (takers_of P f)) is.plan
    ∙ made_and (is_some (maker_of t.plan f)) (is_present C f) (is_there (known_in t) f) (not (is_kept t.plan f)) (list_all (is_made C) (takers_of t.plan f)) (is.present f)
    ∙ ap (λ p. is_some (maker_of t.plan f) && is_there (known_in t) f && not (is_kept t.plan f) && list_all p (takers_of t.plan f)) (mades_are t C is)

-- the least of them is the same
first_same : (t : TableState) (C : Counting) → AreMirrored C t.plan t.rules t.files → least_free C ≡ first_free (known_in t)
first_same t C is = ap (λ p. find p (file_numbers C.plan)) (fun_ext (λ f. free_same t C f is)) ∙ ap (λ (P : Plan). find (is_dispensable (known_in t)) (file_numbers P)) is.plan

done_kept : (t : TableState) (C D : Counting) (A B E : Holdings) (r need : ℕ) (old : RuleRow) (outs : List Content) (states : List FileState) → IsKept t C A → r < length t.plan.rules
    → runs_now (known_in t) r ≡ true → length (makes t.plan r) ≡ length outs → old ≡ get_or t.rules r old
    → ((f : ℕ) → state_in states f ≡ made_or (row_of f (makes t.plan r) outs) (state_in t.files f)) → length states ≡ length t.plan.files → ((f : ℕ) → bytes_in states f ≤ most_bytes)
    → need ≡ rule_bound t.plan r → B ≡ without_need A need → E ≡ record B { stored = stored_in t.plan states } → D ≡ with_rule C r
    → IsKept (record (with_row t r (record { place = None; done = true; failures = old.failures; why = old.why; started = old.started })) { files = states; plan = D.plan; limit = E.limit }) D E
done_kept t C D A B E r need old outs states is inside runs long here made all small bound released set counted =
    let row : RuleRow = record { place = None; done = true; failures = old.failures; why = old.why; started = old.started } in
    let within : r < length t.rules = subst (λ n. r < n) (sym is.0.rules) inside in
    let table = keeps-closed t r row old is.0 inside runs here refl (omega arith) in
    let less = reserved-less t r row inside within runs (no_run t.retries row refl) in
    let before : A.reserved ≡ reserved_sum (known_in t) = ap (λ (H : Holdings). H.reserved) is.2 in
    let between : B.reserved ≡ A.reserved - need = ap (λ (H : Holdings). H.reserved) released in
    let now : E.reserved ≡ B.reserved = ap (λ (H : Holdings). H.reserved) set in
    let plan : D.plan ≡ t.plan = ap (λ (X : Counting). X.plan) counted ∙ is.1.plan in
    let after : TableState = record (with_row t r row) { files = states } in
    let kept : IsTable after = record {
      valid = table.valid;
      rules = table.rules;
      files = all;
      small = small;
      places = table.places;
      runs = table.runs;
      starts = table.starts;
      failures = table.failures;
      joins = table.joins;
    } in
    subst (λ (P : Plan). IsKept (record after { plan = P; limit = E.limit }) D E) (sym plan)
    (kept_with after D E kept
    (subst (λ (X : Counting). AreMirrored X t.plan (slice_set t.rules r row) states) (sym counted) (mirrors-done C t.plan t.rules t.files states r row outs is.1 inside within refl long (made-inside t.plan) made))
    (ap (λ (H : Holdings). H.limit) set ∙ ap (λ (H : Holdings). H.limit) released ∙ ap (λ (H : Holdings). H.limit) is.2)
    (ap (λ (H : Holdings). H.stored) set)
    (omega (arith, less, before, between, now, bound)))

-- a rule is done
pub done-kept : (t value : TableState) → t ≡ value → (C D : Counting) (A B E : Holdings) (r need : ℕ) (old : RuleRow) (outs : List Content) (states : List FileState) → IsKept t C A → r < length value.plan.rules
    → runs_now (known_in value) r ≡ true → length (makes value.plan r) ≡ length outs → old ≡ get_or t.rules r old
    → ((f : ℕ) → state_in states f ≡ made_or (row_of f (makes t.plan r) outs) (state_in t.files f)) → length states ≡ length t.plan.files → ((f : ℕ) → bytes_in states f ≤ most_bytes)
    → need ≡ rule_bound value.plan r → B ≡ without_need A need → E ≡ record B { stored = stored_in t.plan states } → D ≡ with_rule C r
    → IsKept (record (with_row t r (record { place = None; done = true; failures = old.failures; why = old.why; started = old.started })) { files = states; plan = D.plan; limit = E.limit }) D E
done-kept t value same C D A B E r need old outs states is inside runs long here made all small bound released set counted =
    done_kept t C D A B E r need old outs states is (subst (λ (v : TableState). r < length v.plan.rules) (sym same) inside) (subst (λ (v : TableState). runs_now (known_in v) r ≡ true) (sym same) runs)
    (subst (λ (v : TableState). length (makes v.plan r) ≡ length outs) (sym same) long) here made all small (subst (λ (v : TableState). need ≡ rule_bound v.plan r) (sym same) bound) released set counted

room_by : (limit : Option ℕ) (stored reserved need : ℕ) → has_room (held limit stored reserved) need ≡ is_within (stored + reserved + need) limit
room_by None stored reserved need = refl
room_by (Some limit) stored reserved need = refl

-- the account has room for a rule where the table knows that it fits the storage
pub room-known : (A : Holdings) (K : Known) (r need : ℕ) → A ≡ holdings_of K → need ≡ rule_bound K.plan r → has_room A need ≡ has_storage K r
room-known A K r need is bound = ap (λ (H : Holdings). has_room H need) is ∙ ap (has_room (holdings_of K)) bound ∙ room_by K.limit (stored_sum K) (reserved_sum K) (rule_bound K.plan r)

-- few bytes are stored
pub stored-few : (t : TableState) (C : Counting) (A : Holdings) → IsKept t C A → A.stored ≤ most_bytes * most_files
stored-few t C A is = let stored : A.stored ≡ stored_sum (known_in t) = ap (λ (H : Holdings). H.stored) is.2 in omega (arith, stored, stored-most t.plan t.files is.0.valid is.0.small)

-- and few are reserved
pub reserved-few : (t : TableState) (C : Counting) (A : Holdings) → IsKept t C A → A.reserved ≤ most_bytes * most_rules
reserved-few t C A is = let reserved : A.reserved ≡ reserved_sum (known_in t) = ap (λ (H : Holdings). H.reserved) is.2 in omega (arith, reserved, reserved-most t is.0.valid)

ok_of : {A E P : Type 0} (Q : Type 0) (room : Bool) (result : Result A E) → OnOk result P → OnErr result ((room ≡ false) × Q) → room ≡ true → (is_ok result ≡ true) × P
ok_of Q room (Ok x) given full has = (refl, given)
ok_of Q room (Err e) given full has = absurd (true≢false (sym has ∙ full.0))

-- what a rule needs is reserved where it fits the storage
pub reserved-ok : {X E : Type 0} (t value : TableState) → t ≡ value → (C : Counting) (A B : Holdings) (r need : ℕ) (result : Result X E) → IsKept t C A → need ≡ rule_bound value.plan r
    → has_storage (known_in value) r ≡ true → OnOk result ((has_room A need ≡ true) × (B ≡ with_need A need)) → OnErr result ((has_room A need ≡ false) × (B ≡ A))
    → (is_ok result ≡ true) × (B ≡ with_need A need)
reserved-ok t value same C A B r need result is bound fits given full =
    let ok = ok_of (B ≡ A) (has_room A need) result given full (room-known A (known_in value) r need (is.2 ∙ ap (λ (v : TableState). holdings_of (known_in v)) same) bound ∙ fits) in
    (ok.0, ok.1.1)

-- what a running rule needs is among what is reserved
pub release-holds : (t value : TableState) → t ≡ value → (C : Counting) (A : Holdings) (r need : ℕ) → IsKept t C A → r < length value.plan.rules → runs_now (known_in value) r ≡ true
    → need ≡ rule_bound value.plan r → need ≤ A.reserved
release-holds t value same C A r need is inside runs bound =
    let before : A.reserved ≡ reserved_sum (known_in value) = ap (λ (H : Holdings). H.reserved) is.2 ∙ ap (λ (v : TableState). reserved_sum (known_in v)) same in
    omega (arith, before, bound, reserved-holds value r inside runs)

-- the bytes of a free file are among what is stored
pub remove-holds : (t value : TableState) → t ≡ value → (C : Counting) (A : Holdings) (f size : ℕ) → IsKept t C A → is_dispensable (known_in value) f ≡ true → size ≡ known_bytes (known_in value) f → size ≤ A.stored
remove-holds t value same C A f size is free bytes =
    let before : A.stored ≡ stored_sum (known_in value) = ap (λ (H : Holdings). H.stored) is.2 ∙ ap (λ (v : TableState). stored_sum (known_in v)) same in
    let made : is_some (maker_of value.plan f) ≡ true = (dispensable-parts _ _ _ _ free).0 in
    omega (arith, before, bytes, stored-holds value.plan value.files f made (made-inside value.plan f made))

-- the same with what the counts, the account, the rows and the files are
pub begun-anew : (t : TableState) (C D : Counting) (A B : Holdings) (sources : List Content) (rows : List RuleRow) (states : List FileState) → IsKept t C A → are_small sources ≡ true
    → rows ≡ replicate (length t.rules) blank_row → states ≡ first_states t.plan sources → D ≡ nothing_made t.plan → B ≡ held t.limit 0 0
    → IsKept (record t { plan = D.plan; rules = rows; files = states; limit = B.limit }) D B
begun-anew t C D A B sources rows states is small blank first nothing none =
    subst (λ (X : Counting). IsKept (record t { plan = X.plan; rules = rows; files = states; limit = B.limit }) X B) (sym nothing)
    (subst (λ (H : Holdings). IsKept (record t { rules = rows; files = states; limit = H.limit }) (nothing_made t.plan) H) (sym none)
    (subst (λ (xs : List RuleRow). IsKept (record t { rules = xs; files = states }) (nothing_made t.plan) (held t.limit 0 0)) (sym blank)
    (subst (λ (xs : List FileState). IsKept (record t { rules = replicate (length t.rules) blank_row; files = xs }) (nothing_made t.plan) (held t.limit 0 0)) (sym first)
    (first_kept t C A sources is small))))

pub begun-blank : (P : Plan) (O : Options) (n runs starts : ℕ) (D : Counting) (B : Holdings) (rows : List RuleRow) (states : List FileState) (links : List LinkEntry) → IsValid P → n < 9223372036854775808 → runs ≤ n → starts ≤ n
    → rows ≡ replicate (length P.rules) blank_row → states ≡ replicate (length P.files) file.Absent → links ≡ [] → D ≡ nothing_made P → B ≡ held None 0 0
    → IsKept (record (blank_table P O n runs starts) { plan = D.plan; rules = rows; files = states; links = links; limit = B.limit }) D B
begun-blank P O n runs starts D B rows states links valid few ran started blank absent unlinked nothing none =
    let t : TableState = blank_table P O n runs starts in
    subst (λ (X : Counting). IsKept (record t { plan = X.plan; rules = rows; files = states; links = links; limit = B.limit }) X B) (sym nothing)
    (subst (λ (H : Holdings). IsKept (record t { rules = rows; files = states; links = links; limit = H.limit }) (nothing_made P) H) (sym none)
    (subst (λ (xs : List RuleRow). IsKept (record t { rules = xs; files = states; links = links }) (nothing_made P) (held None 0 0)) (sym blank)
    (subst (λ (xs : List FileState). IsKept (record t { files = xs; links = links }) (nothing_made P) (held None 0 0)) (sym absent)
    (subst (λ (xs : List LinkEntry). IsKept (record t { links = xs }) (nothing_made P) (held None 0 0)) (sym unlinked)
    (blank_kept P O n runs starts valid few ran started)))))

-- what the counts say is free is what the table knows to be free
pub free-known : (t value : TableState) → t ≡ value → (C : Counting) (f : ℕ) → AreMirrored C t.plan t.rules t.files → is_free C f ≡ is_dispensable (known_in value) f
free-known t value same C f is = free_same t C f is ∙ ap (λ (v : TableState). is_dispensable (known_in v) f) same

number_same : (file : Option FileNo) → file_number file ≡ number_in file
number_same None = refl
number_same (Some f) = refl

-- the file that the counts find is the least free one that the table knows
pub free-found : (t value : TableState) → t ≡ value → (C : Counting) (file : Option FileNo) → AreMirrored C t.plan t.rules t.files → number_in file ≡ least_free C → file_number file ≡ first_free (known_in value)
free-found t value same C file is found = number_same file ∙ found ∙ first_same t C is ∙ ap (λ (v : TableState). first_free (known_in v)) same
