-- How many records a run adds in which no attempt fails and none is given up.
use Rattle.std.proofs.Common.{◌≡◌, ◌≤◌, ◌<◌, ◌+◌, ◌∙◌, ℕ, Bool, true, false, cond, not, List, [], ◌∷◌, ◌++◌, length, Option, Some, None, refl, sym, ap, subst, arith, append-nil, append_assoc, length-append, true≢false}
use Rattle.std.specs.Prelude.{◌==◌, ◌&&◌, ◌||◌, is_none, is_some}
use Rattle.std.specs.List.{list_any}
use Rattle.std.specs.Option.{option_map_or}
use Rattle.std.proofs.lemmas.Bool.{and_parts, eqb-true, ltb-true, or_parts}
use Rattle.flow_types.specs.declared.plan.Plan.{Plan}
use Rattle.flow_types.specs.declared.numbers.AttemptNo.{AttemptNo}
use Rattle.flow_types.specs.declared.numbers.Content.{Content}
use Rattle.flow_types.specs.declared.numbers.LinkNo.{LinkNo}
use Rattle.flow_types.specs.declared.numbers.RuleNo.{RuleNo}
use Rattle.flow_types.specs.declared.records.Record.{Record}
use Rattle.flow_types.specs.declared.records.Record.TheVariants as records
use Rattle.flow_types.specs.Plans.{is_empty, rule_numbers}
use Rattle.flow_types.proofs.Totals.{at_place, place-inside, total, total-add, total-filter, total-is, total-le, total-take}
use Rattle.run_history.specs.declared.states.RuleState.TheVariants as rule
use Rattle.run_history.specs.History.{is_cleaned, is_end, is_opening}
use Rattle.run_history.specs.Legal.{is_allowed, is_legal_from, is_numbered, runs_as}
use Rattle.run_history.specs.States.{Place, outs_in, outs_of, running_in, running_says, unfinished_state}
use Rattle.run_history.specs.Storage.{is_complete, is_running, is_waiting_state, running_rules}
use Rattle.run_history.proofs.Allowed.{finishes, starts}
use Rattle.run_history.proofs.Ready.{empty_list}
use Rattle.run_history.proofs.Steps.{complete-is, outs-push, running-is, running-push}
use Rattle.local_run.specs.Collecting.{drops_due}
use Rattle.local_run.specs.Course.{begins_anew}
use Rattle.local_run.specs.Ends.{left_count, records_due}
use Rattle.local_run.proofs.Collecting.{drops_drop, drops_less}
use Rattle.wq_run.specs.Calm.{goes_wrong}

-- ---- what is to come of one rule

-- none where it is done, its Done while it runs, and before that its start too
abbrev weigh : Option (List Content) → Option Place → ℕ
weigh (Some outs) running = 0
weigh None (Some place) = 1
weigh None None = 2

abbrev weight : List Record → ℕ → ℕ
weight H r = weigh (outs_of H r) (running_in H r)

abbrev one : Bool → ℕ
one b = cond b 1 0

-- a rule that waits weighs two
waits_weigh : (outs : Option (List Content)) (running : Option Place) (failed : Bool) → is_waiting_state (option_map_or (λ o. rule.Complete) outs (unfinished_state running failed)) ≡ true → (outs ≡ None) × (running ≡ None)
waits_weigh (Some outs) running failed is = absurd (true≢false (sym is))
waits_weigh None (Some place) failed is = absurd (true≢false (sym is))
waits_weigh None None failed is = (refl, refl)

-- one that runs weighs one
runs_weigh : (outs : Option (List Content)) (running : Option Place) (failed : Bool) (a : ℕ) → runs_as (option_map_or (λ o. rule.Complete) outs (unfinished_state running failed)) a ≡ true → weigh outs running ≡ 1
runs_weigh (Some outs) running failed a is = absurd (true≢false (sym is))
runs_weigh None (Some place) failed a is = refl
runs_weigh None None true a is = absurd (true≢false (sym is))
runs_weigh None None false a is = absurd (true≢false (sym is))

-- behind a record that opens and cleans nothing
weight_push : (H : List Record) (x : Record) (r : ℕ) → is_cleaned x ≡ false → is_opening x ≡ false
    → weight (H ++ (x ∷ [])) r ≡ weigh (option_map_or Some (outs_in r x) (outs_of H r)) (option_map_or (λ running. running) (running_says r x) (running_in H r))
weight_push H x r more stays =
    ap (λ (o : Option (List Content)). weigh o (running_in (H ++ (x ∷ [])) r)) (outs-push H x r more)
    ∙ ap (weigh (option_map_or Some (outs_in r x) (outs_of H r))) (running-push H x r more stays)

started_weight : (H : List Record) (moment : ℕ) (rule : RuleNo) (attempt : AttemptNo) (link : LinkNo) → outs_of H rule.0 ≡ None → running_in H rule.0 ≡ None → (r : ℕ)
    → weight (H ++ (records.Started moment rule attempt link ∷ [])) r + at_place 1 rule.0 r ≤ weight H r
started_weight H moment rule attempt link undone idle r = by_test (rule.0 == r) refl
  where
    x : Record
    x = records.Started moment rule attempt link

    by_test : (b : Bool) → (rule.0 == r) ≡ b → weight (H ++ (x ∷ [])) r + one b ≤ weight H r
    by_test true same =
        let place : Option Place = Some (attempt, link) in
        let is : rule.0 ≡ r = eqb-true rule.0 r same in
        let none : outs_of H r ≡ None = ap (outs_of H) (sym is) ∙ undone in
        let free : running_in H r ≡ None = ap (running_in H) (sym is) ∙ idle in
        let now : weight (H ++ (x ∷ [])) r ≡ 1 =
        weight_push H x r refl refl
        ∙ ap (λ (b : Bool). weigh (outs_of H r) (option_map_or (λ running. running) (cond b (Some place) None) (running_in H r))) same
        ∙ ap (λ (o : Option (List Content)). weigh o place) none in
        let was : weight H r ≡ 2 = ap (λ (o : Option (List Content)). weigh o (running_in H r)) none ∙ ap (weigh None) free in
        omega (arith, now, was)
    by_test false other =
        let place : Option Place = Some (attempt, link) in
        let stays : weight (H ++ (x ∷ [])) r ≡ weight H r =
        weight_push H x r refl refl ∙ ap (λ (b : Bool). weigh (outs_of H r) (option_map_or (λ running. running) (cond b (Some place) None) (running_in H r))) other in
        omega (arith, stays)

done_weight : (H : List Record) (moment : ℕ) (rule : RuleNo) (attempt : AttemptNo) (outs : List Content) → weight H rule.0 ≡ 1 → (r : ℕ)
    → weight (H ++ (records.Done moment rule attempt outs ∷ [])) r + at_place 1 rule.0 r ≤ weight H r
done_weight H moment rule attempt outs runs r = by_test (rule.0 == r) refl
  where
    x : Record
    x = records.Done moment rule attempt outs

    both : Bool → ℕ
    both b = weigh (option_map_or Some (cond b (Some outs) None) (outs_of H r)) (option_map_or (λ running. running) (cond b (Some None) None) (running_in H r))

    by_test : (b : Bool) → (rule.0 == r) ≡ b → weight (H ++ (x ∷ [])) r + one b ≤ weight H r
    by_test true same =
        let now : weight (H ++ (x ∷ [])) r ≡ 0 = weight_push H x r refl refl ∙ ap both same in
        let was : weight H r ≡ 1 = ap (weight H) (sym (eqb-true rule.0 r same)) ∙ runs in
        omega (arith, now, was)
    by_test false other =
        let stays : weight (H ++ (x ∷ [])) r ≡ weight H r = weight_push H x r refl refl ∙ ap both other in
        omega (arith, stays)

-- ---- what is to come of all

-- the records that are there, and as many as the log will have behind them at most
abbrev pub heavy : Plan → List Record → ℕ
heavy P H = length H + total (weight H) (rule_numbers P) + drops_due P H

less_of : (P : Plan) (H : List Record) (x : Record) (rule : RuleNo) → is_cleaned x ≡ false → rule.0 < length P.rules → ((r : ℕ) → weight (H ++ (x ∷ [])) r + at_place 1 rule.0 r ≤ weight H r) → heavy P (H ++ (x ∷ [])) ≤ heavy P H
less_of P H x rule more inside each =
    let le = total-take (weight (H ++ (x ∷ []))) (weight H) (at_place 1 rule.0) (rule_numbers P) each in
    let some = place-inside 1 rule.0 0 (length P.rules) (omega arith) (omega (arith, inside)) in
    let long = length-append H (x ∷ []) in
    let fewer = drops_less P H x more in
    omega (arith, le, some, long, fewer)

-- A record that is allowed adds no more than was to come, where it opens, ends and cleans nothing, and no attempt failed or was given up by it.
step : (P : Plan) (digest : List ℕ) (H : List Record) (x : Record) → begins_anew x ≡ false → goes_wrong x ≡ false → is_end x ≡ false → is_allowed P digest H x ≡ true → heavy P (H ++ (x ∷ [])) ≤ heavy P H
step P digest H (records.Opened moment run retries limit plan sources) same well stays may = absurd (true≢false same)
step P digest H (records.Resumed moment run retries limit) same well stays may = absurd (true≢false same)
step P digest H (records.Started moment rule attempt link) same well stays may =
    let why = starts P digest H moment rule attempt link may in
    let none = waits_weigh (outs_of H rule.0) (running_in H rule.0) _ why.waits in
    less_of P H (records.Started moment rule attempt link) rule refl (ltb-true rule.0 (length P.rules) why.in_plan) (started_weight H moment rule attempt link none.0 none.1)
step P digest H (records.Done moment rule attempt outs) same well stays may =
    let why = and_parts _ _ (finishes P digest H moment rule attempt outs may).runs in
    less_of P H (records.Done moment rule attempt outs) rule refl (ltb-true rule.0 (length P.rules) why.0)
    (done_weight H moment rule attempt outs (runs_weigh (outs_of H rule.0) (running_in H rule.0) _ attempt.0 why.1))
step P digest H (records.Failed moment rule attempt why) same well stays may = absurd (true≢false well)
step P digest H (records.Lost moment rule attempt) same well stays may = absurd (true≢false well)
step P digest H (records.Dropped moment f) same well stays may =
    let x : Record = records.Dropped moment f in
    let le : total (weight (H ++ (x ∷ []))) (rule_numbers P) ≤ total (weight H) (rule_numbers P) = total-le (weight (H ++ (x ∷ []))) (weight H) (rule_numbers P) (λ r. (let is = weight_push H x r refl refl in omega (arith, is))) in
    let long = length-append H (x ∷ []) in
    let fewer = drops_drop P H moment f (and_parts _ _ may).0 in
    omega (arith, le, long, fewer)
step P digest H (records.Ended moment kind) same well stays may = absurd (true≢false stays)

uncleaned : (xs : List Record) → list_any begins_anew xs ≡ false → list_any is_cleaned xs ≡ false
uncleaned [] none = refl
uncleaned (x ∷ xs) none =
    let parts = or_parts (begins_anew x) (list_any begins_anew xs) none in
    ap (λ (b : Bool). b || list_any is_cleaned xs) (or_parts (is_opening x) (is_cleaned x) parts.0).1 ∙ uncleaned xs parts.1

-- So it is of more records, behind which others may stand.
along : (P : Plan) (digest : List ℕ) (before xs rest : List Record) → is_legal_from P digest before (xs ++ rest) ≡ true → list_any begins_anew (xs ++ rest) ≡ false → list_any goes_wrong xs ≡ false → list_any is_end xs ≡ false
    → heavy P (before ++ xs) ≤ heavy P before
along P digest before [] rest legal same well stays = let is = ap (heavy P) (append-nil before) in omega (arith, is)
along P digest before (x ∷ xs) rest legal same well stays =
    let here = or_parts (begins_anew x) (list_any begins_anew (xs ++ rest)) same in
    let fine = or_parts (goes_wrong x) (list_any goes_wrong xs) well in
    let on = or_parts (is_end x) (list_any is_end xs) stays in
    let parts = and_parts _ _ legal in
    let may : is_allowed P digest before x ≡ true = by_test (list_any is_cleaned (x ∷ (xs ++ rest))) (is_numbered before x) (is_allowed P digest before x) (uncleaned (x ∷ (xs ++ rest)) same) parts.0 in
    let first = step P digest before x here.0 fine.0 on.0 may in
    let later = along P digest (before ++ (x ∷ [])) xs rest parts.1 here.1 fine.1 on.1 in
    let are = ap (heavy P) (append_assoc before (x ∷ []) xs) in
    omega (arith, first, later, are)
  where
    by_test : (b numbered allowed : Bool) → b ≡ false → cond b numbered allowed ≡ true → allowed ≡ true
    by_test true numbered allowed is holds = absurd (true≢false is)
    by_test false numbered allowed is holds = holds

legal_behind : (P : Plan) (digest : List ℕ) (before xs ys : List Record) → is_legal_from P digest before (xs ++ ys) ≡ true → is_legal_from P digest (before ++ xs) ys ≡ true
legal_behind P digest before [] ys legal = subst (λ (H : List Record). is_legal_from P digest H ys ≡ true) (sym (append-nil before)) legal
legal_behind P digest before (x ∷ xs) ys legal =
    subst (λ (H : List Record). is_legal_from P digest H ys ≡ true) (append_assoc before (x ∷ []) xs) (legal_behind P digest (before ++ (x ∷ [])) xs ys (and_parts _ _ legal).1)

-- ---- where nothing runs

weigh_left : (H : List Record) (r : ℕ) (outs : Option (List Content)) (running : Option Place) → outs_of H r ≡ outs → running_in H r ≡ running
    → (weight H r ≤ one (not (is_complete H r)) + one (not (is_complete H r))) × (one (not (is_complete H r)) + one (not (is_complete H r)) ≤ weight H r + one (is_running H r))
weigh_left H r (Some outs) running is runs =
    let weighs : weight H r ≡ 0 = ap (λ (o : Option (List Content)). weigh o (running_in H r)) is in
    let left : one (not (is_complete H r)) ≡ 0 = ap (λ (b : Bool). one (not b)) (complete-is H r ∙ ap is_some is) in
    (omega (arith, weighs), omega (arith, left))
weigh_left H r None (Some place) is runs =
    let weighs : weight H r ≡ 1 = ap (λ (o : Option (List Content)). weigh o (running_in H r)) is ∙ ap (weigh None) runs in
    let left : one (not (is_complete H r)) ≡ 1 = ap (λ (b : Bool). one (not b)) (complete-is H r ∙ ap is_some is) in
    let on : one (is_running H r) ≡ 1 = ap one (running-is H r ∙ ap (λ (o : Option (List Content)). is_none o && is_some (running_in H r)) is ∙ ap is_some runs) in
    (omega (arith, weighs, left), omega (arith, weighs, left, on))
weigh_left H r None None is runs =
    let weighs : weight H r ≡ 2 = ap (λ (o : Option (List Content)). weigh o (running_in H r)) is ∙ ap (weigh None) runs in
    let left : one (not (is_complete H r)) ≡ 1 = ap (λ (b : Bool). one (not b)) (complete-is H r ∙ ap is_some is) in
    (omega (arith, weighs, left), omega (arith, weighs, left))

light : (P : Plan) (H : List Record) → heavy P H ≤ records_due P H
light P H =
    let left : ℕ → ℕ = λ r. one (not (is_complete H r)) in
    let le = total-add (weight H) left left (rule_numbers P) (λ r. (weigh_left H r (outs_of H r) (running_in H r) refl refl).0) in
    let are : total left (rule_numbers P) ≡ left_count P H = total-is left (rule_numbers P) in
    omega (arith, le, are)

full : (P : Plan) (H : List Record) → is_empty (running_rules P H) ≡ true → records_due P H ≤ heavy P H
full P H idle =
    let left : ℕ → ℕ = λ r. one (not (is_complete H r)) in
    let on : ℕ → ℕ = λ r. one (is_running H r) in
    let both : ℕ → ℕ = λ r. weight H r + on r in
    let unit : ℕ → ℕ = λ r. 1 in
    let less = total-take left both left (rule_numbers P) (λ r. (weigh_left H r (outs_of H r) (running_in H r) refl refl).1) in
    let sums = total-add both (weight H) on (rule_numbers P) (λ r. omega arith) in
    let are : total left (rule_numbers P) ≡ left_count P H = total-is left (rule_numbers P) in
    let none : total on (rule_numbers P) ≡ 0 = sym (total-filter unit (is_running H) (rule_numbers P)) ∙ ap (total unit) (empty_list (running_rules P H) idle) in
    omega (arith, less, sums, are, none)

-- From a log where nothing runs to one where nothing runs, what is there and still to come is no more, where the records between open, end and clean nothing, and no attempt failed or was given up by them.
pub due_along : (P : Plan) (digest : List ℕ) (before xs rest : List Record) → is_legal_from P digest [] (before ++ (xs ++ rest)) ≡ true → list_any begins_anew (xs ++ rest) ≡ false → list_any goes_wrong xs ≡ false → list_any is_end xs ≡ false
    → is_empty (running_rules P (before ++ xs)) ≡ true → records_due P (before ++ xs) ≤ records_due P before
due_along P digest before xs rest legal same well stays idle =
    let first = light P before in
    let on = along P digest before xs rest (legal_behind P digest [] before (xs ++ rest) legal) same well stays in
    let last = full P (before ++ xs) idle in
    omega (arith, first, on, last)
