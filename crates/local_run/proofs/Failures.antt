-- The failed commands that a runner counts, and those that are logged.
use Rattle.std.proofs.Common.{◌≡◌, ◌≤◌, ◌<◌, ◌+◌, ◌∙◌, ℕ, Bool, true, false, cond, ◌||◌, List, [], ◌∷◌, ◌++◌, Option, Some, None, refl, sym, ap, arith, true≢false}
use Rattle.std.specs.Prelude.{◌==◌, count_by, filter_map, find, is_some, nat_le}
use Rattle.std.specs.List.{cons_option, last_or, list_any}
use Rattle.std.specs.Option.{option_and_then, option_map_or}
use Rattle.std.proofs.lemmas.Bool.{leb-true}
use Rattle.std.proofs.lemmas.List.Sums.{sum_by-append}
use Rattle.flow_types.specs.declared.plan.Plan.{Plan}
use Rattle.flow_types.specs.declared.job.Failure.{Failure}
use Rattle.flow_types.specs.declared.numbers.Content.{Content}
use Rattle.flow_types.specs.declared.records.Record.{Record}
use Rattle.flow_types.specs.declared.records.Record.TheVariants as records
use Rattle.flow_types.specs.Plans.{rule_numbers}
use Rattle.flow_types.proofs.SerialRun.{find-passes}
use Rattle.flow_types.proofs.Totals.{total, total-is, total-le}
use Rattle.run_history.specs.declared.answers.Check.TheVariants as checks
use Rattle.run_history.specs.declared.states.RuleState.TheVariants as rule
use Rattle.run_history.specs.Answers.{failed_answer, last_why, rule_no, why_in}
use Rattle.run_history.specs.History.{since_opening}
use Rattle.run_history.specs.States.{Place, failures_of, is_failure_of, outs_of, retries_of, running_in, unfinished_state}
use Rattle.run_history.specs.Storage.{has_failed, is_failed_state}
use Rattle.task_core.proofs.Pushing.{count-push}
use Rattle.local_run.specs.Course.{begins_anew}
use Rattle.local_run.specs.Ends.{LogsFailures, StaysSure, failed_count, is_failed}
use Rattle.local_run.proofs.Fresh.{since_more}

-- one where it is so
abbrev one : Bool → ℕ
one b = cond b 1 0

-- a record more of no failure
pub logs_plain : (H all : List Record) (x : Record) (before now : ℕ) → all ≡ H ++ (x ∷ []) → is_failed x ≡ false → now ≡ before → LogsFailures H all before now
logs_plain H all x before now are plain same =
    let count = count-push is_failed H x in
    let none : one (is_failed x) ≡ 0 = ap one plain in
    let all_are : failed_count all ≡ count_by is_failed (H ++ (x ∷ [])) = ap failed_count are in
    omega (arith, count, none, all_are, same)

-- one more of a failure
pub logs_failed : (H all : List Record) (x : Record) (before now : ℕ) → all ≡ H ++ (x ∷ []) → is_failed x ≡ true → now ≡ before + 1 → LogsFailures H all before now
logs_failed H all x before now are fails more =
    let count = count-push is_failed H x in
    let single : one (is_failed x) ≡ 1 = ap one fails in
    let all_are : failed_count all ≡ count_by is_failed (H ++ (x ∷ [])) = ap failed_count are in
    omega (arith, count, single, all_are, more)

pub logs_same : (H all : List Record) (before : ℕ) → all ≡ H → LogsFailures H all before before
logs_same H all before are = ap (λ (G : List Record). failed_count G + before) are

pub logs_then : (H mid all : List Record) (before first now : ℕ) → LogsFailures H mid before first → LogsFailures mid all first now → LogsFailures H all before now
logs_then H mid all before first now one two = omega (arith, one, two)

is_failure_here : (r : ℕ) (x : Record) → cond (is_failure_of r x) 1 0 ≤ cond (is_failed x) 1 0
is_failure_here r (records.Opened moment run retries limit plan sources) = omega arith
is_failure_here r (records.Resumed moment run retries limit) = omega arith
is_failure_here r (records.Started moment q attempt link) = omega arith
is_failure_here r (records.Done moment q attempt outs) = omega arith
is_failure_here r (records.Failed moment q attempt why) = by_test (q.0 == r)
  where
    by_test : (b : Bool) → cond b 1 0 ≤ 1
    by_test true = omega arith
    by_test false = omega arith
is_failure_here r (records.Lost moment q attempt) = omega arith
is_failure_here r (records.Dropped moment f) = omega arith
is_failure_here r (records.Ended moment kind) = omega arith

failures_among : (r : ℕ) (xs : List Record) → count_by (is_failure_of r) xs ≤ failed_count xs
failures_among r xs =
    let le = total-le (λ x. cond (is_failure_of r x) 1 0) (λ x. cond (is_failed x) 1 0) xs (is_failure_here r) in
    let one : total (λ x. cond (is_failure_of r x) 1 0) xs ≡ count_by (is_failure_of r) xs = total-is (λ x. cond (is_failure_of r x) 1 0) xs in
    let other : total (λ x. cond (is_failed x) 1 0) xs ≡ failed_count xs = total-is (λ x. cond (is_failed x) 1 0) xs in
    omega (arith, le, one, other)

failed_by : (outs : Option (List Content)) (running : Option Place) (failed : Bool) → is_failed_state (option_map_or (λ o. rule.Complete) outs (unfinished_state running failed)) ≡ true → failed ≡ true
failed_by (Some outs) running failed h = absurd (true≢false (sym h))
failed_by None (Some running) failed h = absurd (true≢false (sym h))
failed_by None None true h = refl
failed_by None None false h = absurd (true≢false (sym h))

-- a rule that has failed has a failure since the opening
has_failure : (H : List Record) (r : ℕ) → has_failed H r ≡ true → 1 ≤ failed_count (since_opening H)
has_failure H r failed =
    let enough : retries_of H + 1 ≤ failures_of H r = leb-true (retries_of H + 1) (failures_of H r) (failed_by (outs_of H r) (running_in H r) (nat_le (retries_of H + 1) (failures_of H r)) failed) in
    let le = failures_among r (since_opening H) in
    omega (arith, enough, le)

last_some : (o : Option Failure) (xs : List Failure) → is_some o ≡ true → is_some (last_or o xs) ≡ true
last_some o [] some = some
last_some o (x ∷ xs) some = last_some (Some x) xs refl

why_of : (r : ℕ) (x : Record) → is_some (why_in r x) ≡ is_failure_of r x
why_of r (records.Opened moment run retries limit plan sources) = refl
why_of r (records.Resumed moment run retries limit) = refl
why_of r (records.Started moment q attempt link) = refl
why_of r (records.Done moment q attempt outs) = refl
why_of r (records.Failed moment q attempt why) = by_test (q.0 == r)
  where
    by_test : (b : Bool) → is_some (cond b (Some why) None) ≡ b
    by_test true = refl
    by_test false = refl
why_of r (records.Lost moment q attempt) = refl
why_of r (records.Dropped moment f) = refl
why_of r (records.Ended moment kind) = refl

-- where one is, the last says why
why_said : (r : ℕ) (o : Option Failure) (xs : List Record) → 1 ≤ total (λ x. one (is_failure_of r x)) xs → is_some (last_or o (filter_map (why_in r) xs)) ≡ true
why_said r o [] some = absurd (let wrong : ⊥ = omega (arith, some) in wrong)
why_said r o (x ∷ xs) some = by_why (why_in r x) (is_failure_of r x) (why_of r x) some (why_said r o xs)
  where
    by_why : (w : Option Failure) (b : Bool) → is_some w ≡ b → 1 ≤ one b + total (λ x. one (is_failure_of r x)) xs → (1 ≤ total (λ x. one (is_failure_of r x)) xs → is_some (last_or o (filter_map (why_in r) xs)) ≡ true)
        → is_some (last_or o (cons_option w (filter_map (why_in r) xs))) ≡ true
    by_why None true is some rest = absurd (true≢false (sym is))
    by_why None false is some rest = rest (omega (arith, some))
    by_why (Some w) b is some rest = last_some (Some w) (filter_map (why_in r) xs) refl

-- why a rule failed last is known, where it has
failed_why : (H : List Record) (r : ℕ) → has_failed H r ≡ true → is_some (last_why H r) ≡ true
failed_why H r failed =
    let enough : retries_of H + 1 ≤ failures_of H r = leb-true (retries_of H + 1) (failures_of H r) (failed_by (outs_of H r) (running_in H r) (nat_le (retries_of H + 1) (failures_of H r)) failed) in
    let same : total (λ x. one (is_failure_of r x)) (since_opening H) ≡ failures_of H r = total-is (λ x. one (is_failure_of r x)) (since_opening H) in
    why_said r None (since_opening H) (omega (arith, enough, same))

find_none : (p : ℕ → Bool) (xs : List ℕ) → find p xs ≡ None → list_any p xs ≡ false
find_none p [] none = refl
find_none p (x ∷ xs) none = by_test (p x) none (find_none p xs)
  where
    by_test : (b : Bool) → cond b (Some x) (find p xs) ≡ None → (find p xs ≡ None → list_any p xs ≡ false) → (b || list_any p xs) ≡ false
    by_test true none rest = absurd (true≢false (ap is_some none))
    by_test false none rest = rest none

-- without an answer by a failure no rule has failed
pub none_failed : (P : Plan) (H : List Record) → option_and_then (failed_answer H) (find (has_failed H) (rule_numbers P)) ≡ None → list_any (has_failed H) (rule_numbers P) ≡ false
none_failed P H none = by_found (find (has_failed H) (rule_numbers P)) refl none
  where
    by_why : (r : ℕ) (w : Option Failure) → is_some w ≡ true → option_map_or (λ why. Some (checks.CommandFailed (rule_no r) why)) w None ≡ None → ⊥
    by_why r None some none = true≢false (sym some)
    by_why r (Some w) some none = true≢false (ap is_some none)

    by_found : (o : Option ℕ) → find (has_failed H) (rule_numbers P) ≡ o → option_and_then (failed_answer H) o ≡ None → list_any (has_failed H) (rule_numbers P) ≡ false
    by_found None found none = find_none (has_failed H) (rule_numbers P) found
    by_found (Some r) found none = absurd (by_why r (last_why H r) (failed_why H r (find-passes (has_failed H) (rule_numbers P) r found)) none)

-- where one has failed since the run began, the runner counted a failed command more
pub failed_rose : (P : Plan) (H more all : List Record) (r before now : ℕ) → since_opening H ≡ [] → list_any begins_anew more ≡ false → all ≡ H ++ more → LogsFailures H all before now
    → find (has_failed all) (rule_numbers P) ≡ Some r → before < now
failed_rose P H more all r before now fresh stays are logs found =
    let some : 1 ≤ failed_count (since_opening all) = has_failure all r (find-passes (has_failed all) (rule_numbers P) r found) in
    let since : since_opening all ≡ more = ap since_opening are ∙ since_more H more stays ∙ ap (λ (l : List Record). l ++ more) fresh in
    let behind : failed_count (since_opening all) ≡ failed_count more = ap failed_count since in
    let together : failed_count (H ++ more) ≡ failed_count H + failed_count more = sum_by-append (λ x. cond (is_failed x) 1 0) H more in
    let all_are : failed_count all ≡ failed_count (H ++ more) = ap failed_count are in
    omega (arith, some, behind, together, all_are, logs)

-- a runner that stays sure over two calls
pub sure_then : (mid sure : Type 0) (before first now : ℕ) → StaysSure mid before first → StaysSure sure first now → StaysSure sure before now
sure_then mid sure before first now one two = record { still = two.still; none = two.none ∙ one.none }
