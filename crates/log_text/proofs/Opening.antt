-- The counts behind an opening: a rule is complete or waits.
use Rattle.std.proofs.Common.{◌≡◌, ◌≤◌, ◌<◌, ◌+◌, ◌-◌, ℕ, suc, Bool, true, false, cond, List, [], ◌∷◌, length, Option, Some, None, refl, ap, sym, ◌∙◌, arith}
use Rattle.std.specs.Prelude.{◌==◌, count_by, slice_index_or}
use Rattle.std.proofs.lemmas.Bool.{eqb-true, lt-leb}
use Rattle.std.proofs.lemmas.List.Sums.{sum_by-cons}
use Rattle.flow_types.specs.declared.numbers.AttemptNo.{AttemptNo}
use Rattle.run_history.specs.declared.states.RuleState.{RuleState}
use Rattle.run_history.specs.declared.states.RuleState.TheVariants as rule
use Rattle.run_history.specs.Storage.{is_complete_state, is_waiting_state}
use Rattle.log_text.specs.declared.tally.Row.{Row}
use Rattle.log_text.specs.Tallies.{blank_row, count_in, open_state, row_in, state_of}
use Rattle.log_text.proofs.Telling.{done-is, row-earlier}

-- the state of a rule of which no run says more than whether it is done
abbrev bare_state : Row → RuleState
bare_state row = cond row.done rule.Complete rule.Waiting

-- 1 where it is so
abbrev bit : Bool → ℕ
bit b = cond b 1 0

later : (a b : ℕ) → a < b → (a == b) ≡ false
later a b less = by_test (a == b) refl
  where
    by_test : (c : Bool) → (a == b) ≡ c → c ≡ false
    by_test true same = let is = eqb-true a b same in absurd (let wrong : ⊥ = omega (arith, less, is) in wrong)
    by_test false other = refl

opened_state : (run given : ℕ) (row : Row) → row.run ≤ run → state_of given (row_in (run + 1) row) ≡ bare_state row
opened_state run given row le =
    ap (state_of given) (row-earlier (run + 1) row (later row.run (run + 1) (omega (arith, le))))
    ∙ ap (λ b. cond row.done rule.Complete (open_state None b)) (lt-leb (given + 1) 0 (omega arith))

count_same : (p q : Row → Bool) (rows : List Row) → ((i : ℕ) → p (slice_index_or rows i blank_row) ≡ q (slice_index_or rows i blank_row)) → count_by p rows ≡ count_by q rows
count_same p q [] same = refl
count_same p q (row ∷ rows) same =
    let here : bit (p row) ≡ bit (q row) = ap bit (same 0) in
    let rest : count_by p rows ≡ count_by q rows = count_same p q rows (λ i. same (suc i)) in
    omega (arith, here, rest, sum_by-cons (λ y. cond (p y) 1 0) row rows, sum_by-cons (λ y. cond (q y) 1 0) row rows)

-- each count behind an opening
opened_count : (test : RuleState → Bool) (run given : ℕ) (rows : List Row) → ((i : ℕ) → (slice_index_or rows i blank_row).run ≤ run)
    → count_in test (run + 1) given rows ≡ count_by (λ row. test (bare_state row)) rows
opened_count test run given rows le =
    count_same (λ row. test (state_of given (row_in (run + 1) row))) (λ row. test (bare_state row)) rows
    (λ i. ap test (opened_state run given (slice_index_or rows i blank_row) (le i)))

bare_complete : (done : Bool) → is_complete_state (cond done rule.Complete rule.Waiting) ≡ done
bare_complete true = refl
bare_complete false = refl

complete_by : (done : Bool) (running : Option AttemptNo) (failed : Bool) → is_complete_state (cond done rule.Complete (open_state running failed)) ≡ done
complete_by true running failed = refl
complete_by false (Some attempt) failed = refl
complete_by false None true = refl
complete_by false None false = refl

-- as many are complete as before
pub opened-complete : (run retries given : ℕ) (rows : List Row) → ((i : ℕ) → (slice_index_or rows i blank_row).run ≤ run)
    → count_in is_complete_state run retries rows ≡ count_in is_complete_state (run + 1) given rows
opened-complete run retries given rows le =
    count_same (λ row. is_complete_state (state_of retries (row_in run row))) (λ row. is_complete_state (bare_state row)) rows
    (λ i. let row : Row = slice_index_or rows i blank_row in complete_by (row_in run row).done (row_in run row).running _ ∙ done-is run row ∙ sym (bare_complete row.done))
    ∙ sym (opened_count is_complete_state run given rows le)

none_by : (test : RuleState → Bool) (rows : List Row) → test rule.Complete ≡ false → test rule.Waiting ≡ false → count_by (λ row. test (bare_state row)) rows ≡ 0
none_by test [] complete waits = refl
none_by test (row ∷ rows) complete waits =
    let here : bit (test (bare_state row)) ≡ 0 = by_done row.done in
    let rest : count_by (λ y. test (bare_state y)) rows ≡ 0 = none_by test rows complete waits in
    omega (arith, here, rest, sum_by-cons (λ y. cond (test (bare_state y)) 1 0) row rows)
  where
    by_done : (done : Bool) → bit (test (cond done rule.Complete rule.Waiting)) ≡ 0
    by_done true = ap bit complete
    by_done false = ap bit waits

-- none is in a state other than these two
pub opened-none : (test : RuleState → Bool) (run given : ℕ) (rows : List Row) → test rule.Complete ≡ false → test rule.Waiting ≡ false
    → ((i : ℕ) → (slice_index_or rows i blank_row).run ≤ run) → 0 ≡ count_in test (run + 1) given rows
opened-none test run given rows complete waits le = sym (opened_count test run given rows le ∙ none_by test rows complete waits)

all_by : (rows : List Row) → count_by (λ row. is_waiting_state (bare_state row)) rows + count_by (λ row. is_complete_state (bare_state row)) rows ≡ length rows
all_by [] = refl
all_by (row ∷ rows) =
    let here : bit (is_waiting_state (bare_state row)) + bit (is_complete_state (bare_state row)) ≡ 1 = by_done row.done in
    let rest = all_by rows in
    omega (arith, here, rest, sum_by-cons (λ y. cond (is_waiting_state (bare_state y)) 1 0) row rows, sum_by-cons (λ y. cond (is_complete_state (bare_state y)) 1 0) row rows)
  where
    by_done : (done : Bool) → bit (is_waiting_state (cond done rule.Complete rule.Waiting)) + bit (is_complete_state (cond done rule.Complete rule.Waiting)) ≡ 1
    by_done true = refl
    by_done false = refl

-- all others wait
pub opened-waiting : (run retries given n complete : ℕ) (rows : List Row) → ((i : ℕ) → (slice_index_or rows i blank_row).run ≤ run)
    → n ≡ length rows → complete ≡ count_in is_complete_state run retries rows → n - complete ≡ count_in is_waiting_state (run + 1) given rows
opened-waiting run retries given n complete rows le as_long is =
    let waits : count_in is_waiting_state (run + 1) given rows ≡ count_by (λ row. is_waiting_state (bare_state row)) rows = opened_count is_waiting_state run given rows le in
    let done : count_in is_complete_state (run + 1) given rows ≡ count_by (λ row. is_complete_state (bare_state row)) rows = opened_count is_complete_state run given rows le in
    omega (arith, waits, done, all_by rows, opened-complete run retries given rows le, as_long, is)
