-- The counts of a tally are those of the states of the rules.
use Rattle.std.proofs.Common.{◌≡◌, ◌<◌, ◌+◌, ℕ, suc, Bool, cond, List, [], ◌∷◌, ◌++◌, length, refl, ap, sym, ◌∙◌, arith}
use Rattle.std.specs.Prelude.{count_by, slice_index_or}
use Rattle.std.specs.List.{range_with_len}
use Rattle.std.specs.Fmt.{decimal}
use Rattle.std.proofs.lemmas.List.Sums.{sum_by-cons}
use Rattle.flow_types.specs.declared.plan.Plan.{Plan}
use Rattle.flow_types.specs.declared.records.Record.{Record}
use Rattle.flow_types.specs.Plans.{rule_numbers}
use Rattle.run_history.specs.declared.states.RuleState.{RuleState}
use Rattle.run_history.specs.declared.states.RuleState.TheVariants as rule
use Rattle.run_history.specs.States.{rule_state}
use Rattle.run_history.specs.Storage.{has_failed, is_complete, is_complete_state, is_failed_state, is_running, is_running_state, is_waiting, is_waiting_state}
use Rattle.log_text.specs.declared.tally.Row.{Row}
use Rattle.log_text.specs.declared.tally.Tally.{Tally}
use Rattle.log_text.specs.Lines.{counts_of, field}
use Rattle.log_text.specs.Tallies.{IsTally, Tells, blank_row, count_in, counts_text, row_at, row_in, state_of}
use Rattle.log_text.proofs.Telling.{state-is}

-- 1 where it is so
abbrev bit : Bool → ℕ
bit b = cond b 1 0

count_rows : (p : ℕ → Bool) (q : Row → Bool) (a : ℕ) (rows : List Row) → ((i : ℕ) → i < length rows → p (a + i) ≡ q (slice_index_or rows i blank_row))
    → count_by p (range_with_len a (length rows)) ≡ count_by q rows
count_rows p q a [] same = refl
count_rows p q a (row ∷ rows) same =
    let first : a ≡ a + 0 = omega arith in
    let here : p a ≡ q row = ap p first ∙ same 0 (omega arith) in
    let rest : count_by p (range_with_len (a + 1) (length rows)) ≡ count_by q rows =
    count_rows p q (a + 1) rows (λ i inside. let next : a + 1 + i ≡ a + suc i = omega arith in ap p next ∙ same (suc i) (omega (arith, inside))) in
    let same_bit : bit (p a) ≡ bit (q row) = ap bit here in
    omega (arith, rest, same_bit, sum_by-cons (λ r. cond (p r) 1 0) a (range_with_len (a + 1) (length rows)), sum_by-cons (λ y. cond (q y) 1 0) row rows)

-- so many rules are in such a state as the tally counts
told_count : (test : RuleState → Bool) (P : Plan) (H : List Record) (t : Tally) → IsTally (length P.rules) t → Tells t H
    → count_by (λ r. test (rule_state H r)) (rule_numbers P) ≡ count_in test t.runs t.retries t.rows.items
told_count test P H t is told =
    ap (λ n. count_by (λ r. test (rule_state H r)) (range_with_len 0 n)) (sym is.rows)
    ∙ count_rows (λ r. test (rule_state H r)) (λ row. test (state_of t.retries (row_in t.runs row))) 0 t.rows.items
    (λ i inside. let same : 0 + i ≡ i = omega arith in ap (λ r. test (rule_state H r)) same ∙ ap test (state-is H i t.retries (row_in t.runs (row_at t i)) (told.rows i inside) told.retries))

-- what is printed of the states is what the tally counts
pub counts-told : (P : Plan) (H : List Record) (t : Tally) → IsTally (length P.rules) t → Tells t H → counts_text t.counts (length P.rules) ≡ counts_of P H
counts-told P H t is told =
    ap (λ n. field n ++ field t.counts.running ++ field t.counts.complete ++ field t.counts.failed ++ field 0 ++ decimal (length P.rules)) (is.waiting ∙ sym (told_count is_waiting_state P H t is told))
    ∙ ap (λ n. field (count_by (is_waiting H) (rule_numbers P)) ++ field n ++ field t.counts.complete ++ field t.counts.failed ++ field 0 ++ decimal (length P.rules)) (is.running ∙ sym (told_count is_running_state P H t is told))
    ∙ ap (λ n. field (count_by (is_waiting H) (rule_numbers P)) ++ field (count_by (is_running H) (rule_numbers P)) ++ field n ++ field t.counts.failed ++ field 0 ++ decimal (length P.rules)) (is.complete ∙ sym (told_count is_complete_state P H t is told))
    ∙ ap (λ n. field (count_by (is_waiting H) (rule_numbers P)) ++ field (count_by (is_running H) (rule_numbers P)) ++ field (count_by (is_complete H) (rule_numbers P)) ++ field n ++ field 0 ++ decimal (length P.rules)) (is.failed ∙ sym (told_count is_failed_state P H t is told))

-- each of these rules is in one state
pub states-add : (H : List Record) (rs : List ℕ) → count_by (is_waiting H) rs + count_by (is_running H) rs + count_by (is_complete H) rs + count_by (has_failed H) rs ≡ length rs
states-add H [] = refl
states-add H (r ∷ rs) =
    let here = one_state (rule_state H r) in
    let rest = states-add H rs in
    omega (
      arith,
      here,
      rest,
      sum_by-cons (λ q. bit (is_waiting H q)) r rs,
      sum_by-cons (λ q. bit (is_running H q)) r rs,
      sum_by-cons (λ q. bit (is_complete H q)) r rs,
      sum_by-cons (λ q. bit (has_failed H q)) r rs,
    )
  where
    one_state : (state : RuleState) → bit (is_waiting_state state) + bit (is_running_state state) + bit (is_complete_state state) + bit (is_failed_state state) ≡ 1
    one_state rule.Waiting = refl
    one_state (rule.Running attempt) = refl
    one_state rule.Complete = refl
    one_state rule.Failed = refl
