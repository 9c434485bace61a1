-- What records that begin no run leave of the last opening.
use Rattle.std.proofs.Common.{◌≡◌, ◌≤◌, ◌<◌, ◌+◌, ◌∙◌, ℕ, Bool, true, false, cond, not, ◌&&◌, List, [], ◌∷◌, ◌++◌, length, Option, Some, None, refl, sym, ap, arith, append_assoc, length-append, true≢false}
use Rattle.std.specs.Prelude.{◌==◌, count_by, is_some}
use Rattle.std.specs.List.{list_all, list_any}
use Rattle.std.specs.Option.{option_map_or}
use Rattle.std.proofs.lemmas.Bool.{eqb-true, le-leb, or_parts}
use Rattle.std.proofs.lemmas.List.{append-nil}
use Rattle.flow_types.specs.declared.plan.Plan.{Plan}
use Rattle.flow_types.specs.declared.numbers.Content.{Content}
use Rattle.flow_types.specs.declared.numbers.AttemptNo.{AttemptNo}
use Rattle.flow_types.specs.declared.numbers.FileNo.{FileNo}
use Rattle.flow_types.specs.declared.numbers.RuleNo.{RuleNo}
use Rattle.flow_types.specs.declared.records.Record.{Record}
use Rattle.flow_types.specs.declared.records.Record.TheVariants as records
use Rattle.flow_types.specs.Plans.{is_empty, rule_numbers}
use Rattle.flow_types.proofs.Totals.{at_place, place-inside, total, total-is, total-take}
use Rattle.run_history.specs.History.{is_cleaned, is_end, is_opening, since_opening}
use Rattle.run_history.specs.States.{limit_in, limit_of, outs_in, outs_of}
use Rattle.run_history.specs.Storage.{is_complete, is_free, running_rules}
use Rattle.run_history.specs.Legal.{has_places, most_records}
use Rattle.run_history.specs.Answers.{has_ended}
use Rattle.run_history.proofs.Steps.{complete-is, limit-push, outs-push, since-push}
use Rattle.task_core.proofs.Standing.{ended-same}
use Rattle.local_run.specs.Completing.{HasRecordRoom}
use Rattle.local_run.specs.Course.{begins_anew}
use Rattle.local_run.specs.Ends.{IsFresh, left_count, records_due}
use Rattle.local_run.proofs.Collecting.{drops_drop, drops_few, drops_less}

-- an opening says nothing of a rule, and a record that is none says nothing of the limit
limit_none : (x : Record) → is_opening x ≡ false → limit_in x ≡ None
limit_none (records.Opened moment run retries limit plan sources) other = absurd (true≢false other)
limit_none (records.Resumed moment run retries limit) other = absurd (true≢false other)
limit_none (records.Started moment rule attempt link) other = refl
limit_none (records.Done moment rule attempt outs) other = refl
limit_none (records.Failed moment rule attempt why) other = refl
limit_none (records.Lost moment rule attempt) other = refl
limit_none (records.Dropped moment file) other = refl
limit_none (records.Ended moment kind) other = refl

pub since_more : (H more : List Record) → list_any begins_anew more ≡ false → since_opening (H ++ more) ≡ since_opening H ++ more
since_more H [] none = ap since_opening (append-nil H) ∙ sym (append-nil (since_opening H))
since_more H (x ∷ xs) none =
    let parts = or_parts (begins_anew x) (list_any begins_anew xs) none in
    let both = or_parts (is_opening x) (is_cleaned x) parts.0 in
    ap since_opening (sym (append_assoc H (x ∷ []) xs))
    ∙ since_more (H ++ (x ∷ [])) xs parts.1
    ∙ ap (λ (l : List Record). l ++ xs) (since-push H x both.1 ∙ ap (λ (b : Bool). cond b [] (since_opening H ++ (x ∷ []))) both.0)
    ∙ append_assoc (since_opening H) (x ∷ []) xs

pub limit_more : (H more : List Record) → list_any begins_anew more ≡ false → limit_of (H ++ more) ≡ limit_of H
limit_more H [] none = ap limit_of (append-nil H)
limit_more H (x ∷ xs) none =
    let parts = or_parts (begins_anew x) (list_any begins_anew xs) none in
    let both = or_parts (is_opening x) (is_cleaned x) parts.0 in
    ap limit_of (sym (append_assoc H (x ∷ []) xs))
    ∙ limit_more (H ++ (x ∷ [])) xs parts.1
    ∙ limit-push H x both.1 ∙ ap (λ (o : Option (Option ℕ)). option_map_or (λ limit. limit) o (limit_of H)) (limit_none x both.0)

-- behind an opening with this limit
pub fresh_opened : (H : List Record) (x : Record) (limit : Option ℕ) → is_cleaned x ≡ false → is_opening x ≡ true → limit_in x ≡ Some limit → IsFresh limit (H ++ (x ∷ []))
fresh_opened H x limit more opens says = record {
  since = since-push H x more ∙ ap (λ (b : Bool). cond b [] (since_opening H ++ (x ∷ []))) opens;
  limited = limit-push H x more ∙ ap (λ (o : Option (Option ℕ)). option_map_or (λ limit. limit) o (limit_of H)) says;
}

pub fresh_unended : (limit : Option ℕ) (H : List Record) → IsFresh limit H → has_ended H ≡ false
fresh_unended limit H fresh = ap (list_any is_end) fresh.since

-- a record that ends or begins no run
pub unended_by : (H all : List Record) (x : Record) → all ≡ H ++ (x ∷ []) → is_cleaned x ≡ false → is_opening x ≡ false → is_end x ≡ false → has_ended H ≡ false → has_ended all ≡ false
unended_by H all x are more stays goes unended = ap has_ended are ∙ ended-same H x more stays goes ∙ unended

-- ---- records and rules that aren't complete

complete_same : (H : List Record) (x : Record) (r : ℕ) → is_cleaned x ≡ false → outs_in r x ≡ None → is_complete (H ++ (x ∷ [])) r ≡ is_complete H r
complete_same H x r more none =
    complete-is (H ++ (x ∷ [])) r ∙ ap is_some (outs-push H x r more ∙ ap (λ (o : Option (List Content)). option_map_or Some o (outs_of H r)) none) ∙ sym (complete-is H r)

left_same : (P : Plan) (H : List Record) (x : Record) → is_cleaned x ≡ false → ((r : ℕ) → outs_in r x ≡ None) → left_count P (H ++ (x ∷ [])) ≡ left_count P H
left_same P H x more none = ap (λ (p : ℕ → Bool). count_by p (rule_numbers P)) (λ i r. not ((complete_same H x r more (none r)) i))

-- a record that says nothing of outputs
pub due_more : (P : Plan) (H : List Record) (x : Record) → is_cleaned x ≡ false → ((r : ℕ) → outs_in r x ≡ None) → records_due P (H ++ (x ∷ [])) ≤ records_due P H + 1
due_more P H x more none = let long = length-append H (x ∷ []) in let same = left_same P H x more none in let less = drops_less P H x more in omega (arith, long, same, less)

-- the drop of a free file was due
pub due_dropped : (P : Plan) (H : List Record) (moment : ℕ) (f : FileNo) → is_free P H f.0 ≡ true → records_due P (H ++ (records.Dropped moment f ∷ [])) ≤ records_due P H
due_dropped P H moment f free =
    let x : Record = records.Dropped moment f in
    let long = length-append H (x ∷ []) in let same = left_same P H x refl (λ r. refl) in let fewer = drops_drop P H moment f free in omega (arith, long, same, fewer)

-- one for each rule that isn't complete
abbrev one : Bool → ℕ
one b = cond b 1 0

done_by : (H : List Record) (moment : ℕ) (rule : RuleNo) (attempt : AttemptNo) (outs : List Content) (r : ℕ) (b : Bool) → (rule.0 == r) ≡ b → is_complete H rule.0 ≡ false
    → one (not (is_complete (H ++ (records.Done moment rule attempt outs ∷ [])) r)) + cond b 1 0 ≤ one (not (is_complete H r))
done_by H moment rule attempt outs r true same before =
    let x : Record = records.Done moment rule attempt outs in
    let now : is_complete (H ++ (x ∷ [])) r ≡ true =
    complete-is (H ++ (x ∷ [])) r ∙ ap is_some (outs-push H x r refl) ∙ ap (λ (b : Bool). is_some (option_map_or Some (cond b (Some outs) None) (outs_of H r))) same in
    let after : one (not (is_complete (H ++ (x ∷ [])) r)) ≡ 0 = ap (λ (b : Bool). one (not b)) now in
    let was : one (not (is_complete H r)) ≡ 1 = ap (λ (b : Bool). one (not b)) (ap (is_complete H) (sym (eqb-true rule.0 r same)) ∙ before) in
    omega (arith, after, was)
done_by H moment rule attempt outs r false other before =
    let x : Record = records.Done moment rule attempt outs in
    let stays : one (not (is_complete (H ++ (x ∷ [])) r)) ≡ one (not (is_complete H r)) =
    ap (λ (b : Bool). one (not b)) (complete_same H x r refl (ap (λ (b : Bool). cond b (Some outs) None) other)) in
    omega (arith, stays)

left_done : (P : Plan) (H : List Record) (moment : ℕ) (rule : RuleNo) (attempt : AttemptNo) (outs : List Content) → rule.0 < length P.rules → is_complete H rule.0 ≡ false
    → left_count P (H ++ (records.Done moment rule attempt outs ∷ [])) + 1 ≤ left_count P H
left_done P H moment rule attempt outs inside before =
    let x : Record = records.Done moment rule attempt outs in
    let le : total (λ r. one (not (is_complete (H ++ (x ∷ [])) r))) (rule_numbers P) + total (at_place 1 rule.0) (rule_numbers P) ≤ total (λ r. one (not (is_complete H r))) (rule_numbers P) =
    total-take (λ r. one (not (is_complete (H ++ (x ∷ [])) r))) (λ r. one (not (is_complete H r))) (at_place 1 rule.0) (rule_numbers P)
    (λ r. done_by H moment rule attempt outs r (rule.0 == r) refl before) in
    let after : total (λ r. one (not (is_complete (H ++ (x ∷ [])) r))) (rule_numbers P) ≡ left_count P (H ++ (x ∷ [])) = total-is (λ r. one (not (is_complete (H ++ (x ∷ [])) r))) (rule_numbers P) in
    let was : total (λ r. one (not (is_complete H r))) (rule_numbers P) ≡ left_count P H = total-is (λ r. one (not (is_complete H r))) (rule_numbers P) in
    omega (arith, le, after, was, place-inside 1 rule.0 0 (length P.rules) (omega arith) (omega (arith, inside)))

-- a rule that is done
pub due_done : (P : Plan) (H all : List Record) (moment : ℕ) (rule : RuleNo) (attempt : AttemptNo) (outs : List Content) → all ≡ H ++ (records.Done moment rule attempt outs ∷ []) → rule.0 < length P.rules
    → is_complete H rule.0 ≡ false → records_due P all + 1 ≤ records_due P H
due_done P H all moment rule attempt outs are inside before =
    let x : Record = records.Done moment rule attempt outs in
    let same : records_due P all ≡ records_due P (H ++ (x ∷ [])) = ap (records_due P) are in
    let fewer = left_done P H moment rule attempt outs inside before in
    let long = length-append H (x ∷ []) in
    let less = drops_less P H x refl in
    omega (arith, same, fewer, long, less)

some_left : (p : ℕ → Bool) (xs : List ℕ) → list_all p xs ≡ false → 1 ≤ total (λ r. one (not (p r))) xs
some_left p [] not_all = absurd (true≢false not_all)
some_left p (x ∷ xs) not_all = by_test (p x) not_all (some_left p xs)
  where
    by_test : (b : Bool) → (b && list_all p xs) ≡ false → (list_all p xs ≡ false → 1 ≤ total (λ r. one (not (p r))) xs) → 1 ≤ one (not b) + total (λ r. one (not (p r))) xs
    by_test true is rest = let more = rest is in omega (arith, more)
    by_test false is rest = omega arith

-- where some rule isn't complete the log still has places
pub places_left : (P : Plan) (H : List Record) → length (running_rules P H) ≤ 0 → list_all (is_complete H) (rule_numbers P) ≡ false → records_due P H + 1 ≤ most_records → has_places P H 2 ≡ true
places_left P H idle some few =
    let left = some_left (is_complete H) (rule_numbers P) some in
    let are : total (λ r. one (not (is_complete H r))) (rule_numbers P) ≡ left_count P H = total-is (λ r. one (not (is_complete H r))) (rule_numbers P) in
    le-leb (length H + length (running_rules P H) + 1 + 2) most_records (omega (arith, left, are, idle, few))

-- and where a file is free it has one for its drop
pub drop_place : (P : Plan) (H : List Record) (f : ℕ) → length (running_rules P H) ≤ 0 → is_free P H f ≡ true → records_due P H + 1 ≤ most_records → has_places P H 1 ≡ true
drop_place P H f idle free few =
    let fewer = drops_drop P H 0 (record { 0 = f }) free in
    le-leb (length H + length (running_rules P H) + 1 + 1) most_records (omega (arith, fewer, idle, few))

-- a list without items
pub empty_from : (xs : List ℕ) → length xs ≤ 0 → is_empty xs ≡ true
empty_from [] le = refl
empty_from (x ∷ xs) le = absurd (let wrong : ⊥ = omega (arith, le) in wrong)

-- a log with room for a run has it still behind the opening
pub has_room_due : (P : Plan) (H : List Record) (due : ℕ) → due ≤ records_due P H + 1 → HasRecordRoom P H → due + 1 ≤ most_records
has_room_due P H due is room = let few = drops_few P H in omega (arith, is, room, few)
