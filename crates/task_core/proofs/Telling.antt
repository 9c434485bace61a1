-- What is kept of the rules answers as the table knows it.
use Rattle.std.proofs.Common.{◌≡◌, ℕ, zero, suc, ◌+◌, ◌<◌, ◌≤◌, ◌∙◌, Bool, true, false, cond, not, ◌&&◌, Option, Some, None, List, [], ◌∷◌, length, map, refl, ap, sym, arith}
use Rattle.std.specs.Prelude.{◌==◌, All, count_by, filter, find, nat_le, slice_index_or}
use Rattle.std.specs.List.{list_all, range_with_len}
use Rattle.std.proofs.lemmas.Bool.{eq-eqb, eqb-true, eqb-false, false_from_ne_true}
use Rattle.std.proofs.lemmas.List.Sums.{length-filter, sum_by-cons}
use Rattle.std.proofs.lemmas.List.{length-map}
use Rattle.flow_types.specs.declared.numbers.RuleNo.{RuleNo}
use Rattle.flow_types.specs.Plans.{most_rules, numbers, takes}
use Rattle.run_history.specs.Storage.{is_waiting_state}
use Rattle.ready_rules.specs.declared.shelf.Weight.{Weight}
use Rattle.ready_rules.specs.Lines.{Line, number}
use Rattle.ready_rules.specs.Pendings.{is_ready, lacks_of, least_ready, taken_by, with_bytes, bytes_of}
use Rattle.ready_rules.specs.Shelves.{is_under, number_in as number_of}
use Rattle.ready_rules.proofs.Filtering.{find-same}
use Rattle.rule_progress.specs.Progress.{Progressing, need_of}
use Rattle.rule_progress.proofs.Coming.{listed-inside, passing-inside}
use Rattle.task_core.proofs.Choosing.{head, head-find}
use Rattle.task_core.specs.Accounts.{IsProgressOf}
use Rattle.task_core.specs.Asked.{is_candidate, least_candidate, taken_of}
use Rattle.task_core.specs.Known.{Known, can_start, is_done, is_lost_rule, is_there, number_in, rules_of, running, runs_now}

abbrev lacking : Bool → ℕ
lacking b = cond (not b) 1 0

-- none of them is counted exactly where all pass
none-counted : (p : ℕ → Bool) (xs : List ℕ) → (count_by (λ x. not (p x)) xs == 0) ≡ list_all p xs
none-counted p [] = refl
none-counted p (x ∷ xs) = by_test (p x) refl (none-counted p xs)
  where
    by_test : (b : Bool) → p x ≡ b → (count_by (λ y. not (p y)) xs == 0) ≡ list_all p xs → (count_by (λ y. not (p y)) (x ∷ xs) == 0) ≡ (p x && list_all p xs)
    by_test true is rest =
        let here : lacking (p x) ≡ 0 = ap lacking is in
        let sum : count_by (λ y. not (p y)) (x ∷ xs) ≡ count_by (λ y. not (p y)) xs = sum_by-cons (λ y. lacking (p y)) x xs ∙ (let same : lacking (p x) + count_by (λ y. not (p y)) xs ≡ count_by (λ y. not (p y)) xs = omega (arith, here) in same) in
        ap (λ n. n == 0) sum ∙ rest ∙ sym (ap (λ b. b && list_all p xs) is)
    by_test false is rest =
        let here : lacking (p x) ≡ 1 = ap lacking is in
        let sum : count_by (λ y. not (p y)) (x ∷ xs) ≡ lacking (p x) + count_by (λ y. not (p y)) xs = sum_by-cons (λ y. lacking (p y)) x xs in
        false_from_ne_true (count_by (λ y. not (p y)) (x ∷ xs) == 0) (λ zero_is. let none : count_by (λ y. not (p y)) (x ∷ xs) ≡ 0 = eqb-true (count_by (λ y. not (p y)) (x ∷ xs)) 0 zero_is in let wrong : ⊥ = omega (arith, none, sum, here) in wrong)
        ∙ sym (ap (λ b. b && list_all p xs) is)

-- a rule is ready exactly where it can start
pub ready-is : (K : Known) (V : Progressing) (r : ℕ) → r < length K.plan.rules → IsProgressOf K V → is_ready V.pending r ≡ can_start K r
ready-is K V r inside is =
    ap (λ b. b && (lacks_of V.pending r == 0)) (is.rules.waits r inside) ∙ ap (λ n. is_waiting_state (K.rules r) && (n == 0)) (is.inputs.lacks r) ∙ ap (λ b. is_waiting_state (K.rules r) && b) (none-counted (is_there K) (takes K.plan r))

-- what a rule takes
taken-is : (K : Known) (V : Progressing) (r : ℕ) → r < length K.plan.rules → IsProgressOf K V → taken_by V.pending r ≡ taken_of K r
taken-is K V r inside is = ap (λ (w : Weight). with_bytes w (bytes_of V.pending r)) (is.rules.needs r inside) ∙ ap (with_bytes (need_of K.plan K.options r)) (is.inputs.bytes r)

number-same : (found : Option RuleNo) → number_of found ≡ number_in found
number-same None = refl
number-same (Some rule) = refl

-- the least that can start and is under the limits
pub least-is : (K : Known) (V : Progressing) (from : ℕ) (limits : Weight) (found : Option RuleNo) → IsProgressOf K V → number_of found ≡ least_ready V.pending from limits → number_in found ≡ least_candidate K from limits
least-is K V from limits found is least =
    sym (number-same found) ∙ least ∙ ap (λ n. find (λ r. nat_le from r && (is_ready V.pending r && is_under limits (taken_by V.pending r))) (numbers n)) is.rules.rules
    ∙ find-same (λ r. nat_le from r && (is_ready V.pending r && is_under limits (taken_by V.pending r))) (λ r. nat_le from r && is_candidate K limits r) 0 (length K.plan.rules)
    (λ r low high.
    let inside : r < length K.plan.rules = omega (arith, high) in
    ap (λ b. nat_le from r && (b && is_under limits (taken_by V.pending r))) (ready-is K V r inside is) ∙ ap (λ w. nat_le from r && (can_start K r && is_under limits w)) (taken-is K V r inside is))

-- the rules that run
pub running-is : (K : Known) (V : Progressing) (rules : List RuleNo) → IsProgressOf K V → map number rules ≡ V.running.numbers → map number rules ≡ running K
running-is K V rules is read = read ∙ ap (λ (l : Line). l.numbers) is.running

-- they are rules of the plan
pub running-inside : (K : Known) (rules : List RuleNo) → map number rules ≡ running K → All (λ (rule : RuleNo). rule.0 < length K.plan.rules) rules
running-inside K rules read k d less =
    listed-inside rules (running K) (length K.plan.rules) read (λ r stands. passing-inside K.plan (runs_now K) r (length K.plan.rules) refl stands) k d (omega arith) less

pub filter-few : (p : ℕ → Bool) (a n : ℕ) → length (filter p (range_with_len a n)) ≤ n
filter-few p a zero = omega arith
filter-few p a (suc n) = by_test (p a) refl (filter-few p (a + 1) n)
  where
    by_test : (b : Bool) → p a ≡ b → length (filter p (range_with_len (a + 1) n)) ≤ n → length (filter p (range_with_len a (suc n))) ≤ suc n
    by_test true is rest = let here : length (filter p (range_with_len a (suc n))) ≡ suc (length (filter p (range_with_len (a + 1) n))) = ap (λ c. length (cond c (a ∷ filter p (range_with_len (a + 1) n)) (filter p (range_with_len (a + 1) n)))) is in omega (arith, here, rest)
    by_test false is rest = let here : length (filter p (range_with_len a (suc n))) ≡ length (filter p (range_with_len (a + 1) n)) = ap (λ c. length (cond c (a ∷ filter p (range_with_len (a + 1) n)) (filter p (range_with_len (a + 1) n)))) is in omega (arith, here, rest)

-- and few
pub running-few : (K : Known) (rules : List RuleNo) → map number rules ≡ running K → length K.plan.rules ≤ most_rules → length rules ≤ most_rules
running-few K rules read few =
    let long : length rules ≡ length (running K) = sym (length-map rules number) ∙ ap length read in
    omega (arith, long, few, filter-few (runs_now K) 0 (length K.plan.rules))

pub running-count : (K : Known) (rules : List RuleNo) → map number rules ≡ running K → length rules ≡ length (running K)
running-count K rules read = sym (length-map rules number) ∙ ap length read

-- the first of those that pass
pub first-none : (p : ℕ → Bool) (xs : List ℕ) (rules : List RuleNo) → map number rules ≡ filter p xs → length rules < 1 → find p xs ≡ None
first-none p xs [] are none = sym (head-find p xs) ∙ sym (ap head are)
first-none p xs (x ∷ rules) are none = absurd (let wrong : ⊥ = omega (arith, none) in wrong)

pub first-some : (p : ℕ → Bool) (xs : List ℕ) (rules : List RuleNo) (d : RuleNo) → map number rules ≡ filter p xs → 1 ≤ length rules → find p xs ≡ Some (slice_index_or rules 0 d).0
first-some p xs [] d are some = absurd (let wrong : ⊥ = omega (arith, some) in wrong)
first-some p xs (x ∷ rules) d are some = sym (head-find p xs) ∙ sym (ap head are)

-- the rules that have failed
pub failed-is : (K : Known) (V : Progressing) (rules : List RuleNo) → IsProgressOf K V → map number rules ≡ V.failed.numbers → map number rules ≡ filter (is_lost_rule K) (rules_of K)
failed-is K V rules is read = read ∙ ap (λ (l : Line). l.numbers) is.failed

eq_next : (m n : ℕ) → (suc m == suc n) ≡ (m == n)
eq_next m n = by_test (m == n) refl
  where
    by_test : (b : Bool) → (m == n) ≡ b → (suc m == suc n) ≡ (m == n)
    by_test true is = eq-eqb (suc m) (suc n) (ap suc (eqb-true m n is)) ∙ sym is
    by_test false is = false_from_ne_true (suc m == suc n) (λ same. let wrong : ⊥ = (let next : suc m ≡ suc n = eqb-true (suc m) (suc n) same in let apart : m ≡ n → ⊥ = eqb-false m n is in apart (omega (arith, next))) in wrong) ∙ sym is

-- all pass where as many pass as there are
all_pass : (p : ℕ → Bool) (a n : ℕ) → (length (filter p (range_with_len a n)) == n) ≡ list_all p (range_with_len a n)
all_pass p a zero = refl
all_pass p a (suc n) = by_test (p a) refl (all_pass p (a + 1) n)
  where
    by_test : (b : Bool) → p a ≡ b → (length (filter p (range_with_len (a + 1) n)) == n) ≡ list_all p (range_with_len (a + 1) n) → (length (filter p (range_with_len a (suc n))) == suc n) ≡ (p a && list_all p (range_with_len (a + 1) n))
    by_test true is rest =
        ap (λ c. length (cond c (a ∷ filter p (range_with_len (a + 1) n)) (filter p (range_with_len (a + 1) n))) == suc n) is ∙ eq_next (length (filter p (range_with_len (a + 1) n))) n ∙ rest ∙ sym (ap (λ c. c && list_all p (range_with_len (a + 1) n)) is)
    by_test false is rest =
        ap (λ c. length (cond c (a ∷ filter p (range_with_len (a + 1) n)) (filter p (range_with_len (a + 1) n))) == suc n) is
        ∙ false_from_ne_true (length (filter p (range_with_len (a + 1) n)) == suc n) (λ same. let wrong : ⊥ = (let long : length (filter p (range_with_len (a + 1) n)) ≡ suc n = eqb-true (length (filter p (range_with_len (a + 1) n))) (suc n) same in omega (arith, long, filter-few p (a + 1) n)) in wrong)
        ∙ sym (ap (λ c. c && list_all p (range_with_len (a + 1) n)) is)

-- as many rules are complete as were counted
pub done-all : (K : Known) (V : Progressing) → IsProgressOf K V → (V.done == length K.plan.rules) ≡ list_all (is_done K) (rules_of K)
done-all K V is = ap (λ n. n == length K.plan.rules) is.done ∙ all_pass (is_done K) 0 (length K.plan.rules)

pub done-counted : (K : Known) (V : Progressing) → IsProgressOf K V → V.done ≡ count_by (is_done K) (rules_of K)
done-counted K V is = is.done ∙ length-filter (is_done K) (rules_of K)

pub no-number : (found : Option RuleNo) → ((rule : RuleNo) → found ≡ Some rule → ⊥) → number_in found ≡ None
no-number None none = refl
no-number (Some rule) none = absurd (none rule refl)
