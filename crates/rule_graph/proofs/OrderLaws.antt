-- The serial order is an order of the rules, each once.
use Rattle.std.proofs.Common.{◌≡◌, ℕ, zero, suc, ◌+◌, ◌<◌, ◌≤◌, Bool, true, false, cond, not, ◌&&◌, ◌||◌, List, [], ◌∷◌, ◌++◌, length, Option, Some, None, refl, ap, sym, ◌∙◌, arith, subst}
use Rattle.std.specs.Prelude.{◌==◌, nat_lt, find, filter, map}
use Rattle.std.specs.List.{list_any, list_all, range_with_len}
use Rattle.std.specs.Option.{option_map_or}
use Rattle.std.proofs.lemmas.Bool.{and_parts, and_from, or_left, or_right, eqb-true, eq-eqb, lt-ltb, not-true, not-false, not_from_false, false_from_ne_true, true_from_ne_false, true≢false}
use Rattle.std.proofs.lemmas.List.Folds.{list_any-append, list_all-append}
use Rattle.flow_types.specs.declared.plan.Plan.{Plan}
use Rattle.flow_types.specs.Plans.{IsValid, is_order, is_made_before, all_pairs, takes, makes, is_source, contains_number, rule_numbers}
use Rattle.flow_types.specs.Serial.{is_made, can_take, next_rule, order_from, serial_order}
use Rattle.flow_types.proofs.SerialRun.{IsRun, order-run, all_in_range}
use Rattle.flow_types.proofs.Orders.{every-rule-taken}
use Rattle.rule_graph.specs.Cycles.{left_over, loop_among}
use Rattle.rule_graph.specs.Faults.{cycle}
use Rattle.rule_graph.specs.Flows.{rule_no}
use Rattle.rule_graph.specs.declared.faults.GraphFault.TheVariants as faults
use Rattle.rule_graph.specs.Laws.{IsSerialOrder}

all_same : (p q : ℕ → Bool) (xs : List ℕ) → ((x : ℕ) → p x ≡ q x) → list_all p xs ≡ list_all q xs
all_same p q [] same = refl
all_same p q (x ∷ xs) same = ap (λ b. b && list_all p xs) (same x) ∙ ap (λ b. q x && b) (all_same p q xs same)

or_assoc : (a b c : Bool) → ((a || b) || c) ≡ (a || (b || c))
or_assoc true b c = refl
or_assoc false b c = refl

or_none : (b : Bool) → (b || false) ≡ b
or_none true = refl
or_none false = refl

-- each rule of a run takes in only sources and what was made before it
run_made : (P : Plan) (before made rest : List ℕ) → ((f : ℕ) → contains_number f made ≡ list_any (λ t. contains_number f (makes P t)) before)
    → IsRun P before rest → is_made_before P made rest ≡ true
run_made P before made [] same run = refl
run_made P before made (r ∷ rs) same run =
    let can = and_parts (not (contains_number r before)) (list_all (is_made P before) (takes P r)) run.0 in
    and_from _ _
    (all_same (λ f. is_source P f || contains_number f made) (is_made P before) (takes P r) (λ f. ap (λ b. is_source P f || b) (same f)) ∙ can.1)
    (run_made P (before ++ (r ∷ [])) (made ++ makes P r) rs
    (λ f.
    list_any-append (λ y. y == f) made (makes P r)
    ∙ ap (λ b. b || contains_number f (makes P r)) (same f)
    ∙ ap (λ b. list_any (λ t. contains_number f (makes P t)) before || b) (sym (or_none (contains_number f (makes P r))))
    ∙ sym (list_any-append (λ t. contains_number f (makes P t)) before (r ∷ [])))
    run.1)

-- a rule that is taken isn't taken again
run_fresh : (P : Plan) (before rest : List ℕ) (x : ℕ) → contains_number x before ≡ true → IsRun P before rest → list_all (λ s. not (x == s)) rest ≡ true
run_fresh P before [] x some run = refl
run_fresh P before (r ∷ rs) x some run =
    let can = and_parts (not (contains_number r before)) (list_all (is_made P before) (takes P r)) run.0 in
    let fresh : contains_number r before ≡ false = not-true (contains_number r before) can.0 in
    and_from _ _
    (not_from_false (x == r) (false_from_ne_true (x == r) (λ same. true≢false (sym some ∙ ap (λ k. contains_number k before) (eqb-true x r same) ∙ fresh))))
    (run_fresh P (before ++ (r ∷ [])) rs x (list_any-append (λ y. y == x) before (r ∷ []) ∙ or_left (contains_number x before) (list_any (λ y. y == x) (r ∷ [])) some) run.1)

run_once : (P : Plan) (before rest : List ℕ) → IsRun P before rest → all_pairs (λ r s. not (r == s)) rest ≡ true
run_once P before [] run = refl
run_once P before (r ∷ rs) run =
    and_from _ _
    (run_fresh P (before ++ (r ∷ [])) rs r
    (list_any-append (λ y. y == r) before (r ∷ []) ∙ or_right (contains_number r before) (list_any (λ y. y == r) (r ∷ [])) (or_left (r == r) false (eq-eqb r r refl))) run.1)
    (run_once P (before ++ (r ∷ [])) rs run.1)

-- what is found in a range lies below its end
found_below : (p : ℕ → Bool) (a n r : ℕ) → find p (range_with_len a n) ≡ Some r → r < a + n
found_below p a zero r found = absurd (let wrong : ⊥ = none_some r found in wrong)
  where
    none_some : (r : ℕ) → (let none : Option ℕ = None in none ≡ Some r) → ⊥
    none_some r h = cc
found_below p a (suc n) r found = at_first p a n r (p a) found (found_below p (a + 1) n r)
  where
    at_first : (p : ℕ → Bool) (a n r : ℕ) (b : Bool) → cond b (Some a) (find p (range_with_len (a + 1) n)) ≡ Some r
        → (find p (range_with_len (a + 1) n) ≡ Some r → r < a + 1 + n) → r < a + suc n
    at_first p a n r true found later = let same : a ≡ r = cc in omega (arith, same)
    at_first p a n r false found later = let low : r < a + 1 + n = later found in omega (arith, low)

next_inside : (P : Plan) (rounds : ℕ) (taken : List ℕ) (next : Option ℕ) → next_rule P taken ≡ next → list_all (λ r. nat_lt r (length P.rules)) taken ≡ true
    → ((r : ℕ) → list_all (λ r. nat_lt r (length P.rules)) (taken ++ (r ∷ [])) ≡ true → list_all (λ r. nat_lt r (length P.rules)) (order_from P rounds (taken ++ (r ∷ []))) ≡ true)
    → list_all (λ r. nat_lt r (length P.rules)) (option_map_or (λ r. order_from P rounds (taken ++ (r ∷ []))) next taken) ≡ true
next_inside P rounds taken None is inside later = inside
next_inside P rounds taken (Some r) is inside later =
    let low : r < length P.rules = (let below : r < 0 + length P.rules = found_below (can_take P taken) 0 (length P.rules) r is in omega (arith, below)) in
    later r
    (list_all-append (λ r. nat_lt r (length P.rules)) taken (r ∷ [])
    ∙ and_from _ _ inside (and_from (nat_lt r (length P.rules)) true (lt-ltb r (length P.rules) low) refl))

pub order_inside : (P : Plan) (rounds : ℕ) (taken : List ℕ) → list_all (λ r. nat_lt r (length P.rules)) taken ≡ true
    → list_all (λ r. nat_lt r (length P.rules)) (order_from P rounds taken) ≡ true
order_inside P zero taken inside = inside
order_inside P (suc rounds) taken inside = next_inside P rounds taken (next_rule P taken) refl inside (λ r. order_inside P rounds (taken ++ (r ∷ [])))

-- a serial run that takes each rule is an order
order_of_run : (P : Plan) → list_all (λ r. contains_number r (serial_order P)) (rule_numbers P) ≡ true → IsSerialOrder P
order_of_run P whole =
    let run = order-run P (length P.rules) [] in
    record {
      order = and_from _ _ whole
          (let Made : List ℕ → Type 0 = λ order. is_made_before P [] order ≡ true in subst Made (sym run.1) (run_made P [] [] run.0 (λ f. refl) run.2));
      once = let Once : List ℕ → Type 0 = λ order. all_pairs (λ r s. not (r == s)) order ≡ true in subst Once (sym run.1) (run_once P [] run.0 run.2);
      inside = order_inside P (length P.rules) [] refl;
    }

all_range : (p : ℕ → Bool) (a n : ℕ) → ((r : ℕ) → a ≤ r → r < a + n → p r ≡ true) → list_all p (range_with_len a n) ≡ true
all_range p a zero each = refl
all_range p a (suc n) each =
    and_from _ _ (each a (omega arith) (omega arith)) (all_range p (a + 1) n (λ r from to. each r (omega (arith, from)) (omega (arith, to))))

every_rule : (P : Plan) → IsValid P → list_all (λ r. contains_number r (serial_order P)) (rule_numbers P) ≡ true
every_rule P valid =
    all_range (λ r. contains_number r (serial_order P)) 0 (length P.rules) (λ r from to. every-rule-taken P r valid (omega (arith, to)))

pub serial_order_of_valid : (P : Plan) → IsValid P → IsSerialOrder P
serial_order_of_valid P valid = order_of_run P (every_rule P valid)

pub none_fail : (p : ℕ → Bool) (xs : List ℕ) → filter (λ x. not (p x)) xs ≡ [] → list_all p xs ≡ true
none_fail p [] none = refl
none_fail p (x ∷ xs) none = at_item p x xs (p x) refl none (none_fail p xs)
  where
    at_item : (p : ℕ → Bool) (x : ℕ) (xs : List ℕ) (b : Bool) → p x ≡ b → cond (not b) (x ∷ filter (λ x. not (p x)) xs) (filter (λ x. not (p x)) xs) ≡ []
        → (filter (λ x. not (p x)) xs ≡ [] → list_all p xs ≡ true) → (p x && list_all p xs) ≡ true
    at_item p x xs true is none rest = and_from _ _ is (rest none)
    at_item p x xs false is none rest = absurd (let wrong : ⊥ = cc in wrong)

pub all_pass : (p : ℕ → Bool) (xs : List ℕ) → list_all p xs ≡ true → filter (λ x. not (p x)) xs ≡ []
all_pass p [] all = refl
all_pass p (x ∷ xs) all =
    let parts = and_parts (p x) (list_all p xs) all in
    ap (λ b. cond (not b) (x ∷ filter (λ x. not (p x)) xs) (filter (λ x. not (p x)) xs)) parts.0 ∙ all_pass p xs parts.1

pub nothing_left_over : (P : Plan) → left_over P ≡ [] → IsSerialOrder P × (cycle P ≡ None)
nothing_left_over P none = (
  order_of_run P (none_fail (λ r. contains_number r (serial_order P)) (rule_numbers P) none),
  ap (λ left. option_map_or (λ loop. Some (faults.Cycle (map rule_no loop))) (loop_among P left) None) none,
)

pub valid_leaves_nothing : (P : Plan) → IsValid P → left_over P ≡ []
valid_leaves_nothing P valid = all_pass (λ r. contains_number r (serial_order P)) (rule_numbers P) (every_rule P valid)
