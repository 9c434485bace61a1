-- Rules marked one by one.
use Rattle.std.proofs.Common.{◌≡◌, ℕ, ◌+◌, ◌<◌, ◌≤◌, Bool, true, false, cond, not, ◌||◌, List, [], ◌∷◌, ◌++◌, length, get_or, set, take, replicate, refl, ap, sym, ◌∙◌, arith, ◌⊎◌, inl, inr}
use Rattle.std.specs.Prelude.{◌==◌, nat_lt}
use Rattle.std.proofs.lemmas.Bool.{eqb-true, eqb-false, eq-eqb, ltb-true, cases_lt, true≢false, false_from_ne_true}
use Rattle.std.proofs.lemmas.List.{get_or-set_same, get_or-set_other, get_or_past, get_or-replicate, length-replicate, take_all, map_more}
use Rattle.std.proofs.lemmas.List.Folds.{list_any-append, list_any_at}
use Rattle.flow_types.specs.declared.plan.Plan.{Plan}
use Rattle.flow_types.specs.declared.numbers.RuleNo.{RuleNo}
use Rattle.flow_types.specs.Plans.{contains_number}
use Rattle.flow_types.specs.Serial.{serial_order}
use Rattle.rule_graph.specs.Cycles.{left_over}
use Rattle.rule_graph.specs.Walking.{numbers_of, AreMarks}
use Rattle.rule_graph.proofs.OrderLaws.{order_inside}
use Rattle.rule_graph.proofs.LoopLaws.{all_at, left_parts, left_from}
use Rattle.rule_graph.proofs.Places.{number_at, as_many}

number : RuleNo → ℕ
number rule = rule.0

pub in_at : (xs : List ℕ) (i : ℕ) → i < length xs → contains_number (get_or xs i 0) xs ≡ true
in_at xs i inside = list_any_at (λ y. y == get_or xs i 0) xs i 0 inside (eq-eqb (get_or xs i 0) (get_or xs i 0) refl)

-- each rule of the serial order is a rule of the plan
pub taken_inside : (P : Plan) (taken items : List RuleNo) (i : ℕ) (d : RuleNo) → numbers_of taken ≡ serial_order P → items ≡ taken → i < length items → (get_or items i d).0 < length P.rules
taken_inside P taken items i d order same inside =
    let many : length (numbers_of items) ≡ length items = as_many items in
    let here : get_or (numbers_of items) i 0 ≡ (get_or items i d).0 = number_at items i d inside in
    let stands : contains_number (get_or (numbers_of items) i 0) (serial_order P) ≡ true =
    ap (contains_number (get_or (numbers_of items) i 0)) (sym order ∙ ap numbers_of (sym same)) ∙ in_at (numbers_of items) i (omega (arith, many, inside)) in
    let low : get_or (numbers_of items) i 0 < length P.rules =
    ltb-true (get_or (numbers_of items) i 0) (length P.rules) (all_at (λ r. nat_lt r (length P.rules)) (serial_order P) (get_or (numbers_of items) i 0) (order_inside P (length P.rules) [] refl) stands) in
    omega (arith, here, low)

pub numbers_more : (items : List RuleNo) (i : ℕ) (d : RuleNo) → i < length items → numbers_of (take (i + 1) items) ≡ numbers_of (take i items) ++ ((get_or items i d).0 ∷ [])
unfolding number
numbers_more items i d inside = map_more number items i d inside

or_none : (b : Bool) → b ≡ (b || false)
or_none true = refl
or_none false = refl

or_some : (b : Bool) → true ≡ (b || true)
or_some true = refl
or_some false = refl

mark_at : (marks : List Bool) (x r : ℕ) (mark b : Bool) → (x == r) ≡ b → x < length marks → get_or (set marks x mark) r false ≡ cond b mark (get_or marks r false)
mark_at marks x r mark true same inside =
    ap (λ k. get_or (set marks x mark) k false) (sym (eqb-true x r same)) ∙ get_or-set_same marks x mark false inside
mark_at marks x r mark false other inside = get_or-set_other marks x r mark false (λ same. eqb-false x r other (sym same))

in_push : (xs : List ℕ) (x r : ℕ) (b : Bool) → (x == r) ≡ b → contains_number r (xs ++ (x ∷ [])) ≡ (contains_number r xs || (b || false))
in_push xs x r b is = list_any-append (λ y. y == r) xs (x ∷ []) ∙ ap (λ b. contains_number r xs || (b || false)) is

by_mark : (had b : Bool) → cond b true had ≡ (had || (b || false))
by_mark had true = or_some had
by_mark had false = or_none had

by_unmark : (had b : Bool) → cond b false (not had) ≡ not (had || (b || false))
by_unmark had true = ap not (or_some had)
by_unmark had false = ap not (or_none had)

-- one rule more is marked
pub mark_more : (marks : List Bool) (xs : List ℕ) (x r : ℕ) → x < length marks → get_or marks r false ≡ contains_number r xs
    → get_or (set marks x true) r false ≡ contains_number r (xs ++ (x ∷ []))
mark_more marks xs x r inside is =
    mark_at marks x r true (x == r) refl inside ∙ ap (λ had. cond (x == r) true had) is ∙ by_mark (contains_number r xs) (x == r) ∙ sym (in_push xs x r (x == r) refl)

-- one rule more loses its mark
pub unmark_more : (marks : List Bool) (xs : List ℕ) (x r : ℕ) → x < length marks → get_or marks r false ≡ not (contains_number r xs)
    → get_or (set marks x false) r false ≡ not (contains_number r (xs ++ (x ∷ [])))
unmark_more marks xs x r inside is =
    mark_at marks x r false (x == r) refl inside ∙ ap (λ had. cond (x == r) false had) is ∙ by_unmark (contains_number r xs) (x == r)
    ∙ ap not (sym (in_push xs x r (x == r) refl))

-- at first each rule is marked
pub all_marked : (marks : List Bool) (n count r : ℕ) → marks ≡ replicate count true → count ≡ n → r < n → get_or marks r false ≡ true
all_marked marks n count r is same inside = ap (λ marks. get_or marks r false) is ∙ get_or-replicate count r true false (omega (arith, same, inside))

none_at : (count r : ℕ) → (r < count) ⊎ (count ≤ r) → get_or (replicate count false) r false ≡ false
none_at count r place =
    elim place [
      | inl inside ↦ get_or-replicate count r false false inside
      | inr past ↦ get_or_past (replicate count false) r false (let e : length (replicate count false) ≡ count = length-replicate count false in omega (arith, e, past))
    ]

pub none_marked : (marks : List Bool) (count : ℕ) → marks ≡ replicate count false → AreMarks [] marks
none_marked marks count is r = ap (λ marks. get_or marks r false) is ∙ none_at count r (cases_lt r count)

pub many_marks : (marks : List Bool) (n count : ℕ) (mark : Bool) → marks ≡ replicate count mark → count ≡ n → length marks ≡ n
many_marks marks n count mark is same = ap length is ∙ length-replicate count mark ∙ same

left_is : (P : Plan) (r : ℕ) (b : Bool) → contains_number r (serial_order P) ≡ b → r < length P.rules → not b ≡ contains_number r (left_over P)
left_is P r true taken inside =
    sym (false_from_ne_true (contains_number r (left_over P)) (λ left. true≢false (sym taken ∙ (left_parts P r left).1)))
left_is P r false fresh inside = sym (left_from P r inside fresh)

-- once the rules of the serial order have lost their marks, just the rules left over are marked
pub left_marked : (P : Plan) (marks : List Bool) (taken items : List RuleNo) (i : ℕ) → numbers_of taken ≡ serial_order P → items ≡ taken → length items ≤ i
    → length marks ≡ length P.rules
    → ((r : ℕ) → r < length P.rules → get_or marks r false ≡ not (contains_number r (numbers_of (take i items)))) → AreMarks (left_over P) marks
left_marked P marks taken items i order same past many before r =
    elim (cases_lt r (length P.rules)) [
      | inl inside ↦
          before r inside
          ∙ ap (λ xs. not (contains_number r xs)) (ap numbers_of (take_all i items past ∙ same) ∙ order)
          ∙ left_is P r (contains_number r (serial_order P)) refl inside
      | inr outside ↦
          get_or_past marks r false (omega (arith, many, outside))
          ∙ sym (false_from_ne_true (contains_number r (left_over P)) (λ left. let low : r < length P.rules = (left_parts P r left).0 in let wrong : ⊥ = omega (arith, low, outside) in wrong))
    ]
