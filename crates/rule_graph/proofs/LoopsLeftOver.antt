-- A serial run never comes to a rule of a loop.
use Rattle.std.proofs.Common.{◌≡◌, ℕ, zero, suc, ◌<◌, Bool, true, false, not, ◌||◌, List, [], ◌∷◌, ◌++◌, length, get_or, Option, Some, None, refl, ap, sym, ◌∙◌, arith, subst, ◌⊎◌, inl, inr, All, ◌≤◌}
use Rattle.std.specs.Prelude.{◌↔◌, ◌==◌, nat_lt, slice_get, is_none, IsTrue}
use Rattle.std.specs.List.{list_any, list_all}
use Rattle.std.specs.Option.{option_map_or}
use Rattle.std.proofs.lemmas.Bool.{and_parts, or_cases, true≢false, false_from_ne_true, ltb-true, ltb-false, leb-true}
use Rattle.std.proofs.lemmas.List.Folds.{list_any-append, list_all-append}
use Rattle.std.proofs.lemmas.Option.{none-some, slice_get_past}
use Rattle.flow_types.specs.declared.plan.Plan.{Plan}
use Rattle.flow_types.specs.declared.plan.FileRow.{FileRow}
use Rattle.flow_types.specs.declared.numbers.RuleNo.{RuleNo}
use Rattle.flow_types.specs.Plans.{takes, makes, is_source, files_of, contains_number, rule_numbers, file_numbers, maker_of, is_made_by, IsValid}
use Rattle.flow_types.specs.Serial.{is_made, can_take, next_rule, order_from}
use Rattle.flow_types.proofs.SerialRun.{HasMakers, find-passes, maker_in, made_by-makers}
use Rattle.flow_types.specs.declared.plan.Port.{Port}
use Rattle.flow_types.specs.declared.plan.Rule.{Rule}
use Rattle.rule_graph.proofs.Counts.{all_from}
use Rattle.rule_graph.specs.Progress.{IsInside}
use Rattle.rule_graph.specs.Cycles.{left_over}
use Rattle.rule_graph.specs.Faults.{cycle}
use Rattle.rule_graph.specs.Loops.{IsNumbered, IsChain, IsFedBy, IsLoop}
use Rattle.rule_graph.proofs.Chains.{in_cons, in_first, in_later}
use Rattle.rule_graph.proofs.LoopLaws.{all_at, left_from, named_from, named_is_loop, computed_left, none_named}
use Rattle.rule_graph.proofs.OrderLaws.{nothing_left_over}

-- each number of a closed chain has one that it stands so to
linked : (R : ℕ → ℕ → Type 0) (Q : ℕ → Type 0) (xs : List ℕ) (end r : ℕ) → ((q : ℕ) → contains_number q xs ≡ true → Q q) → Q end → IsChain R xs end
    → contains_number r xs ≡ true → (q : ℕ) × R r q × Q q
linked R Q [] end r inside last chain some = absurd (true≢false (sym some))
linked R Q (x ∷ xs) end r inside last chain some =
    elim (in_cons x r xs some) [
      | inl here ↦ (get_or xs 0 end, subst (λ k. R k (get_or xs 0 end)) here chain.0, first_in xs inside)
      | inr later ↦ linked R Q xs end r (λ q some. inside q (in_later x q xs some)) last chain.1 later
    ]
  where
    first_in : (xs : List ℕ) → ((q : ℕ) → contains_number q (x ∷ xs) ≡ true → Q q) → Q (get_or xs 0 end)
    first_in [] inside = last
    first_in (y ∷ ys) inside = inside y (in_later x y (y ∷ ys) (in_first y ys))

loop_linked : (R : ℕ → ℕ → Type 0) (loop : List ℕ) (r : ℕ) → IsChain R loop (get_or loop 0 0) → contains_number r loop ≡ true
    → (q : ℕ) × R r q × (contains_number q loop ≡ true)
loop_linked R [] r chain some = absurd (true≢false (sym some))
loop_linked R (x ∷ xs) r chain some = linked R (λ q. contains_number q (x ∷ xs) ≡ true) (x ∷ xs) x r (λ q some. some) (in_first x xs) chain some

made_is_no_source : (row : FileRow) (maker : Option RuleNo) (m : ℕ) → row.maker ≡ maker
    → option_map_or (λ r. let found : Option ℕ = Some r.0 in found) row.maker None ≡ Some m → is_none row.maker ≡ false
made_is_no_source row None m is made = absurd (none-some m (sym (ap (λ maker. option_map_or (λ r. let found : Option ℕ = Some r.0 in found) maker None) is) ∙ made))
made_is_no_source row (Some r) m is made = ap is_none is

-- a file with a maker is no source
no_source : (P : Plan) (f m : ℕ) (found : Option FileRow) → slice_get P.files f ≡ found
    → option_map_or (λ row. option_map_or (λ r. let found : Option ℕ = Some r.0 in found) row.maker None) found None ≡ Some m
    → option_map_or (λ row. is_none row.maker) found false ≡ false
no_source P f m None is made = refl
no_source P f m (Some row) is made = made_is_no_source row row.maker m refl made

-- none of the loop's rules is taken
abbrev Untouched : List ℕ → List ℕ → Type 0
Untouched loop taken = (r : ℕ) → contains_number r loop ≡ true → contains_number r taken ≡ false

-- a rule of a loop can't be taken before the others
not_taken : (P : Plan) (loop taken : List ℕ) (r : ℕ) → IsNumbered P → IsLoop P loop → Untouched loop taken → can_take P taken r ≡ true → contains_number r loop ≡ true → ⊥
not_taken P loop taken r numbered is_loop fresh can some =
    let fed = loop_linked (IsFedBy P) loop r is_loop.fed some in
    let f : ℕ = fed.1.0 in
    let makers : HasMakers P = made_by-makers P numbered.made_by in
    let parts = and_parts (not (contains_number r taken)) (list_all (is_made P taken) (takes P r)) can in
    let made : (is_source P f || list_any (λ t. contains_number f (makes P t)) taken) ≡ true = all_at (is_made P taken) (takes P r) f parts.1 fed.1.1 in
    elim (or_cases (is_source P f) (list_any (λ t. contains_number f (makes P t)) taken) made) [
      | inl source ↦ true≢false (sym source ∙ no_source P f fed.0 (slice_get P.files f) refl (makers fed.0 f fed.1.2))
      | inr by_one ↦ true≢false (sym (maker_in P f fed.0 taken makers fed.1.2 by_one) ∙ fresh fed.0 fed.2)
    ]

untouched_more : (loop taken : List ℕ) (t : ℕ) → Untouched loop taken → (contains_number t loop ≡ true → ⊥) → Untouched loop (taken ++ (t ∷ []))
untouched_more loop taken t fresh other r some =
    false_from_ne_true (contains_number r (taken ++ (t ∷ []))) (λ has.
    elim (or_cases (contains_number r taken) (contains_number r (t ∷ [])) (sym (list_any-append (λ y. y == r) taken (t ∷ [])) ∙ has)) [
      | inl before ↦ true≢false (sym before ∙ fresh r some)
      | inr now ↦ last_is (in_cons t r [] now)
    ])
  where
    last_is : (t ≡ r) ⊎ (contains_number r [] ≡ true) → ⊥
    last_is place =
        elim place [
          | inl here ↦ other (subst (λ k. contains_number k loop ≡ true) (sym here) some)
          | inr none ↦ true≢false (sym none)
        ]

next_untouched : (P : Plan) (loop : List ℕ) (rounds : ℕ) (taken : List ℕ) (next : Option ℕ) → next_rule P taken ≡ next → IsNumbered P → IsLoop P loop → Untouched loop taken
    → ((t : ℕ) → Untouched loop (taken ++ (t ∷ [])) → Untouched loop (order_from P rounds (taken ++ (t ∷ []))))
    → Untouched loop (option_map_or (λ t. order_from P rounds (taken ++ (t ∷ []))) next taken)
next_untouched P loop rounds taken None is numbered is_loop fresh later = fresh
next_untouched P loop rounds taken (Some t) is numbered is_loop fresh later =
    let can : can_take P taken t ≡ true = find-passes (can_take P taken) (rule_numbers P) t is in
    later t (untouched_more loop taken t fresh (λ some. not_taken P loop taken t numbered is_loop fresh can some))

order_untouched : (P : Plan) (loop : List ℕ) (rounds : ℕ) (taken : List ℕ) → IsNumbered P → IsLoop P loop → Untouched loop taken → Untouched loop (order_from P rounds taken)
order_untouched P loop zero taken numbered is_loop fresh = fresh
order_untouched P loop (suc rounds) taken numbered is_loop fresh =
    next_untouched P loop rounds taken (next_rule P taken) refl numbered is_loop fresh
    (λ t fresh. order_untouched P loop rounds (taken ++ (t ∷ [])) numbered is_loop fresh)

taker_inside : (P : Plan) (r f : ℕ) (b : Bool) → nat_lt r (length P.rules) ≡ b → contains_number f (takes P r) ≡ true → r < length P.rules
taker_inside P r f true inside taken = ltb-true r (length P.rules) inside
taker_inside P r f false outside taken =
    absurd (true≢false (sym taken ∙ ap (λ found. contains_number f (option_map_or (λ rule. files_of rule.inputs) found [])) (slice_get_past P.rules r (ltb-false r (length P.rules) outside))))

-- a rule of a loop is left over
pub loops_left_over : (P : Plan) (loop : List ℕ) (r : ℕ) → IsNumbered P → IsLoop P loop → contains_number r loop ≡ true → contains_number r (left_over P) ≡ true
loops_left_over P loop r numbered is_loop some =
    let fed = loop_linked (IsFedBy P) loop r is_loop.fed some in
    left_from P r (taker_inside P r fed.1.0 (nat_lt r (length P.rules)) refl fed.1.1)
    (order_untouched P loop (length P.rules) [] numbered is_loop (λ r some. refl) r some)

first_of_loop : (loop : List ℕ) → 0 < length loop → contains_number (get_or loop 0 0) loop ≡ true
first_of_loop [] some = absurd (let wrong : ⊥ = omega (arith, some) in wrong)
first_of_loop (x ∷ xs) some = in_first x xs

empty_or_some : (xs : List ℕ) → (xs ≡ []) ⊎ (0 < length xs)
empty_or_some [] = inl refl
empty_or_some (x ∷ xs) = inr (omega arith)

-- no loop is named exactly where the plan has none
pub none_named_where_none_is : (P : Plan) → IsNumbered P → (cycle P ≡ None) ↔ ((loop : List ℕ) → IsLoop P loop → ⊥)
none_named_where_none_is P numbered = (
  λ none loop is_loop.
      let r : ℕ = get_or loop 0 0 in
      let left : contains_number r (left_over P) ≡ true = loops_left_over P loop r numbered is_loop (first_of_loop loop is_loop.some) in
      true≢false (sym left ∙ ap (contains_number r) (none_named P (left_over P) none)),
  λ no_loop.
      elim (empty_or_some (left_over P)) [
        | inl nothing ↦ (nothing_left_over P nothing).1
        | inr some ↦
            (let found = computed_left P numbered some in
            absurd (no_loop found.0 (named_is_loop P found.0 numbered (named_from P found.0 found.1.found found.1.least))))
      ],
)

ports_wired : (P : Plan) (ports : List Port) → list_all (λ port. nat_lt port.file.0 (length P.files)) ports ≡ true → All (IsInside P) ports
ports_wired P ports inside =
    all_from (λ port. nat_lt port.file.0 (length P.files)) (IsInside P) (λ port low. ltb-true port.file.0 (length P.files) low) ports inside

both_parts : (P : Plan) (rule : Rule) → list_all (λ port. nat_lt port.file.0 (length P.files)) (rule.inputs ++ rule.outputs) ≡ true
    → All (IsInside P) rule.inputs × All (IsInside P) rule.outputs
both_parts P rule inside =
    let parts =
    and_parts (list_all (λ port. nat_lt port.file.0 (length P.files)) rule.inputs) (list_all (λ port. nat_lt port.file.0 (length P.files)) rule.outputs)
    (sym (list_all-append (λ port. nat_lt port.file.0 (length P.files)) rule.inputs rule.outputs) ∙ inside) in
    (ports_wired P rule.inputs parts.0, ports_wired P rule.outputs parts.1)

-- a plan whose ports are inside, and whose makers make, is numbered
pub parts_numbered : (P : Plan) → length P.rules ≤ 20000 → IsTrue (list_all (λ rule. list_all (λ port. nat_lt port.file.0 (length P.files)) (rule.inputs ++ rule.outputs)) P.rules)
    → IsTrue (list_all (λ r. list_all (λ f. is_made_by P r f) (makes P r)) (rule_numbers P))
    → IsTrue (list_all (λ f. option_map_or (λ r. contains_number f (makes P r)) (maker_of P f) true) (file_numbers P)) → IsNumbered P
parts_numbered P few inside made_by makers =
    let test : Rule → Bool = λ rule. list_all (λ port. nat_lt port.file.0 (length P.files)) (rule.inputs ++ rule.outputs) in
    record {
      wired = record {
        few_rules = omega (arith, few);
        inputs_inside = all_from test (λ rule. All (IsInside P) rule.inputs) (λ rule is. (both_parts P rule is).0) P.rules inside;
        outputs_inside = all_from test (λ rule. All (IsInside P) rule.outputs) (λ rule is. (both_parts P rule is).1) P.rules inside;
      };
      made_by = made_by;
      makers = makers;
    }

-- a valid plan is numbered
pub valid_is_numbered : (P : Plan) → IsValid P → IsNumbered P
valid_is_numbered P valid = parts_numbered P (leb-true (length P.rules) 20000 valid.few_rules) valid.ports_inside valid.made_by valid.makers
