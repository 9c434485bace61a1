-- The steps of the walk over the rules left over, and what is found by it.
use Rattle.std.proofs.Common.{◌≡◌, ℕ, ◌+◌, ◌-◌, ◌<◌, ◌≤◌, Bool, true, false, cond, not, List, [], ◌∷◌, ◌++◌, length, get_or, Option, Some, None, refl, ap, sym, ◌∙◌, arith, subst}
use Rattle.std.specs.Prelude.{filter, find, unwrap_or}
use Rattle.std.proofs.lemmas.Bool.{true≢false, not_from_false, not_from_true, true_from_ne_false}
use Rattle.std.proofs.lemmas.List.{map-append, length_push}
use Rattle.std.proofs.lemmas.Option.{none-some, same_Some}
use Rattle.flow_types.specs.declared.plan.Plan.{Plan}
use Rattle.flow_types.specs.declared.numbers.RuleNo.{RuleNo}
use Rattle.flow_types.specs.Plans.{contains_number, rule_numbers}
use Rattle.flow_types.specs.Serial.{serial_order}
use Rattle.rule_graph.specs.Cycles.{left_over, from_first, loop_among}
use Rattle.rule_graph.specs.Loops.{IsNumbered, step}
use Rattle.rule_graph.specs.Walking.{numbers_of, AreMarks, IsWalk, IsTurned}
use Rattle.rule_graph.proofs.Rounds.{find_at}
use Rattle.rule_graph.proofs.Chains.{in_first}
use Rattle.rule_graph.proofs.Walks.{few_of, walk_more, IsFound, found_at, turned_found, turned_least}
use Rattle.rule_graph.proofs.LoopLaws.{next_left, left_parts, left_from, named_from, named_is_computed}
use Rattle.rule_graph.proofs.Places.{as_many}

number : RuleNo → ℕ
number rule = rule.0

pub pushed : (old new : List RuleNo) (rule : RuleNo) → new ≡ old ++ (rule ∷ []) → numbers_of new ≡ numbers_of old ++ (rule.0 ∷ [])
unfolding number
pushed old new rule is = ap numbers_of is ∙ map-append number old (rule ∷ [])

-- the walk with one rule more
pub walk_next : (P : Plan) (old new : List RuleNo) (rule maker : RuleNo) → IsNumbered P → IsWalk (step P) (left_over P) (numbers_of old) rule.0
    → contains_number rule.0 (numbers_of old) ≡ false → Some maker.0 ≡ step P rule.0 → new ≡ old ++ (rule ∷ []) → IsWalk (step P) (left_over P) (numbers_of new) maker.0
walk_next P old new rule maker numbered walk fresh is more =
    let next = next_left P rule.0 numbered walk.here in
    let same : next.0 ≡ maker.0 = same_Some next.0 maker.0 (sym next.1 ∙ sym is) in
    subst (λ path. IsWalk (step P) (left_over P) path maker.0) (sym (pushed old new rule more))
    (walk_more (step P) (left_over P) (numbers_of old) rule.0 maker.0 walk fresh (sym is) (subst (λ k. contains_number k (left_over P) ≡ true) same next.2))

-- a walk is no longer than the list of the rules left over
pub walk_short : (P : Plan) (path : List RuleNo) (r : ℕ) → IsWalk (step P) (left_over P) (numbers_of path) r → length path ≤ length (left_over P)
walk_short P path r walk =
    let few : length (numbers_of path) ≤ length (left_over P) = few_of (left_over P) (numbers_of path) walk.once walk.inside in
    omega (arith, few, as_many path)

-- once a rule was pushed there are fewer to come
pub walk_shrinks : (P : Plan) (old new : List RuleNo) (rule : RuleNo) (r : ℕ) → new ≡ old ++ (rule ∷ []) → IsWalk (step P) (left_over P) (numbers_of new) r
    → length (left_over P) - length new < length (left_over P) - length old
walk_shrinks P old new rule r more walk =
    let short : length new ≤ length (left_over P) = walk_short P new r walk in
    let longer : length new ≡ length old + 1 = ap length more ∙ length_push old rule in
    omega (arith, short, longer)

-- a rule left over has one before it
pub never_none : (P : Plan) (r : ℕ) → IsNumbered P → contains_number r (left_over P) ≡ true → (let none : Option ℕ = None in none ≡ step P r) → ⊥
never_none P r numbered left none = let next = next_left P r numbered left in none-some next.0 (none ∙ next.1)

head_of_filter : (p : ℕ → Bool) (xs : List ℕ) → get_or (filter p xs) 0 0 ≡ unwrap_or (find p xs) 0
head_of_filter p [] = refl
head_of_filter p (x ∷ xs) = at_item (p x) (head_of_filter p xs)
  where
    at_item : (b : Bool) → get_or (filter p xs) 0 0 ≡ unwrap_or (find p xs) 0 → get_or (cond b (x ∷ filter p xs) (filter p xs)) 0 0 ≡ unwrap_or (cond b (Some x) (find p xs)) 0
    at_item true rest = refl
    at_item false rest = rest

-- the first rule that is marked is the first of those left over
pub first_left : (P : Plan) (marks : List Bool) (r : ℕ) → AreMarks (left_over P) marks → get_or marks r false ≡ true
    → ((q : ℕ) → q < r → get_or marks q false ≡ false) → r ≡ get_or (left_over P) 0 0
first_left P marks r are here before =
    let test : ℕ → Bool = λ r. not (contains_number r (serial_order P)) in
    let parts = left_parts P r (sym (are r) ∙ here) in
    let found : find test (rule_numbers P) ≡ Some r =
    find_at test 0 (length P.rules) r (omega arith) (omega (arith, parts.0)) (not_from_false (contains_number r (serial_order P)) parts.1)
    (λ q below.
    not_from_true (contains_number q (serial_order P))
    (true_from_ne_false (contains_number q (serial_order P)) (λ fresh.
    true≢false (sym (left_from P q (omega (arith, below, parts.0)) fresh) ∙ sym (are q) ∙ before q below)))) in
    sym (head_of_filter test (rule_numbers P) ∙ ap (λ found. unwrap_or found 0) found)

nothing_in : (xs : List ℕ) → ((r : ℕ) → contains_number r xs ≡ false) → xs ≡ []
nothing_in [] none = refl
nothing_in (x ∷ xs) none = absurd (true≢false (sym (in_first x xs) ∙ none x))

-- where no rule is marked, no loop is named
pub none_named : (P : Plan) (marks : List Bool) → AreMarks (left_over P) marks → ((r : ℕ) → get_or marks r false ≡ false)
    → (let none : Option (List ℕ) = None in none ≡ loop_among P (left_over P))
none_named P marks are none = sym (ap (loop_among P) (nothing_in (left_over P) (λ r. sym (are r) ∙ none r)))

pub loop_found : (P : Plan) (path rules : List RuleNo) (r : ℕ) → IsWalk (step P) (left_over P) (numbers_of path) r → contains_number r (numbers_of path) ≡ true
    → numbers_of rules ≡ from_first r (numbers_of path) → IsFound (step P) (left_over P) (numbers_of rules)
loop_found P path rules r walk repeats is = subst (λ loop. IsFound (step P) (left_over P) loop) (sym is) (found_at (step P) (left_over P) (numbers_of path) r walk repeats)

pub loop_some : (P : Plan) (rules : List RuleNo) → IsFound (step P) (left_over P) (numbers_of rules) → 0 < length rules
loop_some P rules found = let some : 0 < length (numbers_of rules) = found.some in omega (arith, some, as_many rules)

-- the loop that comes round, begun at its least rule, is the one that is named
pub loop_named : (P : Plan) (rules turned : List RuleNo) → IsNumbered P → IsFound (step P) (left_over P) (numbers_of rules) → IsTurned (numbers_of rules) (numbers_of turned)
    → Some (numbers_of turned) ≡ loop_among P (left_over P)
loop_named P rules turned numbered found turn =
    sym (named_is_computed P (numbers_of turned) numbered
    (named_from P (numbers_of turned) (turned_found (step P) (left_over P) (numbers_of rules) (numbers_of turned) found turn)
    (λ r some. turned_least (numbers_of rules) (numbers_of turned) r turn some)))
