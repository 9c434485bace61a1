-- Where a rule stands in a list of rules, and the least of them.
use Rattle.std.proofs.Common.{◌≡◌, ℕ, suc, ◌+◌, ◌<◌, ◌≤◌, true, not, List, [], ◌∷◌, ◌++◌, length, get_or, take, drop, ap, sym, ◌∙◌, arith, ◌⊎◌, inl, inr}
use Rattle.std.specs.Prelude.{◌==◌}
use Rattle.std.specs.List.{prefix_len}
use Rattle.std.proofs.lemmas.Bool.{eq-eqb, ne_eqb, cases_eq, true≢false}
use Rattle.std.proofs.lemmas.List.{get_or-map, length-map, map-append, take-append-drop, drop-map, drop_more}
use Rattle.std.proofs.lemmas.List.Sums.{prefix_len_is}
use Rattle.flow_types.specs.declared.numbers.RuleNo.{RuleNo}
use Rattle.flow_types.specs.Plans.{contains_number}
use Rattle.rule_graph.specs.Walking.{numbers_of, IsTurned}
use Rattle.rule_graph.proofs.Chains.{in_cons}

number : RuleNo → ℕ
number rule = rule.0

pub number_at : (rules : List RuleNo) (k : ℕ) (d : RuleNo) → k < length rules → get_or (numbers_of rules) k 0 ≡ (get_or rules k d).0
unfolding number
number_at rules k d inside = get_or-map number rules k d 0 inside

pub as_many : (rules : List RuleNo) → length (numbers_of rules) ≡ length rules
unfolding number
as_many rules = length-map rules number

-- a place more before the rule
pub places_more : (rules : List RuleNo) (place r : ℕ) (d : RuleNo) → place < length rules → ((get_or rules place d).0 ≡ r → ⊥)
    → ((k : ℕ) → k < place → not (get_or (numbers_of rules) k 0 == r) ≡ true)
    → (k : ℕ) → k < place + 1 → not (get_or (numbers_of rules) k 0 == r) ≡ true
places_more rules place r d inside other before k low =
    elim (cases_eq k place) [
      | inl here ↦
          ap not (ne_eqb (get_or (numbers_of rules) k 0) r (λ same. other (sym (number_at rules place d inside) ∙ ap (λ k. get_or (numbers_of rules) k 0) (sym here) ∙ same)))
      | inr elsewhere ↦ before k (omega (arith, low, elsewhere))
    ]

pub place_found : (rules : List RuleNo) (place r : ℕ) (d : RuleNo) → place < length rules → (get_or rules place d).0 ≡ r
    → ((k : ℕ) → k < place → not (get_or (numbers_of rules) k 0 == r) ≡ true)
    → place ≡ prefix_len (λ x. not (x == r)) (numbers_of rules)
place_found rules place r d inside here before =
    let many : length (numbers_of rules) ≡ length rules = as_many rules in
    sym (prefix_len_is (λ x. not (x == r)) (numbers_of rules) place 0 (omega (arith, many, inside)) before
    (λ _. ap not (eq-eqb (get_or (numbers_of rules) place 0) r (number_at rules place d inside ∙ here))))

pub place_none : (rules : List RuleNo) (place r : ℕ) → place ≤ length rules → length rules ≤ place
    → ((k : ℕ) → k < place → not (get_or (numbers_of rules) k 0 == r) ≡ true)
    → length rules ≡ prefix_len (λ x. not (x == r)) (numbers_of rules)
place_none rules place r inside past before =
    let many : length (numbers_of rules) ≡ length rules = as_many rules in
    sym (prefix_len_is (λ x. not (x == r)) (numbers_of rules) (length rules) 0 (omega (arith, many))
    (λ k low. before k (omega (arith, low, past)))
    (λ low. absurd (let wrong : ⊥ = omega (arith, many, low) in wrong)))

pub least_more : (rules : List RuleNo) (place least least' : ℕ) (d : RuleNo) → place < length rules → least ≤ place
    → ((k : ℕ) → k < place → get_or (numbers_of rules) least 0 ≤ get_or (numbers_of rules) k 0)
    → (least' ≡ place) × ((get_or rules place d).0 < (get_or rules least d).0) ⊎ (least' ≡ least) × ((get_or rules least d).0 ≤ (get_or rules place d).0)
    → (k : ℕ) → k < place + 1 → get_or (numbers_of rules) least' 0 ≤ get_or (numbers_of rules) k 0
least_more rules place least least' d inside low before branch k below =
    let here : get_or (numbers_of rules) place 0 ≡ (get_or rules place d).0 = number_at rules place d inside in
    let there : get_or (numbers_of rules) least 0 ≡ (get_or rules least d).0 = number_at rules least d (omega (arith, inside, low)) in
    elim branch [
      | inl now ↦
          (let is : get_or (numbers_of rules) least' 0 ≡ get_or (numbers_of rules) place 0 = ap (λ k. get_or (numbers_of rules) k 0) now.0 in
          let less : (get_or rules place d).0 < (get_or rules least d).0 = now.1 in
          elim (cases_eq k place) [
            | inl same ↦
                (let e : get_or (numbers_of rules) k 0 ≡ get_or (numbers_of rules) place 0 = ap (λ k. get_or (numbers_of rules) k 0) same in omega (arith, is, e))
            | inr other ↦
                (let le : get_or (numbers_of rules) least 0 ≤ get_or (numbers_of rules) k 0 = before k (omega (arith, below, other)) in
                omega (arith, is, here, there, less, le))
          ])
      | inr kept ↦
          (let is : get_or (numbers_of rules) least' 0 ≡ get_or (numbers_of rules) least 0 = ap (λ k. get_or (numbers_of rules) k 0) kept.0 in
          let le : (get_or rules least d).0 ≤ (get_or rules place d).0 = kept.1 in
          elim (cases_eq k place) [
            | inl same ↦
                (let e : get_or (numbers_of rules) k 0 ≡ get_or (numbers_of rules) place 0 = ap (λ k. get_or (numbers_of rules) k 0) same in
                omega (arith, is, e, here, there, le))
            | inr other ↦
                (let more : get_or (numbers_of rules) least 0 ≤ get_or (numbers_of rules) k 0 = before k (omega (arith, below, other)) in
                omega (arith, is, more))
          ])
    ]

-- what stands in a list stands at a place of it
pub place_in : (xs : List ℕ) (r : ℕ) → contains_number r xs ≡ true → (k : ℕ) × (k < length xs) × (get_or xs k 0 ≡ r)
place_in [] r some = absurd (true≢false (sym some))
place_in (x ∷ xs) r some =
    elim (in_cons x r xs some) [
      | inl here ↦ (0, omega arith, here)
      | inr later ↦ (let rest = place_in xs r later in (suc rest.0, omega (arith, rest.1), rest.2))
    ]

first_turned : (rules turned before from : List RuleNo) (place : ℕ) → place < length rules → from ≡ drop place rules → turned ≡ from ++ before
    → get_or (numbers_of turned) 0 0 ≡ get_or (numbers_of rules) place 0
unfolding number
first_turned rules turned before from place inside back is =
    let many : length (numbers_of rules) ≡ length rules = as_many rules in
    let low : place < length (numbers_of rules) = omega (arith, many, inside) in
    ap (λ zs. get_or zs 0 0) (ap numbers_of is ∙ map-append number from before)
    ∙ ap (λ zs. get_or (zs ++ numbers_of before) 0 0) (ap numbers_of back ∙ sym (drop-map number place rules) ∙ drop_more (numbers_of rules) place 0 low)

-- the rules from the least on, and then those before it
pub turned_of : (rules turned before from : List RuleNo) (place : ℕ) → place < length rules → before ≡ take place rules → from ≡ drop place rules → turned ≡ from ++ before
    → ((k : ℕ) → k < length rules → get_or (numbers_of rules) place 0 ≤ get_or (numbers_of rules) k 0) → IsTurned (numbers_of rules) (numbers_of turned)
unfolding number
turned_of rules turned before from place inside front back is least = record {
  parts = (
    numbers_of before,
    numbers_of from,
    ap numbers_of (sym (take-append-drop place rules) ∙ ap (λ zs. zs ++ drop place rules) (sym front) ∙ ap (λ zs. before ++ zs) (sym back)) ∙ map-append number before from,
    ap numbers_of is ∙ map-append number from before,
  );
  least_first = λ r some.
      let at = place_in (numbers_of rules) r some in
      let many : length (numbers_of rules) ≡ length rules = as_many rules in
      let le : get_or (numbers_of rules) place 0 ≤ get_or (numbers_of rules) at.0 0 = least at.0 (omega (arith, at.1, many)) in
      let first : get_or (numbers_of turned) 0 0 ≡ get_or (numbers_of rules) place 0 = first_turned rules turned before from place inside back is in
      let here : get_or (numbers_of rules) at.0 0 ≡ r = at.2 in
      omega (arith, le, first, here);
}
