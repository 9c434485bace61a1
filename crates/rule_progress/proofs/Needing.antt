-- What the rules of a valid plan take.
use Rattle.std.proofs.Common.{◌≡◌, ◌≤◌, ◌<◌, ◌+◌, ℕ, true, zero, suc, List, [], ◌∷◌, ◌++◌, length, get_or, map, ap, arith}
use Rattle.std.specs.Prelude.{◌==◌, min, nat_le, slice_get, sum_by}
use Rattle.std.specs.List.{list_all}
use Rattle.std.specs.Option.{option_map_or}
use Rattle.std.proofs.lemmas.List.Sums.{AllPass-from_list_all}
use Rattle.std.proofs.lemmas.List.FromFn.{map-range_with_len_more}
use Rattle.std.proofs.lemmas.List.{length-map}
use Rattle.std.proofs.Math.Nat.{min-le_right}
use Rattle.std.proofs.lemmas.Bool.{and_parts, leb-true, eqb-true}
use Rattle.flow_types.specs.declared.plan.Plan.{Plan}
use Rattle.flow_types.specs.declared.plan.Rule.{Rule}
use Rattle.flow_types.specs.Plans.{IsValid, bound_of, files_of, is_within_limits, most_bytes, most_inputs, numbers, takes}

pub bound-small : (P : Plan) (r : ℕ) (rule : Rule) → IsValid P → r < length P.rules → rule ≡ get_or P.rules r rule → rule.bound ≤ most_bytes
bound-small P r rule valid inside here =
    let is = AllPass-from_list_all (λ row. row.bound == min (sum_by (λ port. bound_of P port.file.0) row.outputs) most_bytes) P.rules valid.rule_bounds r rule inside in
    let same : (get_or P.rules r rule).bound ≡ min (sum_by (λ port. bound_of P port.file.0) (get_or P.rules r rule).outputs) most_bytes =
    eqb-true (get_or P.rules r rule).bound (min (sum_by (λ port. bound_of P port.file.0) (get_or P.rules r rule).outputs) most_bytes) is in
    let bound : rule.bound ≡ (get_or P.rules r rule).bound = ap (λ (row : Rule). row.bound) here in
    omega (arith, bound, same, min-le_right (sum_by (λ port. bound_of P port.file.0) (get_or P.rules r rule).outputs) most_bytes)

takes_few : (rules : List Rule) (r : ℕ) → list_all is_within_limits rules ≡ true → length (option_map_or (λ (rule : Rule). files_of rule.inputs) (slice_get rules r) []) ≤ most_inputs
takes_few [] r all = omega arith
takes_few (rule ∷ rules) zero all =
    let these = (and_parts (is_within_limits rule) (list_all is_within_limits rules) all).0 in
    let few = leb-true (length rule.inputs) most_inputs (and_parts (nat_le (length rule.inputs) most_inputs) _ (and_parts _ _ (and_parts _ _ (and_parts _ _ (and_parts _ _ these).0).0).0).0).0 in
    omega (arith, few, length-map rule.inputs (λ port. port.file.0))
takes_few (rule ∷ rules) (suc r) all = takes_few rules r (and_parts (is_within_limits rule) (list_all is_within_limits rules) all).1

-- a rule of a valid plan has few inputs
pub takes-most : (P : Plan) (r : ℕ) → IsValid P → length (takes P r) ≤ most_inputs
takes-most P r valid = takes_few P.rules r valid.within_limits

-- one rule more
pub map-more : {X : Type 0} (f : ℕ → X) (n : ℕ) → map f (numbers (n + 1)) ≡ map f (numbers n) ++ (f n ∷ [])
map-more f n = map-range_with_len_more f 0 n n (let same : 0 + n ≡ n = omega arith in same)
