-- An outcome that has the shape of a rule's job may be logged of the rule.
use Rattle.std.proofs.Common.{◌≡◌, ℕ, zero, suc, ◌+◌, ◌≤◌, Bool, true, List, [], ◌∷◌, length, Some, refl, ap, sym, ◌∙◌, arith}
use Rattle.std.specs.Prelude.{slice_get, map, sum_by, nat_le, ◌==◌, min}
use Rattle.std.specs.List.{list_all}
use Rattle.std.specs.Option.{option_map_or}
use Rattle.std.proofs.lemmas.Bool.{and_parts, le-leb, lt-ltb, eqb-true}
use Rattle.std.proofs.lemmas.List.{length-map}
use Rattle.flow_types.specs.declared.plan.Plan.{Plan}
use Rattle.flow_types.specs.declared.plan.Rule.{Rule}
use Rattle.flow_types.specs.declared.plan.Port.{Port}
use Rattle.flow_types.specs.declared.job.Failure.{Failure}
use Rattle.flow_types.specs.declared.job.Failure.TheVariants as failures
use Rattle.flow_types.specs.Plans.{IsValid, bound_of, files_of, makes, most_bytes}
use Rattle.flow_types.proofs.Totals.{total, total-is}
use Rattle.outside.specs.Jobs.{AllFit, NamesOutput}
use Rattle.run_history.specs.Legal.{are_within, is_failure_at}
use Rattle.run_history.specs.Storage.{rule_bound}
use Rattle.run_history.proofs.Bools.{both}
use Rattle.world_laws.specs.Worlds.{row_for, want_at}

fit_within : (P : Plan) (ports : List Port) (outs : List (List ℕ)) → AllFit (map (want_at P) ports) outs → are_within P (files_of ports) (map row_for outs) ≡ true
fit_within P [] [] fits = refl
fit_within P [] (out ∷ outs) fits = absurd fits
fit_within P (port ∷ ports) [] fits = absurd fits
fit_within P (port ∷ ports) (out ∷ outs) fits =
    both (nat_le (length out) (bound_of P port.file.0)) (are_within P (files_of ports) (map row_for outs))
    (le-leb (length out) (bound_of P port.file.0) fits.0) (fit_within P ports outs fits.1)

fit_total : (P : Plan) (ports : List Port) (outs : List (List ℕ)) → AllFit (map (want_at P) ports) outs → total length outs ≤ total (λ port. bound_of P port.file.0) ports
fit_total P [] [] fits = omega arith
fit_total P [] (out ∷ outs) fits = absurd fits
fit_total P (port ∷ ports) [] fits = absurd fits
fit_total P (port ∷ ports) (out ∷ outs) fits =
    let here : length out ≤ bound_of P port.file.0 = fits.0 in
    let rest : total length outs ≤ total (λ port. bound_of P port.file.0) ports = fit_total P ports outs fits.1 in
    omega (arith, here, rest)

size_total : (outs : List (List ℕ)) → total (λ row. row.size) (map row_for outs) ≡ total length outs
size_total [] = refl
size_total (out ∷ outs) = ap (λ n. length out + n) (size_total outs)

pub all_got : {A : Type 0} (p : A → Bool) (xs : List A) (n : ℕ) (x : A) → list_all p xs ≡ true → slice_get xs n ≡ Some x → p x ≡ true
all_got p [] n x all got = absurd (let h : ⊥ = cc in h)
all_got p (y ∷ ys) zero x all got = let same : x ≡ y = cc in ap p same ∙ (and_parts _ _ all).0
all_got p (y ∷ ys) (suc n) x all got = all_got p ys n x (and_parts _ _ all).1 got

rule_makes : (P : Plan) (r : ℕ) (rule : Rule) → slice_get P.rules r ≡ Some rule → makes P r ≡ files_of rule.outputs
rule_makes P r rule at = ap (λ found. option_map_or (λ rule. files_of rule.outputs) found []) at

-- the outputs are within the bounds of the files
pub outs_within : (P : Plan) (r : ℕ) (rule : Rule) (outs : List (List ℕ)) → slice_get P.rules r ≡ Some rule → AllFit (map (want_at P) rule.outputs) outs
    → are_within P (makes P r) (map row_for outs) ≡ true
outs_within P r rule outs at fits =
    ap (λ fs. are_within P fs (map row_for outs)) (rule_makes P r rule at) ∙ fit_within P rule.outputs outs fits

-- and together within that of the rule
pub outs_together : (P : Plan) (r : ℕ) (rule : Rule) (outs : List (List ℕ)) → IsValid P → slice_get P.rules r ≡ Some rule → AllFit (map (want_at P) rule.outputs) outs
    → sum_by (λ c. length c) outs ≤ most_bytes → nat_le (sum_by (λ row. row.size) (map row_for outs)) (rule_bound P r) ≡ true
outs_together P r rule outs valid at fits few =
    let sizes : sum_by (λ row. row.size) (map row_for outs) ≡ total length outs = sym (total-is (λ row. row.size) (map row_for outs)) ∙ size_total outs in
    let bounds : total length outs ≤ total (λ port. bound_of P port.file.0) rule.outputs = fit_total P rule.outputs outs fits in
    let is : rule.bound ≡ min (sum_by (λ port. bound_of P port.file.0) rule.outputs) most_bytes =
    eqb-true rule.bound (min (sum_by (λ port. bound_of P port.file.0) rule.outputs) most_bytes)
    (all_got (λ rule. rule.bound == min (sum_by (λ port. bound_of P port.file.0) rule.outputs) most_bytes) P.rules r rule valid.rule_bounds at) in
    let same : total length outs ≡ sum_by (λ c. length c) outs = total-is length outs in
    let sums : total (λ port. bound_of P port.file.0) rule.outputs ≡ sum_by (λ port. bound_of P port.file.0) rule.outputs = total-is (λ port. bound_of P port.file.0) rule.outputs in
    let bound : rule_bound P r ≡ rule.bound = ap (λ found. option_map_or (λ rule. rule.bound) found 0) at in
    le-leb (sum_by (λ row. row.size) (map row_for outs)) (rule_bound P r) (omega (arith, sizes, few, bounds, is, same, sums, bound))

-- as many files as outputs
makes_length : (P : Plan) (r : ℕ) (rule : Rule) → slice_get P.rules r ≡ Some rule → length (makes P r) ≡ length (map (want_at P) rule.outputs)
makes_length P r rule at =
    ap length (rule_makes P r rule at) ∙ length-map rule.outputs (λ port. port.file.0) ∙ sym (length-map rule.outputs (want_at P))

named_at : (why : Failure) (outputs : ℕ) → NamesOutput why outputs → is_failure_at why outputs ≡ true
named_at (failures.Status code) outputs named = refl
named_at (failures.MissingOutput index) outputs named = lt-ltb index outputs named
named_at (failures.TooLong index size) outputs named = lt-ltb index outputs named

-- a failure that names an output names a file
pub failure_at : (P : Plan) (r : ℕ) (rule : Rule) (why : Failure) → slice_get P.rules r ≡ Some rule → NamesOutput why (length (map (want_at P) rule.outputs))
    → is_failure_at why (length (makes P r)) ≡ true
failure_at P r rule why at named = ap (is_failure_at why) (makes_length P r rule at) ∙ named_at why (length (map (want_at P) rule.outputs)) named
