-- An admission that lets one rule run after the other, and none once the first has failed.
use Rattle.std.specs.Prelude.{◌≡◌, ℕ, zero, suc, Bool, true, false, not, ◌&&◌, List, length, nat_lt}
use Rattle.std.specs.List.{list_any}
use Rattle.std.proofs.Common.{arith, ap, subst, sym, ◌∙◌}
use Rattle.std.proofs.lemmas.Bool.{lt-ltb, or_parts}
use Rattle.flow_types.specs.declared.plan.Plan.{Plan}
use Rattle.flow_types.specs.declared.records.Record.{Record}
use Rattle.flow_types.specs.Plans.{is_empty, numbers}
use Rattle.run_history.specs.Admissions.{AdmitsOne, Admitting}
use Rattle.run_history.specs.Storage.{fits_storage, has_failed, ready_rules, running_rules}

-- there is a first rule, and it has failed
abbrev pub has_first_failed : Plan → List Record → Bool
has_first_failed P H = nat_lt 0 (length P.rules) && has_failed H 0

-- no rule runs, and the first hasn't failed
abbrev pub is_one_by_one : Admitting
is_one_by_one P O H r = is_empty (running_rules P H) && not (has_first_failed P H)

none_failed : (H : List Record) (n : ℕ) → list_any (has_failed H) (numbers n) ≡ false → (nat_lt 0 n && has_failed H 0) ≡ false
none_failed H zero none = none
none_failed H (suc n) none = ap (λ b. b && has_failed H 0) (lt-ltb 0 (suc n) (omega arith)) ∙ (or_parts (has_failed H 0) _ none).0

-- Where no rule runs and none has failed, each is admitted.
pub one_is_admitted : AdmitsOne is_one_by_one (λ plan. Unit {0})
one_is_admitted P O digest H stands valid legal idle lost unwanted some =
    subst (λ (alone : Bool). list_any (λ r. (alone && not (has_first_failed P H)) && fits_storage P H r) (ready_rules P H) ≡ true) (sym idle)
    (subst (λ (failed : Bool). list_any (λ r. (true && not failed) && fits_storage P H r) (ready_rules P H) ≡ true) (sym (none_failed H (length P.rules) lost)) some)
