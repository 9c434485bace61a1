-- What a job gave is what its rule may make.
use Rattle.std.proofs.Common.{◌≡◌, ◌≤◌, ◌<◌, ◌+◌, ◌∙◌, ℕ, zero, suc, Bool, true, false, ◌&&◌, List, [], ◌∷◌, length, map, Option, Some, None, Result, Ok, Err, refl, sym, ap, subst, arith, true≢false}
use Rattle.std.specs.Prelude.{◌==◌, is_some, min, nat_le, nat_lt, slice_get, sum_by, unwrap_or}
use Rattle.std.specs.List.{list_all}
use Rattle.std.specs.Option.{option_map_or}
use Rattle.std.proofs.lemmas.Bool.{and_parts, eqb-true, le-leb, ltb-false}
use Rattle.flow_types.specs.declared.plan.Plan.{Plan}
use Rattle.flow_types.specs.declared.plan.Port.{Port}
use Rattle.flow_types.specs.declared.plan.Rule.{Rule}
use Rattle.flow_types.specs.declared.numbers.Content.{Content}
use Rattle.flow_types.specs.declared.job.Failure.{Failure}
use Rattle.flow_types.specs.declared.job.Failure.TheVariants as failures
use Rattle.flow_types.specs.declared.job.Job.{Job}
use Rattle.flow_types.specs.declared.job.Want.{Want}
use Rattle.flow_types.proofs.Totals.{total, total-is}
use Rattle.flow_types.specs.Plans.{IsValid, bound_of, files_of, makes, most_bytes}
use Rattle.run_history.specs.Legal.{are_within, is_failure_at}
use Rattle.outside.specs.Jobs.{AllFit, NamesOutput}
use Rattle.desk.specs.declared.answers.Trouble.{Trouble}
use Rattle.desk.specs.Kept.{logged}
use Rattle.desk.specs.State.{AreOutputs}
use Rattle.desk.specs.Tasks.{want_at}
use Rattle.local_run.specs.declared.halt.Halt.{Halt}
use Rattle.local_run.specs.declared.halt.Halt.TheVariants as halts
use Rattle.local_run.specs.Course.{FailsBy, HaltsBy}

some_is : {A : Type 0} (x y : A) → Some x ≡ Some y → x ≡ y
some_is x y is = ap (λ o. unwrap_or o x) is

all_at : {A : Type 0} (p : A → Bool) (xs : List A) (i : ℕ) (x : A) → list_all p xs ≡ true → slice_get xs i ≡ Some x → p x ≡ true
all_at p [] i x all is = absurd (true≢false (sym (ap is_some is)))
all_at p (y ∷ ys) zero x all is = subst (λ z. p z ≡ true) (some_is y x is) (and_parts (p y) (list_all p ys) all).0
all_at p (y ∷ ys) (suc i) x all is = all_at p ys i x (and_parts (p y) (list_all p ys) all).1 is

within : (P : Plan) (ports : List Port) (outs : List (List ℕ)) → AllFit (map (want_at P) ports) outs → are_within P (files_of ports) (map logged outs) ≡ true
within P [] [] fit = refl
within P [] (out ∷ outs) fit = absurd fit
within P (port ∷ ports) [] fit = absurd fit
within P (port ∷ ports) (out ∷ outs) fit =
    ap (λ b. b && are_within P (files_of ports) (map logged outs)) (le-leb (length out) (bound_of P port.file.0) fit.0) ∙ within P ports outs fit.1

bounded : (P : Plan) (ports : List Port) (outs : List (List ℕ)) → AllFit (map (want_at P) ports) outs
    → total (λ (row : Content). row.size) (map logged outs) ≤ total (λ (port : Port). bound_of P port.file.0) ports
bounded P [] [] fit = omega arith
bounded P [] (out ∷ outs) fit = absurd fit
bounded P (port ∷ ports) [] fit = absurd fit
bounded P (port ∷ ports) (out ∷ outs) fit = let rest = bounded P ports outs fit.1 in let here = fit.0 in omega (arith, rest, here)

sizes : (outs : List (List ℕ)) → total (λ (row : Content). row.size) (map logged outs) ≡ total (λ (c : List ℕ). length c) outs
sizes [] = refl
sizes (out ∷ outs) = ap (λ n. length out + n) (sizes outs)

by_row : (P : Plan) (r : ℕ) (job : Job) (outs : List (List ℕ)) (row : Option Rule) → IsValid P → slice_get P.rules r ≡ row → is_some row ≡ true
    → ((rule : Rule) → slice_get P.rules r ≡ Some rule → job.outputs ≡ map (want_at P) rule.outputs) → AllFit job.outputs outs → sum_by (λ (c : List ℕ). length c) outs ≤ most_bytes → AreOutputs P r outs
by_row P r job outs None valid is there wants fit few = absurd (true≢false (sym there))
by_row P r job outs (Some rule) valid is there wants fit few =
    let fits : AllFit (map (want_at P) rule.outputs) outs = subst (λ (ws : List Want). AllFit ws outs) (wants rule is) fit in
    let bound : rule.bound ≡ min (sum_by (λ (port : Port). bound_of P port.file.0) rule.outputs) most_bytes =
    eqb-true _ _ (all_at (λ (rule : Rule). rule.bound == min (sum_by (λ (port : Port). bound_of P port.file.0) rule.outputs) most_bytes) P.rules r rule valid.rule_bounds is) in
    record {
      within = ap (λ (o : Option Rule). are_within P (option_map_or (λ (rule : Rule). files_of rule.outputs) o []) (map logged outs)) is ∙ within P rule.outputs outs fits;
      together = ap (λ (o : Option Rule). nat_le (sum_by (λ (row : Content). row.size) (map logged outs)) (option_map_or (λ (rule : Rule). rule.bound) o 0)) is
          ∙ (let le = bounded P rule.outputs outs fits in let same = sizes outs in
          let a = total-is (λ (row : Content). row.size) (map logged outs) in let b = total-is (λ (port : Port). bound_of P port.file.0) rule.outputs in let d = total-is (λ (c : List ℕ). length c) outs in
          le-leb (sum_by (λ (row : Content). row.size) (map logged outs)) rule.bound (omega (arith, le, same, few, bound, a, b, d)));
    }

there_by : {A : Type 0} (xs : List A) (i : ℕ) → i < length xs → is_some (slice_get xs i) ≡ true
there_by [] i lt = absurd (omega (arith, lt))
there_by (x ∷ xs) zero lt = refl
there_by (x ∷ xs) (suc i) lt = there_by xs i (omega (arith, lt))

-- the outputs of a job are within the bounds of its rule
pub outputs_fit : (P : Plan) (r : ℕ) (job : Job) (outs : List (List ℕ)) → IsValid P → r < length P.rules → ((rule : Rule) → slice_get P.rules r ≡ Some rule → job.outputs ≡ map (want_at P) rule.outputs)
    → AllFit job.outputs outs → sum_by (λ (c : List ℕ). length c) outs ≤ most_bytes → AreOutputs P r outs
outputs_fit P r job outs valid inside wants fit few = by_row P r job outs (slice_get P.rules r) valid refl (there_by P.rules r inside) wants fit few

lt_leb : (a b : ℕ) (t : Bool) → nat_lt a b ≡ t → a < b → nat_lt a b ≡ true
lt_leb a b true is lt = is
lt_leb a b false is lt = absurd (by_false is lt)
  where
    by_false : nat_lt a b ≡ false → a < b → ⊥
    by_false is lt = let le = ltb-false a b is in omega (arith, le, lt)

named : (why : Failure) (n : ℕ) → NamesOutput why n → is_failure_at why n ≡ true
named (failures.Status code) n is = refl
named (failures.MissingOutput index) n is = lt_leb index n (nat_lt index n) refl is
named (failures.TooLong index size) n is = lt_leb index n (nat_lt index n) refl is

ports_are : (P : Plan) (ports : List Port) → length (map (want_at P) ports) ≡ length (files_of ports)
ports_are P [] = refl
ports_are P (port ∷ ports) = ap suc (ports_are P ports)

index_by : (P : Plan) (r : ℕ) (job : Job) (why : Failure) (row : Option Rule) → slice_get P.rules r ≡ row → is_some row ≡ true
    → ((rule : Rule) → slice_get P.rules r ≡ Some rule → job.outputs ≡ map (want_at P) rule.outputs) → NamesOutput why (length job.outputs) → is_failure_at why (length (makes P r)) ≡ true
index_by P r job why None is there wants names = absurd (true≢false (sym there))
index_by P r job why (Some rule) is there wants names =
    ap (λ (o : Option Rule). is_failure_at why (length (option_map_or (λ (rule : Rule). files_of rule.outputs) o []))) is
    ∙ named why (length (files_of rule.outputs)) (subst (NamesOutput why) (ap length (wants rule is) ∙ ports_are P rule.outputs) names)

-- an index in a job's failure is that of an output of its rule
pub failure_fits : (P : Plan) (r : ℕ) (job : Job) (why : Failure) → r < length P.rules → ((rule : Rule) → slice_get P.rules r ≡ Some rule → job.outputs ≡ map (want_at P) rule.outputs)
    → NamesOutput why (length job.outputs) → is_failure_at why (length (makes P r)) ≡ true
failure_fits P r job why inside wants names = index_by P r job why (slice_get P.rules r) refl (there_by P.rules r inside) wants names

-- why a call of the desk stopped the run is why the run stopped
pub halts_from : (t : Trouble) (before now : ℕ) (r : Result (Unit {0}) Halt) → FailsBy t r → HaltsBy t before now r
halts_from t before now (Ok done) h = tt
halts_from t before now (Err (halts.Damaged file logged found)) h = absurd h
halts_from t before now (Err halts.Runner) h = absurd h
halts_from t before now (Err halts.Site) h = h
halts_from t before now (Err halts.Memory) h = tt

-- and since an earlier count
pub halts_later : {A : Type 0} (t : Trouble) (first before now : ℕ) (r : Result A Halt) → first ≤ before → HaltsBy t before now r → HaltsBy t first now r
halts_later t first before now (Ok done) le h = tt
halts_later t first before now (Err (halts.Damaged file logged found)) le h = h
halts_later t first before now (Err halts.Runner) le h = (h.0, (let rose = h.1 in omega (arith, rose, le)))
halts_later t first before now (Err halts.Site) le h = h
halts_later t first before now (Err halts.Memory) le h = tt
