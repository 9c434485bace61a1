-- What stays so over the records of a part.
use Rattle.std.proofs.Common.{◌≡◌, ◌≤◌, ◌+◌, cond, arith, true≢false, ℕ, Bool, true, false, not, ◌&&◌, List, [], ◌∷◌, ◌++◌, refl, ap, sym, ◌∙◌, append-nil, append_assoc}
use Rattle.std.specs.Prelude.{count_by}
use Rattle.std.proofs.lemmas.List.Recursion.{is_count_by}
use Rattle.std.specs.List.{list_any, list_all}
use Rattle.std.proofs.lemmas.Bool.{and_parts, or_parts}
use Rattle.flow_types.specs.declared.records.Record.{Record}
use Rattle.run_history.specs.declared.states.RuleState.{RuleState}
use Rattle.run_history.specs.declared.states.RuleState.TheVariants as rule
use Rattle.run_history.specs.History.{is_cleaned}
use Rattle.run_history.specs.States.{rule_state}
use Rattle.run_history.specs.Storage.{is_complete, is_complete_state, is_waiting, is_waiting_state}
use Rattle.run_history.proofs.Steps.{complete-push}

pub complete-append : (H more : List Record) (r : ℕ) → is_complete H r ≡ true → list_any is_cleaned more ≡ false → is_complete (H ++ more) r ≡ true
complete-append H [] r complete same = ap (λ xs. is_complete xs r) (append-nil H) ∙ complete
complete-append H (x ∷ more) r complete same =
    let parts : (is_cleaned x ≡ false) × (list_any is_cleaned more ≡ false) = or_parts (is_cleaned x) (list_any is_cleaned more) same in
    ap (λ xs. is_complete xs r) (sym (append_assoc H (x ∷ []) more))
    ∙ complete-append (H ++ (x ∷ [])) more r (complete-push H x r parts.0 complete) parts.1

pub all-complete-append : (H more : List Record) (rs : List ℕ) → list_all (is_complete H) rs ≡ true → list_any is_cleaned more ≡ false → list_all (is_complete (H ++ more)) rs ≡ true
all-complete-append H more [] complete same = refl
all-complete-append H more (r ∷ rs) complete same =
    let parts : (is_complete H r ≡ true) × (list_all (is_complete H) rs ≡ true) = and_parts (is_complete H r) (list_all (is_complete H) rs) complete in
    ap (λ b. b && list_all (is_complete (H ++ more)) rs) (complete-append H more r parts.0 same)
    ∙ all-complete-append H more rs parts.1 same

waits_not : (state : RuleState) → is_complete_state state ≡ true → is_waiting_state state ≡ false
waits_not rule.Waiting complete = sym complete
waits_not (rule.Running attempt) complete = refl
waits_not rule.Complete complete = refl
waits_not rule.Failed complete = refl

-- a complete rule doesn't wait
pub complete-not_waiting : (H : List Record) (r : ℕ) → is_complete H r ≡ true → is_waiting H r ≡ false
complete-not_waiting H r complete = waits_not (rule_state H r) complete

pub not_from : (b : Bool) → not b ≡ true → b ≡ false
not_from true h = sym h
not_from false h = refl

-- how many items pass
abbrev counted : (ℕ → Bool) → List ℕ → ℕ
counted p [] = 0
counted p (x ∷ xs) = cond (p x) (1 + counted p xs) (counted p xs)

counted-is : (p : ℕ → Bool) (xs : List ℕ) → counted p xs ≡ count_by p xs
counted-is p xs = is_count_by (counted p) p refl (λ x xs. refl) xs

counted-more : (H more : List Record) (rs : List ℕ) → list_any is_cleaned more ≡ false → counted (is_complete H) rs ≤ counted (is_complete (H ++ more)) rs
counted-more H more [] same = omega arith
counted-more H more (r ∷ rs) same = by_test (is_complete H r) (is_complete (H ++ more) r) (λ complete. complete-append H more r complete same) (counted-more H more rs same)
  where
    by_test : (a b : Bool) → (a ≡ true → b ≡ true) → counted (is_complete H) rs ≤ counted (is_complete (H ++ more)) rs
        → cond a (1 + counted (is_complete H) rs) (counted (is_complete H) rs) ≤ cond b (1 + counted (is_complete (H ++ more)) rs) (counted (is_complete (H ++ more)) rs)
    by_test false false implies rest = rest
    by_test false true implies rest = omega (arith, rest)
    by_test true false implies rest = absurd (true≢false (sym (implies refl)))
    by_test true true implies rest = omega (arith, rest)

-- no fewer of these rules are complete later in the part
pub complete-more : (H more : List Record) (rs : List ℕ) → list_any is_cleaned more ≡ false → count_by (is_complete H) rs ≤ count_by (is_complete (H ++ more)) rs
complete-more H more rs same = omega (arith, counted-more H more rs same, counted-is (is_complete H) rs, counted-is (is_complete (H ++ more)) rs)
