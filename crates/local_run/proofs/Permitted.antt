-- Where nothing runs in a local run, an admission that admits one of the rules that fit the storage doesn't keep a claim from its rule.
use Rattle.std.proofs.Common.{◌≡◌, ◌∙◌, ℕ, Bool, true, false, cond, ◌&&◌, ◌||◌, not, List, [], ◌∷◌, Option, Some, None, Result, Ok, Err, refl, sym, ap, true≢false}
use Rattle.std.specs.Prelude.{filter, unwrap_or}
use Rattle.std.specs.List.{list_all, list_any}
use Rattle.std.specs.Option.{option_map_or}
use Rattle.std.proofs.lemmas.Bool.{and_parts, or_right}
use Rattle.flow_types.specs.declared.plan.Plan.{Plan}
use Rattle.flow_types.specs.Plans.{is_empty}
use Rattle.run_history.specs.declared.answers.Nothing.{Nothing}
use Rattle.run_history.specs.declared.answers.Nothing.TheVariants as nothing
use Rattle.run_history.specs.declared.answers.Stop.{Stop}
use Rattle.run_history.specs.declared.moves.Move.{Move}
use Rattle.run_history.specs.declared.options.Options.{Options}
use Rattle.run_history.specs.Admissions.{Admitting, admitted_on, by_admitted, claim_by, may_be_stored}
use Rattle.run_history.specs.Answers.{claim_of, claim_refusal, of_least, startable_on}
use Rattle.run_history.specs.Links.{fits, is_local_rule, may_run_on, records_of}
use Rattle.run_history.specs.Storage.{fits_storage, ready_rules}
use Rattle.run_history.proofs.Completes.{all_kept}

abbrev is_claim : Result ℕ Nothing → Bool
is_claim (Ok r) = true
is_claim (Err why) = false

-- a filter by what holds of all
kept_all : (p : ℕ → Bool) (xs : List ℕ) → list_all p xs ≡ true → filter p xs ≡ xs
kept_all p [] all = refl
kept_all p (x ∷ xs) all = let parts = and_parts (p x) (list_all p xs) all in by_test (p x) parts.0 (kept_all p xs parts.1)
  where
    by_test : (b : Bool) → b ≡ true → filter p xs ≡ xs → cond b (x ∷ filter p xs) (filter p xs) ≡ x ∷ xs
    by_test true is rest = ap (λ (l : List ℕ). x ∷ l) rest
    by_test false is rest = absurd (true≢false (sym is))

-- some that pass a test
some_kept : (p : ℕ → Bool) (xs : List ℕ) → is_empty (filter p xs) ≡ false → list_any p xs ≡ true
some_kept p [] some = absurd (true≢false some)
some_kept p (x ∷ xs) some = by_test (p x) (some_kept p xs) some
  where
    by_test : (b : Bool) → (is_empty (filter p xs) ≡ false → list_any p xs ≡ true) → is_empty (cond b (x ∷ filter p xs) (filter p xs)) ≡ false → (b || list_any p xs) ≡ true
    by_test true rest some = refl
    by_test false rest some = rest some

-- one that passes both
both_kept : (p q : ℕ → Bool) (xs : List ℕ) → list_any (λ r. p r && q r) xs ≡ true → is_empty (filter p (filter q xs)) ≡ false
both_kept p q [] some = absurd (true≢false (sym some))
both_kept p q (x ∷ xs) some = by_tests (p x) (q x) refl (both_kept p q xs) some
  where
    by_tests : (b c : Bool) → p x ≡ b → (list_any (λ r. p r && q r) xs ≡ true → is_empty (filter p (filter q xs)) ≡ false) → ((b && c) || list_any (λ r. p r && q r) xs) ≡ true
        → is_empty (filter p (cond c (x ∷ filter q xs) (filter q xs))) ≡ false
    by_tests true true is rest some = ap (λ (b : Bool). is_empty (cond b (x ∷ filter p (filter q xs)) (filter p (filter q xs)))) is
    by_tests true false is rest some = rest some
    by_tests false true is rest some = ap (λ (b : Bool). is_empty (cond b (x ∷ filter p (filter q xs)) (filter p (filter q xs)))) is ∙ rest some
    by_tests false false is rest some = rest some

-- a claim that takes a rule has one to start
some_there : (refusal : Option Nothing) (both : List ℕ) (r : ℕ) → option_map_or Err refusal (unwrap_or (of_least both Ok) (Err nothing.NoneReady)) ≡ Ok r → is_empty both ≡ false
some_there (Some why) both r is = absurd (true≢false (sym (ap is_claim is)))
some_there None [] r is = absurd (true≢false (sym (ap is_claim is)))
some_there None (x ∷ both) r is = refl

-- at the local place those are the ready rules that fit the storage, where all fit there
startables : (P : Plan) (O : Options) (M : List Move) → O.wq ≡ false → list_all (λ r. fits P O M r 0) (ready_rules P (records_of M)) ≡ true
    → startable_on P O M 0 ≡ filter (fits_storage P (records_of M)) (ready_rules P (records_of M))
startables P O M here fitting =
    let ready : List ℕ = ready_rules P (records_of M) in
    ap (λ (xs : List ℕ). filter (fits_storage P (records_of M)) (filter (λ r. fits P O M r 0) xs))
    (all_kept (λ r. may_run_on P O r 0) ready (λ r. or_right (is_local_rule P r) (not O.wq) (ap not here)))
    ∙ ap (λ (xs : List ℕ). filter (fits_storage P (records_of M)) xs) (kept_all (λ r. fits P O M r 0) ready fitting)

-- one is there where a claim takes a rule
pub roomy_there : (P : Plan) (O : Options) (M : List Move) (r : ℕ) → O.wq ≡ false → list_all (λ r. fits P O M r 0) (ready_rules P (records_of M)) ≡ true → claim_of P O M None 0 ≡ Ok r
    → list_any (fits_storage P (records_of M)) (ready_rules P (records_of M)) ≡ true
roomy_there P O M r here fitting claim =
    some_kept (fits_storage P (records_of M)) (ready_rules P (records_of M))
    (ap is_empty (sym (startables P O M here fitting)) ∙ some_there (claim_refusal P O M None 0) (startable_on P O M 0) r claim)

-- and one of them is admitted
pub admitted_there : (A : Admitting) (P : Plan) (O : Options) (M : List Move) → O.wq ≡ false → list_all (λ r. fits P O M r 0) (ready_rules P (records_of M)) ≡ true
    → list_any (may_be_stored A P O (records_of M)) (ready_rules P (records_of M)) ≡ true → is_empty (admitted_on A P O M 0) ≡ false
admitted_there A P O M here fitting some =
    ap (λ (xs : List ℕ). is_empty (filter (A P O (records_of M)) xs)) (startables P O M here fitting)
    ∙ both_kept (A P O (records_of M)) (fits_storage P (records_of M)) (ready_rules P (records_of M)) some

-- then a claim isn't refused
pub not_refused : (A : Admitting) (P : Plan) (O : Options) (M : List Move) (stop : Option Stop) (k r : ℕ) (why : Nothing) → claim_of P O M stop k ≡ Ok r → is_empty (admitted_on A P O M k) ≡ false → claim_by A P O M stop k ≡ Err why → ⊥
not_refused A P O M stop k r why claim some refused = by_list (admitted_on A P O M k) some (sym (ap (λ (answer : Result ℕ Nothing). by_admitted answer (admitted_on A P O M k)) claim) ∙ refused)
  where
    by_list : (admitted : List ℕ) → is_empty admitted ≡ false → by_admitted (Ok r) admitted ≡ Err why → ⊥
    by_list [] some is = true≢false some
    by_list (x ∷ xs) some is = true≢false (ap is_claim is)
