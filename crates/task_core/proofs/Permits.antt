-- Claims where an admission has a say.
use Rattle.std.proofs.Common.{◌≡◌, ℕ, arith, length, Bool, true, false, cond, ◌&&◌, ◌||◌, ◌==◌, List, [], ◌∷◌, Option, Some, None, Result, Ok, Err, refl, ap, sym, ◌∙◌, true≢false}
use Rattle.std.specs.Prelude.{filter, find, unwrap_or}
use Rattle.std.specs.Option.{option_map_or}
use Rattle.std.proofs.lemmas.Bool.{and_parts, eq-eqb}
use Rattle.flow_types.specs.declared.plan.Plan.{Plan}
use Rattle.flow_types.specs.declared.records.Record.{Record}
use Rattle.run_history.specs.declared.options.Options.{Options}
use Rattle.run_history.specs.declared.moves.Move.{Move}
use Rattle.run_history.specs.declared.answers.Nothing.{Nothing}
use Rattle.run_history.specs.declared.answers.Nothing.TheVariants as nothing
use Rattle.run_history.specs.declared.answers.Stop.{Stop}
use Rattle.run_history.specs.declared.answers.Stop.TheVariants as stops
use Rattle.run_history.specs.Admissions.{Admitting, admitted_on, all_admitted, by_admitted, claim_by, is_among, is_claimable, stop_by, takes_one}
use Rattle.run_history.specs.Answers.{claim_of, claim_refusal, of_least, rule_no, startable_on, stop_of}
use Rattle.run_history.specs.Links.{may_run_on, records_of}
use Rattle.ready_rules.specs.declared.shelf.Weight.{Weight}
use Rattle.task_core.specs.declared.asking.AskedFor.TheVariants as asked_for
use Rattle.task_core.specs.Admissions.{NoneBefore, asks_for_by}
use Rattle.task_core.specs.Asked.{AreCandidates, asks_for}
use Rattle.task_core.specs.Known.{Known, can_start, claim_in, fits_link, has_storage, ready_for, rules_of, startable_for}
use Rattle.task_core.specs.Stands.{Stands}
use Rattle.task_core.specs.States.{TableState, known_in}
use Rattle.task_core.specs.Surveys.{is_ready_for}
use Rattle.task_core.proofs.Choosing.{filter-both, head, head-find}
use Rattle.task_core.proofs.Looking.{IsLooking, find-least}
use Rattle.task_core.proofs.Numbers.{find-true}
use Rattle.task_core.proofs.Same.{claim-same}
use Rattle.task_core.proofs.Standing.{knows}

ok_not_err : {A B : Type 0} {a : A} {b : B} → Ok a ≡ Err b → ⊥
ok_not_err is = true≢false (ap (λ r. from r) is)
  where
    from : {A B : Type 0} → Result A B → Bool
    from (Ok a) = true
    from (Err b) = false

-- What is refused without an admission is refused with one.
pub claim-refused : (A : Admitting) (P : Plan) (O : Options) (M : List Move) (stop : Option Stop) (k : ℕ) (why : Nothing) → claim_of P O M stop k ≡ Err why → claim_by A P O M stop k ≡ Err why
claim-refused A P O M stop k why is = ap (λ c. by_admitted c (admitted_on A P O M k)) is

all_kept : (xs : List ℕ) → filter (λ x. true) xs ≡ xs
all_kept [] = refl
all_kept (x ∷ xs) = ap (λ (ys : List ℕ). x ∷ ys) (all_kept xs)

ever_by : (refusal : Option Nothing) (both : List ℕ)
    → by_admitted (option_map_or Err refusal (unwrap_or (of_least both Ok) (Err nothing.NoneReady))) both ≡ option_map_or Err refusal (unwrap_or (of_least both Ok) (Err nothing.NoneReady))
ever_by (Some x) both = refl
ever_by None [] = refl
ever_by None (r ∷ rs) = refl

-- Where every rule is admitted a claim answers as without an admission.
pub claim-all : (P : Plan) (O : Options) (M : List Move) (stop : Option Stop) (k : ℕ) → claim_by all_admitted P O M stop k ≡ claim_of P O M stop k
claim-all P O M stop k = ap (by_admitted (claim_of P O M stop k)) (all_kept (startable_on P O M k)) ∙ ever_by (claim_refusal P O M stop k) (startable_on P O M k)

by_head : (first : ℕ) (admitted : List ℕ) → by_admitted (Ok first) admitted ≡ option_map_or Ok (head admitted) (Err (nothing.NotAdmitted (rule_no first)))
by_head first [] = refl
by_head first (r ∷ rs) = refl

-- Where a rule fits, the least that is admitted is taken, or none is.
pub claim-admitted : (A : Admitting) (P : Plan) (O : Options) (M : List Move) (stop : Option Stop) (k first : ℕ) (found : Option ℕ) → claim_of P O M stop k ≡ Ok first → head (admitted_on A P O M k) ≡ found
    → claim_by A P O M stop k ≡ option_map_or Ok found (Err (nothing.NotAdmitted (rule_no first)))
claim-admitted A P O M stop k first found is least =
    ap (λ c. by_admitted c (admitted_on A P O M k)) is ∙ by_head first (admitted_on A P O M k) ∙ ap (λ o. option_map_or Ok o (Err (nothing.NotAdmitted (rule_no first)))) least

-- Where every rule is admitted a stop is set as without an admission.
pub stop-all : (P : Plan) (O : Options) (M : List Move) (stop : Option Stop) (why : Stop) → stop_by all_admitted P O M stop why ≡ stop_of P O M stop why
stop-all P O M (Some first) why = refl
stop-all P O M None stops.Halt = refl
stop-all P O M None (stops.Waited idles) = refl

-- what a claim answers by the moves, where a table answers so
pub claim-is : (t : TableState) (M : List Move) (k : ℕ) (answer : Result ℕ Nothing) → Stands t M → answer ≡ claim_in (known_in t) t.stop k → claim_of t.plan t.options M t.stop k ≡ answer
claim-is t M k answer stands claim = sym (claim-same t.plan t.options M t.stop k) ∙ sym (ap (λ (K : Known). claim_in K t.stop k) (knows t M stands)) ∙ sym claim

-- the rules that a claim may start
pub startables : (K : Known) (k : ℕ) → startable_for K k ≡ filter (asks_for K k asked_for.Startable) (rules_of K)
startables K k =
    filter-both (fits_link K k) (has_storage K) (ready_for K k)
    ∙ ap (filter (λ r. fits_link K k r && has_storage K r)) (filter-both (can_start K) (λ r. may_run_on K.plan K.options r k) (rules_of K))
    ∙ filter-both (is_ready_for K k) (λ r. fits_link K k r && has_storage K r) (rules_of K)

-- the least of them that is admitted
pub least-admitted : (A : Admitting) (t : TableState) (M : List Move) (k : ℕ) → Stands t M → head (admitted_on A t.plan t.options M k) ≡ find (asks_for_by A (known_in t) (records_of M) k asked_for.Startable) (rules_of (known_in t))
least-admitted A t M k stands =
    ap (λ (K : Known). head (filter (A t.plan t.options (records_of M)) (startable_for K k))) (sym (knows t M stands))
    ∙ ap (λ (xs : List ℕ). head (filter (A t.plan t.options (records_of M)) xs)) (startables (known_in t) k)
    ∙ ap head (filter-both (asks_for (known_in t) k asked_for.Startable) (A t.plan t.options (records_of M)) (rules_of (known_in t)))
    ∙ head-find (asks_for_by A (known_in t) (records_of M) k asked_for.Startable) (rules_of (known_in t))

-- a claim that takes a rule answers the least startable one
pub least-startable : (K : Known) (stop : Option Stop) (k first : ℕ) → Ok first ≡ claim_in K stop k → find (asks_for K k asked_for.Startable) (rules_of K) ≡ Some first
least-startable K stop k first is = sym (head-find (asks_for K k asked_for.Startable) (rules_of K)) ∙ sym (ap head (startables K k)) ∙ first_of_claim _ (startable_for K k) (sym is)
  where
    value : ℕ → Result ℕ Nothing → ℕ
    value d (Ok n) = n
    value d (Err e) = d

    first_of_claim : (refusal : Option Nothing) (both : List ℕ) → option_map_or Err refusal (unwrap_or (of_least both Ok) (Err nothing.NoneReady)) ≡ Ok first → head both ≡ Some first
    first_of_claim (Some x) both claimed = absurd (ok_not_err (sym claimed))
    first_of_claim None [] claimed = absurd (ok_not_err (sym claimed))
    first_of_claim None (r ∷ rs) claimed = ap Some (ap (value r) claimed)

-- none before it may start
pub none-before : (K : Known) (stop : Option Stop) (k first : ℕ) → Ok first ≡ claim_in K stop k → NoneBefore K k first
none-before K stop k first is =
    let least = find-least (asks_for K k asked_for.Startable) 0 (length K.plan.rules) first (least-startable K stop k first is) in
    (omega (arith, least.to), λ r less. least.least r (omega arith) less)

-- what is narrowed holds of no more rules
pub fewer : (K : Known) (limits : Weight) (p q : ℕ → Bool) → AreCandidates K limits p → AreCandidates K limits (λ r. p r && q r)
fewer K limits p q are r inside holds = are r inside (and_parts (p r) (q r) holds).0

and_none : (a b : Bool) → a ≡ false → (a && b) ≡ false
and_none a b is = ap (λ x. x && b) is

-- the look begins behind those before
pub looking-from : (A : Admitting) (K : Known) (H : List Record) (k first : ℕ) → NoneBefore K k first → IsLooking K (asks_for_by A K H k asked_for.Startable) first
looking-from A K H k first before = record {
  within = before.0;
  passed = λ r less. and_none (asks_for K k asked_for.Startable r) (A K.plan K.options H r) (before.1 r less);
}

-- a rule that may start can start, and fits the storage
pub may-start : (K : Known) (k r : ℕ) → asks_for K k asked_for.Startable r ≡ true → (can_start K r ≡ true) × (has_storage K r ≡ true)
may-start K k r passes =
    let parts = and_parts (is_ready_for K k r) (fits_link K k r && has_storage K r) passes in
    ((and_parts (can_start K r) (may_run_on K.plan K.options r k) parts.0).0, (and_parts (fits_link K k r) (has_storage K r) parts.1).1)

admits_head : (p : ℕ → Bool) (xs : List ℕ) (a : ℕ) → head (filter p xs) ≡ Some a → p a ≡ true
admits_head p xs a least = find-true p xs a (sym (head-find p xs) ∙ least)

admits_by : (answer : Result ℕ Nothing) (both : List ℕ) (p : ℕ → Bool) (r : ℕ) (admitted : List ℕ) → admitted ≡ filter p both → by_admitted answer admitted ≡ Ok r → p r ≡ true
admits_by (Err why) both p r admitted is claimed = absurd (ok_not_err (sym claimed))
admits_by (Ok first) both p r [] is claimed = absurd (ok_not_err (sym claimed))
admits_by (Ok first) both p r (a ∷ more) is claimed = ap p (sym taken) ∙ admits_head p both a (sym (ap head is))
  where
    value : Result ℕ Nothing → ℕ
    value (Ok n) = n
    value (Err e) = a

    taken : a ≡ r
    taken = ap value claimed

-- A rule that is claimed is admitted.
pub claim-admits : (A : Admitting) (P : Plan) (O : Options) (M : List Move) (stop : Option Stop) (k r : ℕ) → claim_by A P O M stop k ≡ Ok r → A P O (records_of M) r ≡ true
claim-admits A P O M stop k r is = admits_by (claim_of P O M stop k) (startable_on P O M k) (A P O (records_of M)) r (admitted_on A P O M k) refl is

or_true : (a b : Bool) → b ≡ true → (a || b) ≡ true
or_true true b is = refl
or_true false b is = is

-- what is found is among them
found_among : (p : ℕ → Bool) (xs : List ℕ) (a : ℕ) → find p xs ≡ Some a → is_among xs a ≡ true
found_among p [] a found = absurd cc
found_among p (x ∷ xs) a found = by_test (p x) found (found_among p xs a)
  where
    by_test : (b : Bool) → cond b (Some x) (find p xs) ≡ Some a → (find p xs ≡ Some a → is_among xs a ≡ true) → ((x == a) || is_among xs a) ≡ true
    by_test true here rest = let same : x ≡ a = cc in ap (λ b. b || is_among xs a) (eq-eqb x a same)
    by_test false here rest = or_true (x == a) (is_among xs a) (rest here)

claimable_by : (answer : Result ℕ Nothing) (both : List ℕ) (p : ℕ → Bool) (r : ℕ) (admitted : List ℕ) → admitted ≡ filter p both → by_admitted answer admitted ≡ Ok r → (takes_one answer && is_among both r) ≡ true
claimable_by (Err why) both p r admitted is claimed = absurd (ok_not_err (sym claimed))
claimable_by (Ok first) both p r [] is claimed = absurd (ok_not_err (sym claimed))
claimable_by (Ok first) both p r (a ∷ more) is claimed = ap (is_among both) (sym taken) ∙ found_among p both a (sym (head-find p both) ∙ sym (ap head is))
  where
    value : Result ℕ Nothing → ℕ
    value (Ok n) = n
    value (Err e) = a

    taken : a ≡ r
    taken = ap value claimed

-- A rule that is claimed is claimable.
pub claim-claimable : (A : Admitting) (P : Plan) (O : Options) (M : List Move) (stop : Option Stop) (k r : ℕ) → claim_by A P O M stop k ≡ Ok r → is_claimable P O M stop k r ≡ true
claim-claimable A P O M stop k r is = claimable_by (claim_of P O M stop k) (startable_on P O M k) (A P O (records_of M)) r (admitted_on A P O M k) refl is
