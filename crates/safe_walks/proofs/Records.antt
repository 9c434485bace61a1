-- What a record changes of the walk.
use Rattle.std.proofs.Common.{◌≡◌, ℕ, ◌≤◌, Bool, true, false, not, ◌&&◌, ◌||◌, List, [], ◌∷◌, ◌++◌}
use Rattle.std.proofs.Common.{Some, None, refl, ap, sym, ◌∙◌, arith, true≢false}
use Rattle.std.specs.Prelude.{◌==◌, is_some}
use Rattle.std.specs.List.{list_any}
use Rattle.std.specs.Option.{option_map_or}
use Rattle.std.proofs.lemmas.Bool.{eqb-true}
use Rattle.std.proofs.lemmas.List.Folds.{list_any-append}
use Rattle.flow_types.specs.declared.plan.Plan.{Plan}
use Rattle.flow_types.specs.declared.numbers.RuleNo.{RuleNo}
use Rattle.flow_types.specs.declared.numbers.AttemptNo.{AttemptNo}
use Rattle.flow_types.specs.declared.numbers.LinkNo.{LinkNo}
use Rattle.flow_types.specs.declared.records.Record.{Record}
use Rattle.flow_types.specs.declared.records.Record.TheVariants as records
use Rattle.flow_types.specs.Plans.{maker_of}
use Rattle.run_history.specs.History.{is_cleaned, part}
use Rattle.run_history.specs.States.{outs_of, outs_in}
use Rattle.run_history.specs.Storage.{is_complete}
use Rattle.run_history.proofs.Steps.{complete-is, complete-push, outs-push, part-push}
use Rattle.run_history.proofs.Stores.{weight, weight_by, weight_keeps}
use Rattle.safe_walks.specs.Walk.{Standing, starts, was_started, is_claimed, standing, with_claim}
use Rattle.safe_walks.specs.Walk.{stays_within}
use Rattle.safe_walks.specs.Safe.{is_safe, admits_under}
use Rattle.safe_walks.proofs.Walks.{IsLess, is-less, less-within, made_size}

-- a started rule, once one more record stands
pub started-push : (H : List Record) (x : Record) (r : ℕ) → is_cleaned x ≡ false
    → was_started (H ++ (x ∷ [])) r ≡ (was_started H r || (starts r x || false))
started-push H x r more = ap (list_any (starts r)) (part-push H x more)
    ∙ list_any-append (starts r) (part H) (x ∷ [])

-- the bytes of a made file by what was logged of it
pub size-is : (P : Plan) (H : List Record) (f : ℕ) → made_size P (standing P H) f ≡ weight P H f
size-is P H f = weight_by P H f (maker_of P f) _

size_keeps : (P : Plan) (H : List Record) (x : Record) (f : ℕ) → is_cleaned x ≡ false
    → ((r : ℕ) → outs_in r x ≡ None)
    → made_size P (standing P (H ++ (x ∷ []))) f ≤ made_size P (standing P H) f
size_keeps P H x f more silent =
    let le : weight P (H ++ (x ∷ [])) f ≤ weight P H f =
    weight_keeps P H x f (maker_of P f) more silent in
    omega (arith, le, size-is P H f, size-is P (H ++ (x ∷ [])) f)

pub claims_from : (c d s t : Bool) → (c ≡ true → d ≡ true) → t ≡ s → d ≡ false → (not d && t) ≡ true
    → (not c && s) ≡ true
claims_from true d s t grows same opened claimed = absurd (true≢false (sym (grows refl) ∙ opened))
claims_from false true s t grows same opened claimed = absurd (true≢false opened)
claims_from false false s t grows same opened claimed = sym same ∙ claimed

pub adds_from : (c d s t : Bool) → (c ≡ true → d ≡ true) → t ≡ s → (not d && not (not d && t))
    ≡ true → (not c && not (not c && s)) ≡ true
adds_from true true s t grows same adds = adds
adds_from true false s t grows same adds = absurd (true≢false (sym (grows refl)))
adds_from false true s t grows same adds = absurd (true≢false (sym adds))
adds_from false false s t grows same adds = ap not (sym same) ∙ adds

or_nothing : (a b : Bool) → b ≡ false → (a || (b || false)) ≡ a
or_nothing true b none = refl
or_nothing false b none = ap (λ c. c || false) none

-- no record but a start changes which rules were started
pub started_same : (H : List Record) (x : Record) (r : ℕ) → is_cleaned x ≡ false → starts r x
    ≡ false → was_started (H ++ (x ∷ [])) r ≡ was_started H r
started_same H x r more none = started-push H x r more
    ∙ or_nothing (was_started H r) (starts r x) none

-- A record that is no start and no Done leaves a walk that has no more.
pub quiet : (P : Plan) (H : List Record) (x : Record) → is_cleaned x ≡ false
    → ((r : ℕ) → outs_in r x ≡ None) → ((r : ℕ) → starts r x ≡ false)
    → IsLess P (standing P H) (standing P (H ++ (x ∷ [])))
quiet P H x more silent none =
    is-less P (standing P H) (standing P (H ++ (x ∷ [])))
    (λ r. complete-push H x r more)
    (λ r. claims_from (is_complete H r) (is_complete (H ++ (x ∷ [])) r) (was_started H r)
    (was_started (H ++ (x ∷ [])) r) (complete-push H x r more)
    (started_same H x r more (none r)))
    (λ f. size_keeps P H x f more silent)
    (λ r. adds_from (is_complete H r) (is_complete (H ++ (x ∷ [])) r) (was_started H r)
    (was_started (H ++ (x ∷ [])) r) (complete-push H x r more)
    (started_same H x r more (none r)))

-- the start of a rule, against the walk with that rule claimed too
start_claims : (c d s t e : Bool) → d ≡ c → t ≡ (s || (e || false)) → (not d && t) ≡ true
    → (e || (not c && s)) ≡ true
start_claims c d s t true same was claimed = refl
start_claims true true s t false same was claimed = absurd (true≢false (sym claimed))
start_claims true false s t false same was claimed = absurd (true≢false (sym same))
start_claims false true s t false same was claimed = absurd (true≢false same)
start_claims false false true t false same was claimed = refl
start_claims false false false t false same was claimed = absurd (true≢false (sym claimed ∙ was))

start_adds : (c d s t e : Bool) → d ≡ c → t ≡ (s || (e || false)) → (not d && not (not d && t))
    ≡ true → (not c && not (e || (not c && s))) ≡ true
start_adds c true s t e same was adds = absurd (true≢false (sym adds))
start_adds true false s t e same was adds = absurd (true≢false (sym same))
start_adds false false true t e same was adds = absurd (true≢false (sym (ap not (sym was) ∙ adds)))
start_adds false false false t true same was adds =
    absurd (true≢false (sym (ap not (sym was) ∙ adds)))
start_adds false false false t false same was adds = refl

-- a record that is no Done completes no rule
complete_same : (H : List Record) (x : Record) (r : ℕ) → is_cleaned x ≡ false → outs_in r x ≡ None
    → is_complete (H ++ (x ∷ [])) r ≡ is_complete H r
complete_same H x r more silent =
    complete-is (H ++ (x ∷ [])) r
    ∙ ap is_some (outs-push H x r more ∙ ap (λ o. option_map_or Some o (outs_of H r)) silent)
    ∙ sym (complete-is H r)

pub started-less : (P : Plan) (H : List Record) (moment : ℕ) (r : RuleNo) (attempt : AttemptNo)
    (link : LinkNo)
    → IsLess P (with_claim (standing P H) r.0)
    (standing P (H ++ (records.Started moment r attempt link ∷ [])))
started-less P H moment r attempt link =
    let x : Record = records.Started moment r attempt link in
    is-less P (with_claim (standing P H) r.0) (standing P (H ++ (x ∷ [])))
    (λ q. complete-push H x q refl)
    (λ q still. start_claims (is_complete H q) (is_complete (H ++ (x ∷ [])) q) (was_started H q)
    (was_started (H ++ (x ∷ [])) q) (r.0 == q) (complete_same H x q refl refl)
    (started-push H x q refl))
    (λ f. size_keeps P H x f refl (λ q. refl))
    (λ q. start_adds (is_complete H q) (is_complete (H ++ (x ∷ [])) q) (was_started H q)
    (was_started (H ++ (x ∷ [])) q) (r.0 == q) (complete_same H x q refl refl)
    (started-push H x q refl))

claims_once : (S : Standing) (r q : ℕ) (e b : Bool) → (r == q) ≡ e → S.claimed r ≡ true
    → (e || S.claimed q) ≡ true → S.claimed q ≡ true
claims_once S r q true b same claimed h = ap S.claimed (sym (eqb-true r q same)) ∙ claimed
claims_once S r q false b same claimed h = h

pub adds_once : (c k e : Bool) → (not c && not (e || k)) ≡ true → (not c && not k) ≡ true
adds_once true k e adds = adds
adds_once false k true adds = absurd (true≢false (sym adds))
adds_once false k false adds = adds

-- a claimed rule claimed once more changes nothing
pub claimed-less : (P : Plan) (S : Standing) (r : ℕ) → S.claimed r ≡ true
    → IsLess P S (with_claim S r)
claimed-less P S r claimed =
    is-less P S (with_claim S r) (λ q complete. complete)
    (λ q still. claims_once S r q (r == q) true refl claimed)
    (λ f. omega arith)
    (λ q. adds_once (S.complete q) (S.claimed q) (r == q))

admitted_within : (P : Plan) (H : List Record) (limit r : ℕ) (claimed : Bool) → is_claimed H r
    ≡ claimed → is_safe P H limit ≡ true
    → ((not true || claimed) || stays_within P (with_claim (standing P H) r) limit) ≡ true
    → stays_within P (with_claim (standing P H) r) limit ≡ true
admitted_within P H limit r true is safe admitted =
    less-within P (standing P H) (with_claim (standing P H) r) limit
    (claimed-less P (standing P H) r is) safe
admitted_within P H limit r false is safe admitted = admitted

-- A start that is admitted keeps the walk within.
pub start-keeps : (P : Plan) (H : List Record) (moment : ℕ) (r : RuleNo) (attempt : AttemptNo)
    (link : LinkNo) (limit : ℕ)
    → admits_under P H limit r.0 ≡ true → is_safe P H limit ≡ true
    → is_safe P (H ++ (records.Started moment r attempt link ∷ [])) limit ≡ true
start-keeps P H moment r attempt link limit admitted safe =
    less-within P (with_claim (standing P H) r.0)
    (standing P (H ++ (records.Started moment r attempt link ∷ []))) limit
    (started-less P H moment r attempt link)
    (admitted_within P H limit r.0 (is_claimed H r.0) refl safe
    (sym (ap (λ b. (not b || is_claimed H r.0)
    || stays_within P (with_claim (standing P H) r.0) limit) safe) ∙ admitted))
