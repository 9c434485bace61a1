-- What the greatest v of a walk says of a rule.
use Rattle.std.proofs.Common.{◌≡◌, ℕ, ◌+◌, ◌≤◌, ◌<◌, Bool, true, false, cond, not, ◌&&◌, ◌||◌, List}
use Rattle.std.proofs.Common.{[], ◌∷◌, length, refl, ap, sym, ◌∙◌, arith, true≢false}
use Rattle.std.specs.Prelude.{◌==◌, nat_le, nat_lt}
use Rattle.std.specs.List.{list_all}
use Rattle.std.proofs.lemmas.Bool.{and_parts, eqb-true, false_from_ne_true, le-leb, leb-true}
use Rattle.std.proofs.lemmas.Bool.{leb-false, lt-ltb, ltb-true}
use Rattle.std.proofs.Math.Nat.{le-max_left, le-max_right}
use Rattle.flow_types.specs.declared.plan.Plan.{Plan}
use Rattle.flow_types.specs.declared.records.Record.{Record}
use Rattle.run_history.specs.Storage.{is_complete, rule_bound}
use Rattle.run_history.proofs.Bools.{both}
use Rattle.run_history.proofs.Inputs.{or_either}
use Rattle.safe_walks.specs.Walk.{Standing, greatest, is_claimed, standing, stays_within, walk}
use Rattle.safe_walks.specs.Walk.{was_started, with_claim}
use Rattle.safe_walks.specs.Passes.{has_room_before, walk_before}
use Rattle.safe_walks.specs.Safe.{admits_under, is_safe}
use Rattle.safe_walks.proofs.Passes.{one-pass}
use Rattle.safe_walks.proofs.Peaks.{greatest_within, same_truth, within_greatest}
use Rattle.safe_walks.proofs.Records.{adds_once}
use Rattle.safe_walks.proofs.Walks.{IsLess, is-less, less-within}
use Rattle.safe_storage.specs.declared.stand.Phase.TheVariants as phase
use Rattle.safe_storage.specs.Counters.{is_claimed_phase, is_complete_phase}
use Rattle.safe_storage.specs.Pacing.{admits_one_walk, phase_in}
use Rattle.safe_storage.proofs.Alike.{IsAlike, walk-alike, walk_before-alike}

within-is : (P : Plan) (S : Standing) (limit : ℕ)
    → stays_within P S limit ≡ nat_le (greatest (walk P S)) limit
within-is P S limit = same_truth (stays_within P S limit) (nat_le (greatest (walk P S)) limit)
    (λ within. le-leb (greatest (walk P S)) limit (greatest_within (walk P S) limit within))
    (λ le. within_greatest (walk P S) limit (leb-true (greatest (walk P S)) limit le))

-- with so many bytes more each is within
abbrev roomy : ℕ → ℕ → List ℕ → Bool
roomy b limit vs = list_all (λ v. nat_le (v + b) limit) vs

greatest_room : (b limit : ℕ) (vs : List ℕ) → b ≤ limit → roomy b limit vs ≡ true
    → greatest vs + b ≤ limit
greatest_room b limit [] le room = omega (arith, le)
greatest_room b limit (v ∷ vs) le room =
    let parts = and_parts (nat_le (v + b) limit) (roomy b limit vs) room in
    let first : v + b ≤ limit = leb-true (v + b) limit parts.0 in
    let rest : greatest vs + b ≤ limit = greatest_room b limit vs le parts.1 in
    omega (arith, first, rest)

room_greatest : (b limit : ℕ) (vs : List ℕ) → greatest vs + b ≤ limit → roomy b limit vs ≡ true
room_greatest b limit [] le = refl
room_greatest b limit (v ∷ vs) le =
    both (nat_le (v + b) limit) (roomy b limit vs)
    (le-leb (v + b) limit (omega (arith, le, le-max_left v (greatest vs))))
    (room_greatest b limit vs (omega (arith, le, le-max_right v (greatest vs))))

-- there is room for a rule where its bound fits beside the greatest v before its place
pub room-fits : (P : Plan) (S : Standing) (r limit : ℕ)
    → greatest (walk_before P S r) + rule_bound P r ≤ limit → has_room_before P S r limit ≡ true
room-fits P S r limit le = room_greatest (rule_bound P r) limit (walk_before P S r) le

room-lacks : (P : Plan) (S : Standing) (r limit : ℕ)
    → limit < greatest (walk_before P S r) + rule_bound P r
    → has_room_before P S r limit ≡ false
room-lacks P S r limit more = false_from_ne_true (has_room_before P S r limit) (λ room.
    let some : rule_bound P r ≤ limit = least (walk_before P S r) room refl in
    let le : greatest (walk_before P S r) + rule_bound P r ≤ limit =
    greatest_room (rule_bound P r) limit (walk_before P S r) some room in
    let wrong : ⊥ = omega (arith, le, more) in wrong)
  where
    least : (vs : List ℕ) → roomy (rule_bound P r) limit vs ≡ true → vs ≡ walk_before P S r
        → rule_bound P r ≤ limit
    least [] room is = absurd cc
    least (v ∷ vs) room is =
        let first : v + rule_bound P r ≤ limit = leb-true (v + rule_bound P r) limit
        (and_parts (nat_le (v + rule_bound P r) limit) (roomy (rule_bound P r) limit vs) room).0
        in omega (arith, first)

-- a v above the limit: the walk doesn't stay within, and each rule is admitted
pub answer-beyond : (P : Plan) (S : Standing) (r limit g : ℕ) → limit < g
    → g ≤ greatest (walk P S) → true ≡ admits_one_walk P S r limit
answer-beyond P S r limit g above most =
    let unsafe : stays_within P S limit ≡ false = within-is P S limit
    ∙ false_from_ne_true (nat_le (greatest (walk P S)) limit) (λ le.
    let small : greatest (walk P S) ≤ limit = leb-true (greatest (walk P S)) limit le in
    let wrong : ⊥ = omega (arith, above, most, small) in wrong) in
    sym (ap (λ b. not b || has_room_before P S r limit) unsafe)

-- at the rule's place there is room for it
pub answer-room : (P : Plan) (S : Standing) (r limit g b : ℕ) → g ≡ greatest (walk_before P S r)
    → b ≡ rule_bound P r → g + b ≤ limit → true ≡ admits_one_walk P S r limit
answer-room P S r limit g b is bound le =
    sym (or_either (not (stays_within P S limit)) (has_room_before P S r limit)
    (room-fits P S r limit (omega (arith, is, bound, le))))

-- there is no room for it: it is admitted where the walk doesn't stay within
pub answer-last : (P : Plan) (S : Standing) (r limit g b all : ℕ)
    → g ≡ greatest (walk_before P S r) → b ≡ rule_bound P r → limit < g + b
    → (all ≤ limit → all ≡ greatest (walk P S)) → (limit < all → limit < greatest (walk P S))
    → nat_lt limit all ≡ admits_one_walk P S r limit
answer-last P S r limit g b all is bound more exact beyond =
    same_truth (nat_lt limit all) (not (stays_within P S limit))
    (λ above. let high : limit < all = ltb-true limit all above in
    let past : limit < greatest (walk P S) = beyond high in
    ap not (within-is P S limit ∙ false_from_ne_true (nat_le (greatest (walk P S)) limit)
    (λ le. let small : greatest (walk P S) ≤ limit =
    leb-true (greatest (walk P S)) limit le in
    let wrong : ⊥ = omega (arith, past, small) in wrong)))
    (λ unsafe. by_limit (nat_le all limit) refl unsafe)
    ∙ sym (or_false (not (stays_within P S limit)))
    ∙ ap (λ c. not (stays_within P S limit) || c)
    (sym (room-lacks P S r limit (omega (arith, is, bound, more))))
  where
    or_false : (a : Bool) → (a || false) ≡ a
    or_false true = refl
    or_false false = refl

    by_limit : (a : Bool) → nat_le all limit ≡ a → not (stays_within P S limit) ≡ true
        → nat_lt limit all ≡ true
    by_limit true le unsafe =
        let small : all ≤ limit = leb-true all limit le in
        let within : stays_within P S limit ≡ true = within-is P S limit
        ∙ le-leb (greatest (walk P S)) limit (omega (arith, small, exact small)) in
        absurd (true≢false (sym unsafe ∙ ap not within))
    by_limit false above unsafe =
        let high : limit < all = leb-false all limit above in lt-ltb limit all high

-- Where rules and files stand alike, the answer is the same.
pub answer-alike : (P : Plan) (S T : Standing) (r limit : ℕ) → IsAlike P S T
    → admits_one_walk P S r limit ≡ admits_one_walk P T r limit
answer-alike P S T r limit alike =
    ap (λ vs. not (list_all (λ v. nat_le v limit) vs) || has_room_before P S r limit)
    (walk-alike P S T alike)
    ∙ ap (λ vs. not (stays_within P T limit)
    || list_all (λ v. nat_le (v + rule_bound P r) limit) vs) (walk_before-alike P S T r alike)

claims_some : (S : Standing) (r q : ℕ) (b : Bool) → (r == q) ≡ b → S.complete r ≡ true
    → S.complete q ≡ false → (b || S.claimed q) ≡ true → S.claimed q ≡ true
claims_some S r q true same done undone claimed =
    absurd (true≢false (sym done ∙ ap S.complete (eqb-true r q same) ∙ undone))
claims_some S r q false other done undone claimed = claimed

-- a complete rule claimed too changes nothing
complete-less : (P : Plan) (S : Standing) (r : ℕ) → S.complete r ≡ true
    → IsLess P S (with_claim S r)
complete-less P S r done =
    is-less P S (with_claim S r) (λ q complete. complete)
    (λ q undone claimed. claims_some S r q (r == q) refl done undone claimed) (λ f. omega arith)
    (λ q. adds_once (S.complete q) (S.claimed q) (r == q))

-- A complete rule is admitted.
pub admits-complete : (P : Plan) (H : List Record) (limit r : ℕ) → is_complete H r ≡ true
    → true ≡ admits_under P H limit r
admits-complete P H limit r done = by_safe (is_safe P H limit) refl
  where
    by_safe : (b : Bool) → is_safe P H limit ≡ b → true ≡ ((not b || is_claimed H r)
        || stays_within P (with_claim (standing P H) r) limit)
    by_safe false unsafe = refl
    by_safe true safe = sym (or_either (not true || is_claimed H r)
        (stays_within P (with_claim (standing P H) r) limit)
        (less-within P (standing P H) (with_claim (standing P H) r) limit
        (complete-less P (standing P H) r done) safe))

-- A claimed rule is admitted.
pub admits-claimed : (P : Plan) (H : List Record) (limit r : ℕ) → is_claimed H r ≡ true
    → true ≡ admits_under P H limit r
admits-claimed P H limit r claimed =
    sym (ap (λ b. b || stays_within P (with_claim (standing P H) r) limit)
    (or_either (not (is_safe P H limit)) (is_claimed H r) claimed))

-- Another rule is admitted where one walk says so.
pub admits-open : (P : Plan) (H : List Record) (limit r : ℕ) → r < length P.rules
    → is_complete H r ≡ false → is_claimed H r ≡ false
    → admits_one_walk P (standing P H) r limit ≡ admits_under P H limit r
admits-open P H limit r inside undone new =
    sym (one-pass P H limit r inside undone
    ∙ ap (λ b. (not (is_safe P H limit) || b) || has_room_before P (standing P H) r limit) new
    ∙ ap (λ b. b || has_room_before P (standing P H) r limit) (or_none (not (is_safe P H limit))))
  where
    or_none : (a : Bool) → (a || false) ≡ a
    or_none true = refl
    or_none false = refl

-- what a phase says of a rule
pub complete-phase : (H : List Record) (r : ℕ) → phase.Complete ≡ phase_in H r
    → is_complete H r ≡ true
complete-phase H r is = by_case (is_complete H r) (was_started H r) (ap is_complete_phase is)
  where
    by_case : (c s : Bool) → true
        ≡ is_complete_phase (cond c phase.Complete (cond s phase.Claimed phase.Open)) → c ≡ true
    by_case true s h = refl
    by_case false true h = sym h
    by_case false false h = sym h

pub claimed-phase : (H : List Record) (r : ℕ) → phase.Claimed ≡ phase_in H r
    → is_claimed H r ≡ true
claimed-phase H r is = by_case (is_complete H r) (was_started H r) (ap is_claimed_phase is)
  where
    by_case : (c s : Bool) → true
        ≡ is_claimed_phase (cond c phase.Complete (cond s phase.Claimed phase.Open))
        → (not c && s) ≡ true
    by_case true s h = sym h
    by_case false true h = refl
    by_case false false h = sym h

pub undone-phase : (H : List Record) (r : ℕ) → phase.Open ≡ phase_in H r
    → is_complete H r ≡ false
undone-phase H r is = by_case (is_complete H r) (was_started H r) (ap is_complete_phase is)
  where
    by_case : (c s : Bool) → false
        ≡ is_complete_phase (cond c phase.Complete (cond s phase.Claimed phase.Open)) → c ≡ false
    by_case true s h = sym h
    by_case false s h = refl

pub new-phase : (H : List Record) (r : ℕ) → phase.Open ≡ phase_in H r → is_claimed H r ≡ false
new-phase H r is = by_case (is_complete H r) (was_started H r) (ap is_claimed_phase is)
  where
    by_case : (c s : Bool) → false
        ≡ is_claimed_phase (cond c phase.Complete (cond s phase.Claimed phase.Open))
        → (not c && s) ≡ false
    by_case true s h = refl
    by_case false true h = sym h
    by_case false false h = refl
