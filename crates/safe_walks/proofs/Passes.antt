-- One walk answers what two walks answer.
use Rattle.std.proofs.Common.{◌≡◌, ℕ, ◌+◌, ◌≤◌, ◌<◌, Bool, true, false, cond, not, ◌&&◌, ◌||◌, List}
use Rattle.std.proofs.Common.{[], ◌∷◌, length, refl, ap, sym, ◌∙◌, arith, true≢false}
use Rattle.std.specs.Prelude.{◌==◌, nat_le}
use Rattle.std.specs.List.{list_all}
use Rattle.std.proofs.lemmas.Bool.{eqb-true, eq-eqb, and_parts}
use Rattle.std.proofs.lemmas.Bool.{false_from_ne_true}
use Rattle.flow_types.specs.declared.plan.Plan.{Plan}
use Rattle.flow_types.specs.declared.records.Record.{Record}
use Rattle.flow_types.specs.Plans.{rule_numbers, contains_number}
use Rattle.flow_types.specs.Serial.{serial_order}
use Rattle.flow_types.proofs.Totals.{total, total-is, total-add, total-take, at_place, place-once}
use Rattle.flow_types.proofs.Totals.{place-inside}
use Rattle.run_history.specs.Storage.{is_complete, rule_bound}
use Rattle.run_history.proofs.Bools.{both}
use Rattle.safe_walks.specs.Walk.{Standing, outputs_share, rule_share, load, is_added, additions}
use Rattle.safe_walks.specs.Walk.{is_claimed, standing, with_claim, stays_within}
use Rattle.safe_walks.specs.Safe.{is_safe, admits_under}
use Rattle.safe_walks.specs.Passes.{additions_before, has_room_before, admits_in_one}
use Rattle.safe_walks.proofs.Walks.{all_within, first_le}
use Rattle.safe_walks.proofs.Peaks.{same_truth}
use Rattle.safe_walks.proofs.Admits.{share_more, tail-claimed}

-- with the rule's bound each is within
abbrev pub all_room : Plan → ℕ → ℕ → List ℕ → Bool
all_room P r limit vs = list_all (λ v. nat_le (v + rule_bound P r) limit) vs

-- one claim more adds at most its bound
load_most : (P : Plan) (S : Standing) (r : ℕ) (passed : List ℕ) → load P (with_claim S r) passed
    ≤ load P S passed + rule_bound P r
load_most P S r passed =
    let T : Standing = with_claim S r in
    let rules : total (rule_share P T passed) (rule_numbers P)
    ≤ total (rule_share P S passed) (rule_numbers P) + total (at_place (rule_bound P r) r)
    (rule_numbers P) =
    total-add (rule_share P T passed) (rule_share P S passed) (at_place (rule_bound P r) r)
    (rule_numbers P)
    (λ q. share_more (S.complete q) (contains_number q passed) (r == q) (S.claimed q)
    (outputs_share P S passed q) (rule_bound P q) (rule_bound P r)
    (λ same. ap (rule_bound P) (sym (eqb-true r q same)))) in
    omega (
      arith,
      rules,
      place-once (rule_bound P r) r 0 (length P.rules),
      total-is
          (rule_share P S passed) (rule_numbers P),
      total-is (rule_share P T passed) (rule_numbers P),
    )

share_less : (c p e k : Bool) (m b n : ℕ)
    → (e ≡ true → (c ≡ false) × (p ≡ false) × (k ≡ false) × (b ≡ n))
    → cond c 0 (cond p m (cond k b 0)) + cond e n 0 ≤ cond c 0 (cond p m (cond (e || k) b 0))
share_less c p false k m b n is = omega arith
share_less true p true k m b n is = absurd (true≢false (is refl).0)
share_less false true true k m b n is = absurd (true≢false (is refl).1)
share_less false false true true m b n is = absurd (true≢false (is refl).2)
share_less false false true false m b n is = let same : b ≡ n = (is refl).3 in omega (arith, same)

-- before its place a new claim adds its bound
pub load_least : (P : Plan) (S : Standing) (r : ℕ) (passed : List ℕ) → r < length P.rules
    → S.complete r ≡ false → S.claimed r ≡ false → contains_number r passed ≡ false
    → load P S passed + rule_bound P r ≤ load P (with_claim S r) passed
load_least P S r passed inside undone new ahead =
    let T : Standing = with_claim S r in
    let rules : total (rule_share P S passed) (rule_numbers P) + total (at_place (rule_bound P r) r)
    (rule_numbers P) ≤ total (rule_share P T passed) (rule_numbers P) =
    total-take (rule_share P S passed) (rule_share P T passed) (at_place (rule_bound P r) r)
    (rule_numbers P)
    (λ q. share_less (S.complete q) (contains_number q passed) (r == q) (S.claimed q)
    (outputs_share P S passed q) (rule_bound P q) (rule_bound P r)
    (λ same. let one : r ≡ q = eqb-true r q same in (
      ap S.complete (sym one) ∙ undone,
      ap (λ p. contains_number p passed) (sym one)
          ∙ ahead,
      ap S.claimed (sym one) ∙ new,
      ap (rule_bound P) (sym one),
    ))) in
    let found : rule_bound P r ≤ total (at_place (rule_bound P r) r) (rule_numbers P) =
    place-inside (rule_bound P r) r 0 (length P.rules) (omega arith) (omega (arith, inside)) in
    omega (
      arith,
      rules,
      found,
      total-is (rule_share P S passed) (rule_numbers P),
      total-is
          (rule_share P T passed) (rule_numbers P),
    )

pub turned : (q r : ℕ) (b : Bool) → (q == r) ≡ b → (r == q) ≡ b
turned q r true same = eq-eqb r q (sym (eqb-true q r same))
turned q r false other = false_from_ne_true (r == q)
    (λ same. true≢false (sym (eq-eqb q r (sym (eqb-true r q same))) ∙ other))

-- the additions of the walk with the rule claimed too
room_to_claimed : (P : Plan) (S : Standing) (r limit : ℕ) (passed rs : List ℕ)
    → all_room P r limit (additions_before P S r passed rs) ≡ true
    → all_within limit (additions P S passed rs) ≡ true
    → all_within limit (additions P (with_claim S r) passed rs) ≡ true
room_to_claimed P S r limit passed [] room within = refl
room_to_claimed P S r limit passed (q ∷ qs) room within =
    by_place (q == r) refl room (λ more rest. room_to_claimed P S r limit (q ∷ passed) qs more rest)
  where
    T : Standing
    T = with_claim S r

    v : ℕ
    v = load P S passed + rule_bound P q

    behind : (b : Bool)
        → all_within limit
        (cond b (v ∷ additions P S (q ∷ passed) qs) (additions P S (q ∷ passed) qs)) ≡ true
        → all_within limit (additions P S (q ∷ passed) qs) ≡ true
    behind true within =
        (and_parts (nat_le v limit) (all_within limit (additions P S (q ∷ passed) qs)) within).1
    behind false within = within

    no_addition : (c e k : Bool) → e ≡ true → (not c && not (e || k)) ≡ false
    no_addition true e k same = refl
    no_addition false true k same = refl
    no_addition false false k same = absurd (true≢false (sym same))

    same_addition : (c e k b : Bool) → e ≡ false → (not c && not k) ≡ b → (not c && not (e || k))
        ≡ b
    same_addition c true k b other is = absurd (true≢false other)
    same_addition c false k b other is = is

    put : (w : ℕ) (vs : List ℕ) (b c : Bool) → b ≡ c → all_within limit (cond c (w ∷ vs) vs) ≡ true
        → all_within limit (cond b (w ∷ vs) vs) ≡ true
    put w vs b c same within = ap (λ d. all_within limit (cond d (w ∷ vs) vs)) same ∙ within

    by_added : (b : Bool) → is_added S q ≡ b → (q == r) ≡ false
        → all_room P r limit
        (cond b (v ∷ additions_before P S r (q ∷ passed) qs)
        (additions_before P S r (q ∷ passed) qs)) ≡ true
        → all_within limit
        (cond b (v ∷ additions P S (q ∷ passed) qs) (additions P S (q ∷ passed) qs)) ≡ true
        → (all_room P r limit (additions_before P S r (q ∷ passed) qs) ≡ true
        → all_within limit (additions P S (q ∷ passed) qs) ≡ true
        → all_within limit (additions P T (q ∷ passed) qs) ≡ true)
        → all_within limit
        (cond (is_added T q) ((load P T passed + rule_bound P q)
        ∷ additions P T (q ∷ passed) qs) (additions P T (q ∷ passed) qs)) ≡ true
    by_added true is other room within later =
        let rooms =
        and_parts (nat_le (v + rule_bound P r) limit)
        (all_room P r limit (additions_before P S r (q ∷ passed) qs)) room in
        let rest = and_parts (nat_le v limit) (all_within limit (additions P S (q ∷ passed) qs))
        within in
        let most : load P T passed ≤ load P S passed + rule_bound P r = load_most P S r passed in
        put (load P T passed + rule_bound P q) (additions P T (q ∷ passed) qs) (is_added T q) true
        (same_addition (S.complete q) (r == q) (S.claimed q) true (turned q r false other) is)
        (both (nat_le (load P T passed + rule_bound P q) limit)
        (all_within limit (additions P T (q ∷ passed) qs))
        (first_le (v + rule_bound P r) (load P T passed + rule_bound P q) limit
        (omega (arith, most)) rooms.0) (later rooms.1 rest.1))
    by_added false is other room within later =
        put (load P T passed + rule_bound P q) (additions P T (q ∷ passed) qs) (is_added T q) false
        (same_addition (S.complete q) (r == q) (S.claimed q) false (turned q r false other) is)
        (later room within)

    by_place : (b : Bool) → (q == r) ≡ b
        → all_room P r limit
        (cond b []
        (cond (is_added S q) (v ∷ additions_before P S r (q ∷ passed) qs)
        (additions_before P S r (q ∷ passed) qs))) ≡ true
        → (all_room P r limit (additions_before P S r (q ∷ passed) qs) ≡ true
        → all_within limit (additions P S (q ∷ passed) qs) ≡ true
        → all_within limit (additions P T (q ∷ passed) qs) ≡ true)
        → all_within limit (additions P T passed (q ∷ qs)) ≡ true
    by_place true same room later =
        put (load P T passed + rule_bound P q) (additions P T (q ∷ passed) qs) (is_added T q) false
        (no_addition (S.complete q) (r == q) (S.claimed q) (turned q r true same))
        (tail-claimed P S r limit (q ∷ passed) qs (ap (λ b. b || contains_number r passed) same)
        (behind (is_added S q) within))
    by_place false other room later = by_added (is_added S q) refl other room within later

claimed_to_room : (P : Plan) (S : Standing) (r limit : ℕ) (passed rs : List ℕ) → r < length P.rules
    → S.complete r ≡ false → S.claimed r ≡ false → contains_number r passed ≡ false
    → all_within limit (additions P (with_claim S r) passed rs) ≡ true
    → all_room P r limit (additions_before P S r passed rs) ≡ true
claimed_to_room P S r limit passed [] inside undone new ahead within = refl
claimed_to_room P S r limit passed (q ∷ qs) inside undone new ahead within =
    by_place (q == r) refl
    (λ more rest. claimed_to_room P S r limit (q ∷ passed) qs inside undone new more rest)
  where
    T : Standing
    T = with_claim S r

    v : ℕ
    v = load P S passed + rule_bound P q

    same_addition : (c e k b : Bool) → e ≡ false → (not c && not k) ≡ b → (not c && not (e || k))
        ≡ b
    same_addition c true k b other is = absurd (true≢false other)
    same_addition c false k b other is = is

    by_added : (b : Bool) → is_added T q ≡ b → (q == r) ≡ false
        → all_within limit
        (cond b ((load P T passed + rule_bound P q) ∷ additions P T (q ∷ passed) qs)
        (additions P T (q ∷ passed) qs)) ≡ true
        → (all_within limit (additions P T (q ∷ passed) qs) ≡ true
        → all_room P r limit (additions_before P S r (q ∷ passed) qs) ≡ true)
        → all_room P r limit
        (cond b (v ∷ additions_before P S r (q ∷ passed) qs)
        (additions_before P S r (q ∷ passed) qs)) ≡ true
    by_added true is other within later =
        let parts =
        and_parts (nat_le (load P T passed + rule_bound P q) limit)
        (all_within limit (additions P T (q ∷ passed) qs)) within in
        let least : load P S passed + rule_bound P r ≤ load P T passed =
        load_least P S r passed inside undone new ahead in
        both (nat_le (v + rule_bound P r) limit)
        (all_room P r limit (additions_before P S r (q ∷ passed) qs))
        (first_le (load P T passed + rule_bound P q) (v + rule_bound P r) limit
        (omega (arith, least)) parts.0) (later parts.1)
    by_added false is other within later = later within

    by_place : (b : Bool) → (q == r) ≡ b
        → (contains_number r (q ∷ passed) ≡ false → all_within limit (additions P T (q ∷ passed) qs)
        ≡ true → all_room P r limit (additions_before P S r (q ∷ passed) qs) ≡ true)
        → all_room P r limit
        (cond b []
        (cond (is_added S q) (v ∷ additions_before P S r (q ∷ passed) qs)
        (additions_before P S r (q ∷ passed) qs))) ≡ true
    by_place true same later = refl
    by_place false other later =
        let added : is_added T q ≡ is_added S q =
        same_addition (S.complete q) (r == q) (S.claimed q) (is_added S q)
        (turned q r false other) refl in
        ap (λ b. all_room P r limit
        (cond b (v ∷ additions_before P S r (q ∷ passed) qs)
        (additions_before P S r (q ∷ passed) qs))) (sym added)
        ∙ by_added (is_added T q) refl other within
        (later (ap (λ b. b || contains_number r passed) other ∙ ahead))

-- In a safe state the walk with a rule claimed too stays within exactly where the walk up to its
-- place leaves room for it.
pub room-is : (P : Plan) (H : List Record) (limit r : ℕ) → r < length P.rules → is_complete H r
    ≡ false → is_claimed H r ≡ false → is_safe P H limit ≡ true
    → stays_within P (with_claim (standing P H) r) limit ≡ has_room_before P (standing P H) r limit
room-is P H limit r inside undone new safe =
    let S : Standing = standing P H in
    let T : Standing = with_claim S r in
    let parts =
    and_parts (nat_le (load P S []) limit)
    (all_within limit (additions P S [] (serial_order P))) safe in
    same_truth (stays_within P T limit) (has_room_before P S r limit)
    (λ within.
    let whole =
    and_parts (nat_le (load P T []) limit)
    (all_within limit (additions P T [] (serial_order P))) within in
    let least : load P S [] + rule_bound P r ≤ load P T [] =
    load_least P S r [] inside undone new refl in
    both (nat_le (load P S [] + rule_bound P r) limit)
    (all_room P r limit (additions_before P S r [] (serial_order P)))
    (first_le (load P T []) (load P S [] + rule_bound P r) limit least whole.0)
    (claimed_to_room P S r limit [] (serial_order P) inside undone new refl whole.1))
    (λ room.
    let rooms =
    and_parts (nat_le (load P S [] + rule_bound P r) limit)
    (all_room P r limit (additions_before P S r [] (serial_order P))) room in
    both (nat_le (load P T []) limit) (all_within limit (additions P T [] (serial_order P)))
    (first_le (load P S [] + rule_bound P r) (load P T []) limit (load_most P S r []) rooms.0)
    (room_to_claimed P S r limit [] (serial_order P) rooms.1 parts.1))

-- One walk answers what two walks answer.
pub one-pass : (P : Plan) (H : List Record) (limit r : ℕ) → r < length P.rules → is_complete H r
    ≡ false → admits_under P H limit r ≡ admits_in_one P H limit r
one-pass P H limit r inside undone = by_safe (is_safe P H limit) refl (is_claimed H r) refl
  where
    by_safe : (a : Bool) → is_safe P H limit ≡ a → (b : Bool) → is_claimed H r ≡ b
        → ((not a || b) || stays_within P (with_claim (standing P H) r) limit)
        ≡ ((not a || b) || has_room_before P (standing P H) r limit)
    by_safe false unsafe b claimed = refl
    by_safe true safe true claimed = refl
    by_safe true safe false new = room-is P H limit r inside undone new safe
