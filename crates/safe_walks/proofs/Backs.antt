-- A claim taken back keeps the walk within.
use Rattle.std.proofs.Common.{◌≡◌, ℕ, ◌+◌, ◌≤◌, ◌<◌, Bool, true, false, cond, not, ◌&&◌, ◌||◌, List}
use Rattle.std.proofs.Common.{[], ◌∷◌, ◌++◌, length, refl, ap, sym, subst, ◌∙◌, arith, true≢false}
use Rattle.std.specs.Prelude.{sum_by, ◌==◌, nat_le}
use Rattle.std.specs.List.{list_all}
use Rattle.std.proofs.lemmas.Bool.{leb-true, le-leb, eqb-true, and_parts, false_from_ne_true}
use Rattle.std.proofs.lemmas.List.Folds.{list_any-append}
use Rattle.std.proofs.Math.Nat.{min-le_left, min-le_right, le-min}
use Rattle.flow_types.specs.declared.plan.Plan.{Plan}
use Rattle.flow_types.specs.Plans.{rule_numbers, made_files, makes, takes, takers_of, is_kept}
use Rattle.flow_types.specs.Plans.{bound_of, contains_number}
use Rattle.flow_types.specs.Serial.{serial_order, can_take, is_made}
use Rattle.flow_types.proofs.SerialRun.{IsRun, order-run}
use Rattle.flow_types.proofs.Totals.{total, total-is, total-add, at_place, place-once}
use Rattle.run_history.specs.Storage.{rule_bound}
use Rattle.run_history.proofs.Bools.{both, not_true}
use Rattle.run_history.proofs.Inputs.{or_either}
use Rattle.safe_walks.specs.Walk.{Standing, is_over, is_left, left_bytes, left_bound}
use Rattle.safe_walks.specs.Walk.{outputs_share, rule_share, load, is_added, additions}
use Rattle.safe_walks.specs.Walk.{with_claim, stays_within}
use Rattle.safe_walks.proofs.Walks.{IsLess, is-less, less-within, all_within, cond-le, sum-le}
use Rattle.safe_walks.proofs.Walks.{first_le, left_or}
use Rattle.safe_walks.proofs.Firsts.{tail_within}
use Rattle.safe_walks.proofs.Passes.{load_least, turned}

over_more : (S : Standing) (passed : List ℕ) (q : ℕ) (rs : List ℕ) → list_all (is_over S passed) rs
    ≡ true → list_all (is_over S (q ∷ passed)) rs ≡ true
over_more S passed q [] over = refl
over_more S passed q (x ∷ rs) over =
    let parts = and_parts (is_over S passed x) (list_all (is_over S passed) rs) over in
    both (is_over S (q ∷ passed) x) (list_all (is_over S (q ∷ passed)) rs)
    (more (S.complete x) (contains_number x passed) (q == x) parts.0)
    (over_more S passed q rs parts.1)
  where
    more : (c p e : Bool) → (c || p) ≡ true → (c || (e || p)) ≡ true
    more true p e h = refl
    more false p true h = refl
    more false p false h = h

left_later : (P : Plan) (S : Standing) (passed : List ℕ) (q f : ℕ) → is_left P S (q ∷ passed) f
    ≡ true → is_left P S passed f ≡ true
left_later P S passed q f left =
    left_or (is_kept P f) (list_all (is_over S passed) (takers_of P f))
    (list_all (is_over S (q ∷ passed)) (takers_of P f)) (over_more S passed q (takers_of P f))
    left

pass_share : (c e p k : Bool) (m now b n : ℕ) → now ≤ m → now ≤ b
    → (e ≡ true → n ≡ cond (not c && not k) b 0)
    → cond c 0 (cond (e || p) now (cond k b 0)) ≤ cond c 0 (cond p m (cond k b 0)) + cond e n 0
pass_share true e p k m now b n less bounded is = omega arith
pass_share false true true k m now b n less bounded is = omega (arith, less)
pass_share false true false true m now b n less bounded is = omega (arith, bounded)
pass_share false true false false m now b n less bounded is = let same : n ≡ b =
    is refl in omega (arith, bounded, same)
pass_share false false true k m now b n less bounded is = omega (arith, less)
pass_share false false false k m now b n less bounded is = omega arith

-- passing a rule adds at most what it adds to v
pub load-later : (P : Plan) (S : Standing) (passed : List ℕ) (q : ℕ) → load P S (q ∷ passed)
    ≤ load P S passed + cond (is_added S q) (rule_bound P q) 0
load-later P S passed q =
    let n : ℕ = cond (is_added S q) (rule_bound P q) 0 in
    let files : sum_by (left_bytes P S (q ∷ passed)) (made_files P)
    ≤ sum_by (left_bytes P S passed) (made_files P) =
    sum-le (left_bytes P S (q ∷ passed)) (left_bytes P S passed) (made_files P)
    (λ f. cond-le (is_left P S (q ∷ passed) f) (is_left P S passed f) (S.bytes f) (S.bytes f)
    (left_later P S passed q f) (omega arith)) in
    let outputs : (x : ℕ) → outputs_share P S (q ∷ passed) x ≤ outputs_share P S passed x = λ x.
    (let fewer : sum_by (left_bound P S (q ∷ passed)) (makes P x)
    ≤ sum_by (left_bound P S passed) (makes P x) =
    sum-le (left_bound P S (q ∷ passed)) (left_bound P S passed) (makes P x)
    (λ f. cond-le (is_left P S (q ∷ passed) f) (is_left P S passed f) (bound_of P f) (bound_of P f)
    (left_later P S passed q f) (omega arith)) in
    le-min (min-le_left (rule_bound P x) (sum_by (left_bound P S (q ∷ passed)) (makes P x)))
    (omega (
      arith,
      fewer,
      min-le_right (rule_bound P x)
          (sum_by (left_bound P S (q ∷ passed)) (makes P x)),
    ))) in
    let rules : total (rule_share P S (q ∷ passed)) (rule_numbers P)
    ≤ total (rule_share P S passed) (rule_numbers P) + total (at_place n q) (rule_numbers P) =
    total-add (rule_share P S (q ∷ passed)) (rule_share P S passed) (at_place n q) (rule_numbers P)
    (λ x. pass_share (S.complete x) (q == x) (contains_number x passed) (S.claimed x)
    (outputs_share P S passed x) (outputs_share P S (q ∷ passed) x) (rule_bound P x) n
    (outputs x) (min-le_left (rule_bound P x) (sum_by (left_bound P S (q ∷ passed)) (makes P x)))
    (λ same. ap (λ y. cond (is_added S y) (rule_bound P y) 0) (eqb-true q x same))) in
    omega (
      arith,
      files,
      rules,
      place-once n q 0 (length P.rules),
      total-is
          (rule_share P S (q ∷ passed)) (rule_numbers P),
      total-is (rule_share P S passed)
          (rule_numbers P),
    )

share_fewer : (c p e k : Bool) (m b : ℕ) → cond c 0 (cond p m (cond k b 0))
    ≤ cond c 0 (cond p m (cond (e || k) b 0))
share_fewer true p e k m b = omega arith
share_fewer false true e k m b = omega arith
share_fewer false false true true m b = omega arith
share_fewer false false true false m b = omega arith
share_fewer false false false k m b = omega arith

-- without the claim no load is greater
load-fewer : (P : Plan) (S : Standing) (r : ℕ) (passed : List ℕ) → load P S passed
    ≤ load P (with_claim S r) passed
load-fewer P S r passed =
    let rules : sum_by (rule_share P S passed) (rule_numbers P)
    ≤ sum_by (rule_share P (with_claim S r) passed) (rule_numbers P) =
    sum-le (rule_share P S passed) (rule_share P (with_claim S r) passed) (rule_numbers P)
    (λ x. share_fewer (S.complete x) (contains_number x passed) (r == x) (S.claimed x)
    (outputs_share P S passed x) (rule_bound P x)) in
    omega (arith, rules)

same_addition : (c e k : Bool) → e ≡ false → (not c && not (e || k)) ≡ (not c && not k)
same_addition c true k other = absurd (true≢false other)
same_addition c false k other = refl

-- one rule whose addition is the same in both walks
same_step : (m n limit : ℕ) (olds news : List ℕ) (a b : Bool) → a ≡ b → n ≤ m
    → (all_within limit olds ≡ true → all_within limit news ≡ true)
    → all_within limit (cond a (m ∷ olds) olds) ≡ true → all_within limit (cond b (n ∷ news) news)
    ≡ true
same_step m n limit olds news true true same le rest within =
    let parts = and_parts (nat_le m limit) (all_within limit olds) within
    in both (nat_le n limit) (all_within limit news) (first_le m n limit le parts.0)
    (rest parts.1)
same_step m n limit olds news true false same le rest within = absurd (true≢false same)
same_step m n limit olds news false true same le rest within = absurd (true≢false (sym same))
same_step m n limit olds news false false same le rest within = rest within

-- a rule that may be taken wasn't taken
other_rule : (P : Plan) (before : List ℕ) (r q : ℕ) → contains_number r before ≡ true
    → can_take P before q ≡ true → (r == q) ≡ false
other_rule P before r q some may =
    let fresh : contains_number q before ≡ false =
    not_true (contains_number q before)
    (and_parts (not (contains_number q before)) (list_all (is_made P before) (takes P q)) may).0
    in
    false_from_ne_true (r == q)
    (λ same. true≢false (sym some ∙ ap (λ x. contains_number x before) (eqb-true r q same)
    ∙ fresh))

kept_before : (r q : ℕ) (before : List ℕ) → contains_number r before ≡ true
    → contains_number r (before ++ (q ∷ [])) ≡ true
kept_before r q before some = list_any-append (λ y. y == r) before (q ∷ [])
    ∙ ap (λ b. b || ((q == r) || false)) some

put_last : (r q : ℕ) (before : List ℕ) → (q == r) ≡ true → contains_number r (before ++ (q ∷ []))
    ≡ true
put_last r q before same =
    list_any-append (λ y. y == r) before (q ∷ [])
    ∙ or_either (contains_number r before) ((q == r) || false) (ap (λ b. b || false) same)

-- behind its place
back_behind : (P : Plan) (S : Standing) (r limit : ℕ) (before passed rs : List ℕ)
    → IsRun P before rs → contains_number r before ≡ true
    → all_within limit (additions P (with_claim S r) passed rs) ≡ true
    → all_within limit (additions P S passed rs) ≡ true
back_behind P S r limit before passed [] run some within = refl
back_behind P S r limit before passed (q ∷ qs) run some within =
    let le : load P S passed ≤ load P (with_claim S r) passed = load-fewer P S r passed in
    same_step (load P (with_claim S r) passed + rule_bound P q) (load P S passed + rule_bound P q)
    limit (additions P (with_claim S r) (q ∷ passed) qs) (additions P S (q ∷ passed) qs)
    (is_added (with_claim S r) q) (is_added S q)
    (same_addition (S.complete q) (r == q) (S.claimed q) (other_rule P before r q some run.0))
    (omega (arith, le))
    (back_behind P S r limit (before ++ (q ∷ [])) (q ∷ passed) qs run.1
    (kept_before r q before some)) within

at_limit : (limit v w b : ℕ) (vs : List ℕ) (a : Bool) → w ≤ v + cond a b 0 → v ≤ limit
    → all_within limit (cond a ((v + b) ∷ vs) vs) ≡ true → w ≤ limit
at_limit limit v w b vs true le start within = let fits : v + b ≤ limit =
    leb-true (v + b) limit (and_parts (nat_le (v + b) limit) (all_within limit vs) within).0
    in omega (arith, le, fits)
at_limit limit v w b vs false le start within = omega (arith, le, start)

added_here : (limit v : ℕ) (vs : List ℕ) (a : Bool) → v ≤ limit → all_within limit vs ≡ true
    → all_within limit (cond a (v ∷ vs) vs) ≡ true
added_here limit v vs true le within =
    both (nat_le v limit) (all_within limit vs) (le-leb v limit le) within
added_here limit v vs false le within = within

-- up to its place
back_before : (P : Plan) (S : Standing) (r limit : ℕ) (before passed rs : List ℕ)
    → r < length P.rules → S.complete r ≡ false → S.claimed r ≡ false → contains_number r passed
    ≡ false
    → IsRun P before rs → load P (with_claim S r) passed ≤ limit
    → all_within limit (additions P (with_claim S r) passed rs) ≡ true
    → all_within limit (additions P S passed rs) ≡ true
back_before P S r limit before passed [] inside undone new ahead run start within = refl
back_before P S r limit before passed (q ∷ qs) inside undone new ahead run start within =
    by_place (q == r) refl
    (λ more. back_before P S r limit (before ++ (q ∷ [])) (q ∷ passed) qs inside undone new more
    run.1
    (at_limit limit (load P T passed) (load P T (q ∷ passed)) (rule_bound P q)
    (additions P T (q ∷ passed) qs) (is_added T q) (load-later P T passed q) start within))
  where
    T : Standing
    T = with_claim S r

    least : load P S passed + rule_bound P r ≤ load P T passed
    least = load_least P S r passed inside undone new ahead

    by_place : (b : Bool) → (q == r) ≡ b
        → (contains_number r (q ∷ passed) ≡ false → all_within limit (additions P T (q ∷ passed) qs)
        ≡ true → all_within limit (additions P S (q ∷ passed) qs) ≡ true)
        → all_within limit (additions P S passed (q ∷ qs)) ≡ true
    by_place true same later =
        let one : rule_bound P q ≡ rule_bound P r = ap (rule_bound P) (eqb-true q r same) in
        added_here limit (load P S passed + rule_bound P q) (additions P S (q ∷ passed) qs)
        (is_added S q) (omega (arith, one, least, start))
        (back_behind P S r limit (before ++ (q ∷ [])) (q ∷ passed) qs run.1
        (put_last r q before same)
        (tail_within (load P T passed + rule_bound P q) limit (additions P T (q ∷ passed) qs)
        (is_added T q) within))
    by_place false other later =
        let le : load P S passed ≤ load P T passed = load-fewer P S r passed in
        same_step (load P T passed + rule_bound P q) (load P S passed + rule_bound P q) limit
        (additions P T (q ∷ passed) qs) (additions P S (q ∷ passed) qs)
        (is_added T q) (is_added S q)
        (same_addition (S.complete q) (r == q) (S.claimed q) (turned q r false other))
        (omega (arith, le))
        (later (ap (λ b. b || contains_number r passed) other ∙ ahead)) within

-- what was complete or claimed anyway: nothing changes
back-same : (P : Plan) (S : Standing) (r : ℕ) → (S.complete r || S.claimed r) ≡ true
    → IsLess P (with_claim S r) S
back-same P S r known =
    is-less P (with_claim S r) S (λ q complete. complete)
    (λ q still claimed. or_either (r == q) (S.claimed q) claimed) (λ f. omega arith)
    (λ q. adds (S.complete q) (S.claimed q) (r == q)
    (λ same. ap (λ x. S.complete x || S.claimed x) (sym (eqb-true r q same)) ∙ known))
  where
    adds : (c k e : Bool) → (e ≡ true → (c || k) ≡ true) → (not c && not k) ≡ true
        → (not c && not (e || k)) ≡ true
    adds true k e is h = h
    adds false true e is h = absurd (true≢false (sym h))
    adds false false true is h = absurd (true≢false (sym (is refl)))
    adds false false false is h = refl

-- A claim taken back keeps the walk within.
pub claim-back : (P : Plan) (S : Standing) (r limit : ℕ) → r < length P.rules
    → stays_within P (with_claim S r) limit ≡ true → stays_within P S limit ≡ true
claim-back P S r limit inside within = by_known (S.complete r) refl (S.claimed r) refl
  where
    by_known : (c : Bool) → S.complete r ≡ c → (k : Bool) → S.claimed r ≡ k → stays_within P S limit
        ≡ true
    by_known true complete k claimed =
        less-within P (with_claim S r) S limit
        (back-same P S r (ap (λ b. b || S.claimed r) complete)) within
    by_known false undone true claimed =
        less-within P (with_claim S r) S limit
        (back-same P S r (or_either (S.complete r) (S.claimed r) claimed)) within
    by_known false undone false new =
        let parts =
        and_parts (nat_le (load P (with_claim S r) []) limit)
        (all_within limit (additions P (with_claim S r) [] (serial_order P))) within in
        let took = order-run P (length P.rules) [] in
        let run : IsRun P [] (serial_order P) = subst (IsRun P []) (sym took.1) took.2 in
        both (nat_le (load P S []) limit) (all_within limit (additions P S [] (serial_order P)))
        (first_le (load P (with_claim S r) []) (load P S []) limit (load-fewer P S r []) parts.0)
        (back_before P S r limit [] [] (serial_order P) inside undone new refl run
        (leb-true (load P (with_claim S r) []) limit parts.0) parts.1)
