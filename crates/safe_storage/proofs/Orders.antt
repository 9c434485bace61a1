-- Rules of an order by their places, and the walk up to a place.
use Rattle.std.proofs.Common.{◌≡◌, ℕ, zero, suc, ◌+◌, ◌≤◌, ◌<◌, Bool, true, false, cond, not, ◌&&◌}
use Rattle.std.proofs.Common.{◌||◌, List, [], ◌∷◌, ◌++◌, length, take, drop, refl, ap, sym}
use Rattle.std.proofs.Common.{subst, ◌∙◌, arith, append-nil, append_assoc, true≢false}
use Rattle.std.specs.Prelude.{◌==◌, max, min, slice_index_or, slice_set, sum_by}
use Rattle.std.specs.List.{list_all}
use Rattle.std.proofs.lemmas.Bool.{and_parts, eq-eqb, eqb-false, eqb-true, false_from_ne_true}
use Rattle.std.proofs.Math.Nat.{le-max_left}
use Rattle.std.proofs.lemmas.List.{get_or-set_other, get_or-set_same}
use Rattle.std.proofs.lemmas.List.Folds.{list_any-append}
use Rattle.flow_types.specs.declared.plan.Plan.{Plan}
use Rattle.flow_types.specs.declared.numbers.RuleNo.{RuleNo}
use Rattle.flow_types.specs.Plans.{bound_of, contains_number, is_kept, made_files, makes}
use Rattle.flow_types.specs.Plans.{rule_numbers, takers_of, takes}
use Rattle.flow_types.specs.Serial.{can_take, is_made, serial_order}
use Rattle.flow_types.proofs.SerialRun.{IsRun, order-run}
use Rattle.flow_types.proofs.Totals.{total, total-is}
use Rattle.gc_refcount.specs.Counting.{is_made as is_counted}
use Rattle.gc_refcount.proofs.Ports.{spent}
use Rattle.run_history.specs.Storage.{rule_bound}
use Rattle.run_history.proofs.Bools.{not_true}
use Rattle.run_history.proofs.Inputs.{or_either}
use Rattle.run_history.proofs.Stores.{total_same}
use Rattle.safe_storage.specs.declared.counters.Counters.{Counters}
use Rattle.safe_walks.specs.Walk.{Standing, additions, greatest, is_added, is_left, is_over}
use Rattle.safe_walks.specs.Walk.{left_bound, left_bytes, load, rule_share, walk}
use Rattle.safe_walks.specs.Passes.{additions_before, walk_before}
use Rattle.safe_storage.specs.Counters.{HasPlaces, IsAt, IsWalk, bound_by, bounds_left, bytes_by}
use Rattle.safe_storage.specs.Counters.{counting}
use Rattle.safe_storage.specs.Counters.{greatest_from, is_left_by, is_marked, numbers_of}
use Rattle.safe_storage.specs.Counters.{passed_at, share_by}
use Rattle.safe_walks.proofs.Firsts.{order_inside}

-- the number of the rule at a place
pub number-at : (order : List RuleNo) (at : ℕ)
    → slice_index_or (numbers_of order) at 0 ≡ (slice_index_or order at (record { 0 = 0 })).0
number-at [] at = refl
number-at (x ∷ xs) zero = refl
number-at (x ∷ xs) (suc at) = number-at xs at

pub numbers-length : (order : List RuleNo) → length (numbers_of order) ≡ length order
numbers-length [] = refl
numbers-length (x ∷ xs) = ap suc (numbers-length xs)

-- a rule at a place is listed
pub listed-at : (xs : List ℕ) (at : ℕ) → at < length xs
    → contains_number (slice_index_or xs at 0) xs ≡ true
listed-at [] at inside = absurd (let none : ⊥ = omega (arith, inside) in none)
listed-at (x ∷ xs) zero inside = ap (λ b. b || contains_number x xs) (eq-eqb x x refl)
listed-at (x ∷ xs) (suc at) inside =
    or_either (x == slice_index_or xs at 0) (contains_number (slice_index_or xs at 0) xs)
    (listed-at xs at (omega (arith, inside)))

-- the order from a place on
pub drop-at : (xs : List ℕ) (at : ℕ) → at < length xs
    → drop at xs ≡ slice_index_or xs at 0 ∷ drop (suc at) xs
drop-at [] at inside = absurd (let none : ⊥ = omega (arith, inside) in none)
drop-at (x ∷ xs) zero inside = refl
drop-at (x ∷ xs) (suc at) inside = drop-at xs at (omega (arith, inside))

pub drop-past : (xs : List ℕ) (at : ℕ) → length xs ≤ at → drop at xs ≡ []
drop-past [] zero past = refl
drop-past [] (suc at) past = refl
drop-past (x ∷ xs) zero past = absurd (let none : ⊥ = omega (arith, past) in none)
drop-past (x ∷ xs) (suc at) past = drop-past xs at (omega (arith, past))

take_more : (xs : List ℕ) (at : ℕ) → at < length xs
    → take (suc at) xs ≡ take at xs ++ (slice_index_or xs at 0 ∷ [])
take_more [] at inside = absurd (let none : ⊥ = omega (arith, inside) in none)
take_more (x ∷ xs) zero inside = refl
take_more (x ∷ xs) (suc at) inside = ap (λ ys. x ∷ ys) (take_more xs at (omega (arith, inside)))

swap_or : (a b : Bool) → (a || (b || false)) ≡ (b || a)
swap_or true true = refl
swap_or true false = refl
swap_or false true = refl
swap_or false false = refl

-- the rules before a place are those that the walk has passed there
passed-taken : (xs : List ℕ) (at x : ℕ) → at ≤ length xs
    → contains_number x (take at xs) ≡ contains_number x (passed_at xs at)
passed-taken xs zero x within = refl
passed-taken xs (suc at) x within =
    let q : ℕ = slice_index_or xs at 0 in
    ap (contains_number x) (take_more xs at (omega (arith, within)))
    ∙ list_any-append (λ y. y == x) (take at xs) (q ∷ [])
    ∙ swap_or (contains_number x (take at xs)) (q == x)
    ∙ ap (λ b. (q == x) || b) (passed-taken xs at x (omega (arith, within)))

run_at : (P : Plan) (before rs : List ℕ) (at : ℕ) → IsRun P before rs → at < length rs
    → can_take P (before ++ take at rs) (slice_index_or rs at 0) ≡ true
run_at P before [] at run inside = absurd (let none : ⊥ = omega (arith, inside) in none)
run_at P before (r ∷ rs) zero run inside =
    ap (λ taken. can_take P taken r) (append-nil before) ∙ run.0
run_at P before (r ∷ rs) (suc at) run inside =
    ap (λ taken. can_take P taken (slice_index_or rs at 0))
    (sym (append_assoc before (r ∷ []) (take at rs)))
    ∙ run_at P (before ++ (r ∷ [])) rs at run.1 (omega (arith, inside))

-- No rule of the serial order was passed before.
pub fresh-at : (P : Plan) (order : List ℕ) (at : ℕ) → order ≡ serial_order P → at < length order
    → contains_number (slice_index_or order at 0) (passed_at order at) ≡ false
fresh-at P order at is inside =
    let took = order-run P (length P.rules) [] in
    let run : IsRun P [] order = subst (IsRun P []) (sym (is ∙ took.1)) took.2 in
    let q : ℕ = slice_index_or order at 0 in
    let may : can_take P (take at order) q ≡ true = run_at P [] order at run inside in
    sym (passed-taken order at q (omega (arith, inside)))
    ∙ not_true (contains_number q (take at order))
    (and_parts (not (contains_number q (take at order)))
    (list_all (is_made P (take at order)) (takes P q)) may).0

-- Each rule of the serial order is one of the plan.
pub inside-at : (P : Plan) (order : List ℕ) (at : ℕ) → order ≡ serial_order P → at < length order
    → slice_index_or order at 0 < length P.rules
inside-at P order at is inside =
    order_inside P (length P.rules) [] (λ q some. absurd (true≢false (sym some)))
    (slice_index_or order at 0)
    (sym (ap (contains_number (slice_index_or order at 0)) is) ∙ listed-at order at inside)

-- the marks once one more is set
pub marks-set : (over : List Bool) (r q : ℕ) → r < length over
    → is_marked (slice_set over r true) q ≡ ((r == q) || is_marked over q)
marks-set over r q inside = by_rule (r == q) refl
  where
    by_rule : (b : Bool) → (r == q) ≡ b
        → is_marked (slice_set over r true) q ≡ (b || is_marked over q)
    by_rule true same = ap (λ k. is_marked (slice_set over r true) k) (sym (eqb-true r q same))
        ∙ get_or-set_same over r true false inside
    by_rule false other =
        get_or-set_other over r q true false (λ same. eqb-false r q other (sym same))

pub marks-had : (over : List Bool) (r q : ℕ) → is_marked over r ≡ true
    → is_marked over q ≡ ((r == q) || is_marked over q)
marks-had over r q marked = by_rule (r == q) refl
  where
    by_rule : (b : Bool) → (r == q) ≡ b → is_marked over q ≡ (b || is_marked over q)
    by_rule true same = ap (is_marked over) (sym (eqb-true r q same)) ∙ marked
    by_rule false other = refl

all_same : (p q : ℕ → Bool) (xs : List ℕ) → ((r : ℕ) → p r ≡ q r) → list_all p xs ≡ list_all q xs
all_same p q [] same = refl
all_same p q (x ∷ xs) same = ap (λ b. b && list_all p xs) (same x)
    ∙ ap (λ b. q x && b) (all_same p q xs same)

-- the files that the counts leave are those that the walk leaves
left-at : (P : Plan) (S : Standing) (order : List ℕ) (n : ℕ) (c : Counters) (f : ℕ)
    → IsAt P S order n c → is_left_by P c.left.items f ≡ is_left P S (passed_at order n) f
left-at P S order n c f at =
    ap (λ b. is_kept P f || not b)
    (ap (λ k. k == 0) (at.walk.counts f) ∙ sym (spent (counting P c.over.items) f)
    ∙ all_same (is_counted (counting P c.over.items)) (is_over S (passed_at order n))
    (takers_of P f)
    at.over)

share_at : (c p k : Bool) (b m n w : ℕ) → w ≡ min b m → cond c 0 (cond (c || p) w (cond k b 0))
    ≡ cond c 0 (cond p (min b m) (cond k b 0))
share_at true p k b m n w same = refl
share_at false true k b m n w same = same
share_at false false k b m n w same = refl

-- The counted load is v.
pub load-at : (P : Plan) (S : Standing) (order : List ℕ) (n : ℕ) (c : Counters)
    → IsAt P S order n c → c.load ≡ load P S (passed_at order n)
load-at P S order n c at =
    let passed : List ℕ = passed_at order n in
    let over : ℕ → Bool = is_marked c.over.items in
    let left : ℕ → Bool = is_left_by P c.left.items in
    let files : total (bytes_by S left) (made_files P)
    ≡ total (left_bytes P S passed) (made_files P) =
    total_same (bytes_by S left) (left_bytes P S passed) (made_files P)
    (λ f. ap (λ b. cond b (S.bytes f) 0) (left-at P S order n c f at)) in
    let rules : total (share_by P S over left) (rule_numbers P)
    ≡ total (rule_share P S passed) (rule_numbers P) =
    total_same (share_by P S over left) (rule_share P S passed) (rule_numbers P)
    (λ r.
    let bounds : bounds_left P left r ≡ sum_by (left_bound P S passed) (makes P r) =
    sym (total-is (bound_by P left) (makes P r))
    ∙ total_same (bound_by P left) (left_bound P S passed) (makes P r)
    (λ f. ap (λ b. cond b (bound_of P f) 0) (left-at P S order n c f at))
    ∙ total-is (left_bound P S passed) (makes P r) in
    ap (λ p. cond (S.complete r) 0 (cond p (min (rule_bound P r) (bounds_left P left r))
    (cond (S.claimed r) (rule_bound P r) 0))) (at.over r)
    ∙ share_at (S.complete r) (contains_number r passed) (S.claimed r) (rule_bound P r)
    (sum_by (left_bound P S passed) (makes P r)) 0
    (min (rule_bound P r) (bounds_left P left r)) (ap (min (rule_bound P r)) bounds)) in
    omega (
      arith,
      at.walk.loaded.load,
      files,
      rules,
      total-is (bytes_by S left) (made_files P),
      total-is (left_bytes P S passed) (made_files P),
      total-is (share_by P S over left) (rule_numbers P),
      total-is (rule_share P S passed) (rule_numbers P),
    )

or_swapped : (e c p : Bool) → (e || (c || p)) ≡ (c || (e || p))
or_swapped true true p = refl
or_swapped true false p = refl
or_swapped false c p = refl

-- one rule more
pub at-next : (P : Plan) (S : Standing) (order : List ℕ) (n r : ℕ) (before after : Counters)
    → slice_index_or order n 0 ≡ r → IsAt P S order n before → IsWalk P S after
    → ((q : ℕ) → is_marked after.over.items q ≡ ((r == q) || is_marked before.over.items q))
    → IsAt P S order (n + 1) after
at-next P S order n r before after is at walk over =
    subst (λ k. IsAt P S order k after) (let next : suc n ≡ n + 1 = omega arith in next)
    (record {
      walk = walk;
      over = λ q. over q ∙ ap (λ b. (r == q) || b) (at.over q)
          ∙ or_swapped (r == q) (S.complete q) (contains_number q (passed_at order n))
          ∙ ap (λ k. S.complete q || ((k == q) || contains_number q (passed_at order n))) (sym is);
    })

-- a rule that isn't complete isn't marked when its turn comes
pub fresh-mark : (P : Plan) (S : Standing) (order : List ℕ) (n r : ℕ) (c : Counters)
    → order ≡ serial_order P → n < length order → slice_index_or order n 0 ≡ r
    → IsAt P S order n c → S.complete r ≡ false → is_marked c.over.items r ≡ false
fresh-mark P S order n r c is inside here at undone =
    at.over r ∙ ap (λ b. b || contains_number r (passed_at order n)) undone
    ∙ ap (λ q. contains_number q (passed_at order n)) (sym here) ∙ fresh-at P order n is inside

greatest_more : (a : Bool) (g v : ℕ) (rest : List ℕ)
    → max g (greatest (cond a (v ∷ rest) rest)) ≡ max (cond a (max g v) g) (greatest rest)
greatest_more true g v rest = omega arith
greatest_more false g v rest = refl

-- what is left decides: the greatest v, with one rule more
pub greatest-next : (P : Plan) (S : Standing) (order : List ℕ) (n r g v now : ℕ)
    → n < length order → slice_index_or order n 0 ≡ r → v ≡ load P S (passed_at order n)
    → now ≡ cond (is_added S r) (max g (v + rule_bound P r)) g
    → greatest_from P S order (n + 1) now ≡ greatest_from P S order n g
greatest-next P S order n r g v now inside here start is =
    let passed : List ℕ = passed_at order n in
    let q : ℕ = slice_index_or order n 0 in
    let next : n + 1 ≡ suc n = omega arith in
    ap (λ k. greatest_from P S order k now) next
    ∙ ap (λ k. max k (greatest (additions P S (q ∷ passed) (drop (suc n) order))))
    (is ∙ ap (λ k. cond (is_added S k) (max g (v + rule_bound P k)) g) (sym here)
    ∙ ap (λ k. cond (is_added S q) (max g (k + rule_bound P q)) g) start)
    ∙ sym (greatest_more (is_added S q) g (load P S passed + rule_bound P q)
    (additions P S (q ∷ passed) (drop (suc n) order)))
    ∙ sym (ap (λ rs. max g (greatest (additions P S passed rs))) (drop-at order n inside))

pub greatest-end : (P : Plan) (S : Standing) (order : List ℕ) (n g : ℕ) → length order ≤ n
    → greatest_from P S order n g ≡ g
greatest-end P S order n g past =
    ap (λ rs. max g (greatest (additions P S (passed_at order n) rs))) (drop-past order n past)
    ∙ omega arith

pub greatest-start : (P : Plan) (S : Standing) (order : List ℕ) (g : ℕ) → order ≡ serial_order P
    → g ≡ load P S [] → greatest_from P S order 0 g ≡ greatest (walk P S)
greatest-start P S order g is start =
    ap (λ k. max k (greatest (additions P S [] order))) start
    ∙ ap (λ rs. max (load P S []) (greatest (additions P S [] rs))) is

-- the greatest v before a rule, from a place on
abbrev pub before_from : Plan → Standing → ℕ → List ℕ → ℕ → ℕ → ℕ
before_from P S r order n g =
    max g (greatest (additions_before P S r (passed_at order n) (drop n order)))

pub before-next : (P : Plan) (S : Standing) (r : ℕ) (order : List ℕ) (n q g v now : ℕ)
    → n < length order → slice_index_or order n 0 ≡ q → (q == r) ≡ false
    → v ≡ load P S (passed_at order n)
    → now ≡ cond (is_added S q) (max g (v + rule_bound P q)) g
    → before_from P S r order (n + 1) now ≡ before_from P S r order n g
before-next P S r order n q g v now inside here other start is =
    let passed : List ℕ = passed_at order n in
    let p : ℕ = slice_index_or order n 0 in
    let next : n + 1 ≡ suc n = omega arith in
    let rest : List ℕ = additions_before P S r (p ∷ passed) (drop (suc n) order) in
    ap (λ k. before_from P S r order k now) next
    ∙ ap (λ k. max k (greatest rest))
    (is ∙ ap (λ k. cond (is_added S k) (max g (v + rule_bound P k)) g) (sym here)
    ∙ ap (λ k. cond (is_added S p) (max g (k + rule_bound P p)) g) start)
    ∙ sym (greatest_more (is_added S p) g (load P S passed + rule_bound P p) rest)
    ∙ sym (ap
    (λ b. max g
    (greatest
    (cond b [] (cond (is_added S p) ((load P S passed + rule_bound P p) ∷ rest) rest))))
    (ap (λ k. k == r) here ∙ other))
    ∙ sym (ap (λ rs. max g (greatest (additions_before P S r passed rs))) (drop-at order n inside))

pub before-here : (P : Plan) (S : Standing) (r : ℕ) (order : List ℕ) (n q g : ℕ)
    → n < length order → slice_index_or order n 0 ≡ q → (q == r) ≡ true
    → before_from P S r order n g ≡ g
before-here P S r order n q g inside here same =
    let passed : List ℕ = passed_at order n in
    let p : ℕ = slice_index_or order n 0 in
    let rest : List ℕ = additions_before P S r (p ∷ passed) (drop (suc n) order) in
    ap (λ rs. max g (greatest (additions_before P S r passed rs))) (drop-at order n inside)
    ∙ ap (λ b. max g
    (greatest
    (cond b [] (cond (is_added S p) ((load P S passed + rule_bound P p) ∷ rest) rest))))
    (ap (λ k. k == r) here ∙ same)
    ∙ omega arith

pub before-end : (P : Plan) (S : Standing) (r : ℕ) (order : List ℕ) (n g : ℕ) → length order ≤ n
    → before_from P S r order n g ≡ g
before-end P S r order n g past =
    ap (λ rs. max g (greatest (additions_before P S r (passed_at order n) rs)))
    (drop-past order n past)
    ∙ omega arith

pub before-start : (P : Plan) (S : Standing) (r : ℕ) (order : List ℕ) (g : ℕ)
    → order ≡ serial_order P → g ≡ load P S []
    → before_from P S r order 0 g ≡ greatest (walk_before P S r)
before-start P S r order g is start =
    ap (λ k. max k (greatest (additions_before P S r [] order))) start
    ∙ ap (λ rs. max (load P S []) (greatest (additions_before P S r [] rs))) is

-- What a walk knows on the way to a rule: where it stands, and that what is left decides the
-- greatest v of all, and of those before the rule.
pub record IsOnWay (P : Plan) (S : Standing) (order : List ℕ) (r n : ℕ) (c : Counters) (g : ℕ)
    : Type 0 where
  pub at : IsAt P S order n c
  pub whole : greatest_from P S order n g ≡ greatest (walk P S)
  pub before : before_from P S r order n g ≡ greatest (walk_before P S r)

pub way-first : (P : Plan) (S : Standing) (order : List ℕ) (r : ℕ) (c : Counters)
    → order ≡ serial_order P → IsAt P S order 0 c → IsOnWay P S order r 0 c c.load
way-first P S order r c is at =
    let start : c.load ≡ load P S [] = load-at P S order 0 c at in
    record {
      at = at;
      whole = greatest-start P S order c.load is start;
      before = before-start P S r order c.load is start;
    }

pub way-next : (P : Plan) (S : Standing) (order : List ℕ) (r n q : ℕ) (before after : Counters)
    (g now : ℕ) → n < length order → slice_index_or order n 0 ≡ q → (q ≡ r → ⊥)
    → IsWalk P S after
    → ((p : ℕ) → is_marked after.over.items p ≡ ((q == p) || is_marked before.over.items p))
    → now ≡ cond (is_added S q) (max g (before.load + rule_bound P q)) g
    → IsOnWay P S order r n before g → IsOnWay P S order r (n + 1) after now
way-next P S order r n q before after g now inside here other walk over is way =
    let start : before.load ≡ load P S (passed_at order n) = load-at P S order n before way.at in
    record {
      at = at-next P S order n q before after here way.at walk over;
      whole = greatest-next P S order n q g before.load now inside here start is ∙ way.whole;
      before = before-next P S r order n q g before.load now inside here
          (false_from_ne_true (q == r) (λ same. other (eqb-true q r same))) start is ∙ way.before;
    }

pub way-here : (P : Plan) (S : Standing) (order : List ℕ) (r n q : ℕ) (c : Counters) (g : ℕ)
    → n < length order → slice_index_or order n 0 ≡ q → q ≡ r → IsOnWay P S order r n c g
    → g ≡ greatest (walk_before P S r)
way-here P S order r n q c g inside here same way =
    sym (before-here P S r order n q g inside here (eq-eqb q r same)) ∙ way.before

pub way-end : (P : Plan) (S : Standing) (order : List ℕ) (r n : ℕ) (c : Counters) (g : ℕ)
    → length order ≤ n → IsOnWay P S order r n c g → g ≡ greatest (walk_before P S r)
way-end P S order r n c g past way = sym (before-end P S r order n g past) ∙ way.before

-- What a walk knows behind a place: where it stands, and that what is left decides the greatest v.
pub record IsBehind (P : Plan) (S : Standing) (order : List ℕ) (n : ℕ) (c : Counters)
    (g from start : ℕ) : Type 0 where
  pub at : IsAt P S order n c
  pub whole : greatest_from P S order n g ≡ greatest_from P S order from start

pub behind-first : (P : Plan) (S : Standing) (order : List ℕ) (n : ℕ) (c : Counters) (g : ℕ)
    → IsAt P S order n c → IsBehind P S order n c g n g
behind-first P S order n c g at = record { at = at; whole = refl }

pub behind-next : (P : Plan) (S : Standing) (order : List ℕ) (n q : ℕ) (before after : Counters)
    (g now from start : ℕ) → n < length order → slice_index_or order n 0 ≡ q
    → IsWalk P S after
    → ((p : ℕ) → is_marked after.over.items p ≡ ((q == p) || is_marked before.over.items p))
    → now ≡ cond (is_added S q) (max g (before.load + rule_bound P q)) g
    → IsBehind P S order n before g from start → IsBehind P S order (n + 1) after now from start
behind-next P S order n q before after g now from start inside here walk over is behind =
    let loaded : before.load ≡ load P S (passed_at order n) =
    load-at P S order n before behind.at in
    record {
      at = at-next P S order n q before after here behind.at walk over;
      whole = greatest-next P S order n q g before.load now inside here loaded is
          ∙ behind.whole;
    }

pub behind-end : (P : Plan) (S : Standing) (order : List ℕ) (n : ℕ) (c : Counters)
    (g from start : ℕ) → length order ≤ n → IsBehind P S order n c g from start
    → g ≡ greatest_from P S order from start
behind-end P S order n c g from start past behind =
    sym (greatest-end P S order n g past) ∙ behind.whole

pub behind-least : (P : Plan) (S : Standing) (order : List ℕ) (n : ℕ) (c : Counters)
    (g from start : ℕ) → IsBehind P S order n c g from start
    → g ≤ greatest_from P S order from start
behind-least P S order n c g from start behind =
    let most : g ≤ greatest_from P S order n g =
    le-max_left g (greatest (additions P S (passed_at order n) (drop n order))) in
    subst (λ k. g ≤ k) behind.whole most

or_false : (b : Bool) → b ≡ (b || false)
or_false true = refl
or_false false = refl

-- Where a walk begins it stands at the first place.
pub at-first : (P : Plan) (S : Standing) (order : List ℕ) (c : Counters) → IsWalk P S c
    → ((r : ℕ) → is_marked c.over.items r ≡ S.complete r) → IsAt P S order 0 c
at-first P S order c walk over = record {
  walk = walk;
  over = λ r. over r ∙ or_false (S.complete r);
}

-- The greatest v of all, where a walk goes on from its start to the end.
pub greatest-all : (P : Plan) (S : Standing) (order : List ℕ) (c : Counters) (g : ℕ)
    → order ≡ serial_order P → IsWalk P S c
    → ((r : ℕ) → is_marked c.over.items r ≡ S.complete r)
    → g ≡ greatest_from P S order 0 c.load → g ≡ greatest (walk P S)
greatest-all P S order c g is walk over all =
    all ∙ greatest-start P S order c.load is
    (load-at P S order 0 c (at-first P S order c walk over))

-- A walk keeps a place for each rule and each file.
pub at-places : (P : Plan) (S : Standing) (order : List ℕ) (n : ℕ) (c : Counters)
    → IsAt P S order n c → HasPlaces P c
at-places P S order n c at = record {
  rules = at.walk.loaded.rules;
  files = at.walk.loaded.files;
  rests = at.walk.loaded.rests;
}
