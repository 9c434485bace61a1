-- When one walk has no more than another.
use Rattle.std.proofs.Common.{◌≡◌, ℕ, ◌+◌, ◌≤◌, Bool, true, false, cond, not, ◌||◌, List, []}
use Rattle.std.proofs.Common.{◌∷◌, refl, ap, sym, ◌∙◌, arith, true≢false}
use Rattle.std.specs.Prelude.{sum_by, nat_le, is_some}
use Rattle.std.specs.List.{list_all}
use Rattle.std.proofs.lemmas.Bool.{leb-true, le-leb, and_parts}
use Rattle.std.proofs.Math.Nat.{min-le_left, min-le_right, le-min}
use Rattle.flow_types.specs.declared.plan.Plan.{Plan}
use Rattle.flow_types.specs.Plans.{rule_numbers, file_numbers, made_files, makes, maker_of}
use Rattle.flow_types.specs.Plans.{takers_of, is_kept, bound_of, contains_number}
use Rattle.flow_types.specs.Serial.{serial_order}
use Rattle.flow_types.proofs.Totals.{total, total-is, total-le, total-filter}
use Rattle.run_history.specs.Storage.{rule_bound}
use Rattle.run_history.proofs.Bools.{both}
use Rattle.run_history.proofs.Stores.{total_same}
use Rattle.safe_walks.specs.Walk.{Standing, is_over, is_left, left_bytes, left_bound}
use Rattle.safe_walks.specs.Walk.{outputs_share, rule_share, load, is_added, additions, walk}
use Rattle.safe_walks.specs.Walk.{stays_within}

-- each number is at most the limit
abbrev pub all_within : ℕ → List ℕ → Bool
all_within limit vs = list_all (λ v. nat_le v limit) vs

pub first_le : (m n limit : ℕ) → n ≤ m → nat_le m limit ≡ true → nat_le n limit ≡ true
first_le m n limit le within = le-leb n limit (omega (arith, le, leb-true m limit within))

-- one more rule of the walk, where the second adds only what the first adds, and no more
pub next_within : (m n limit : ℕ) (olds news : List ℕ) (a b : Bool) → n ≤ m → (b ≡ true → a ≡ true)
    → (all_within limit olds ≡ true → all_within limit news ≡ true)
    → all_within limit (cond a (m ∷ olds) olds) ≡ true → all_within limit (cond b (n ∷ news) news)
    ≡ true
next_within m n limit olds news true true le adds rest within =
    let parts = and_parts (nat_le m limit) (all_within limit olds) within in
    both (nat_le n limit) (all_within limit news) (first_le m n limit le parts.0) (rest parts.1)
next_within m n limit olds news true false le adds rest within =
    rest (and_parts (nat_le m limit) (all_within limit olds) within).1
next_within m n limit olds news false true le adds rest within =
    absurd (true≢false (sym (adds refl)))
next_within m n limit olds news false false le adds rest within = rest within

-- One walk has no more than another: at each point its load is no more, and it adds only rules that
-- the other adds.
pub record IsLess (P : Plan) (S T : Standing) : Type 0 where
  pub loads : (passed : List ℕ) → load P T passed ≤ load P S passed
  pub adds : (r : ℕ) → is_added T r ≡ true → is_added S r ≡ true

additions_within : (P : Plan) (S T : Standing) (limit : ℕ) (passed rs : List ℕ) → IsLess P S T
    → all_within limit (additions P S passed rs) ≡ true → all_within limit (additions P T passed rs)
    ≡ true
additions_within P S T limit passed [] less within = refl
additions_within P S T limit passed (r ∷ rs) less within =
    let le : load P T passed ≤ load P S passed = less.loads passed in
    next_within (load P S passed + rule_bound P r) (load P T passed + rule_bound P r) limit
    (additions P S (r ∷ passed) rs) (additions P T (r ∷ passed) rs)
    (is_added S r) (is_added T r) (omega (arith, le)) (less.adds r)
    (additions_within P S T limit (r ∷ passed) rs less) within

-- What has no more stays within too.
pub less-within : (P : Plan) (S T : Standing) (limit : ℕ) → IsLess P S T → stays_within P S limit
    ≡ true → stays_within P T limit ≡ true
less-within P S T limit less within =
    let parts =
    and_parts (nat_le (load P S []) limit)
    (all_within limit (additions P S [] (serial_order P))) within in
    both (nat_le (load P T []) limit) (all_within limit (additions P T [] (serial_order P)))
    (first_le (load P S []) (load P T []) limit (less.loads []) parts.0)
    (additions_within P S T limit [] (serial_order P) less parts.1)

-- more rules are complete
abbrev pub Grows : Standing → Standing → Type 0
Grows S T = (r : ℕ) → S.complete r ≡ true → T.complete r ≡ true

over_or : (a b c : Bool) → (a ≡ true → b ≡ true) → (a || c) ≡ true → (b || c) ≡ true
over_or true b c implies h = ap (λ d. d || c) (implies refl)
over_or false true c implies h = refl
over_or false false c implies h = h

all_over : (S T : Standing) (passed rs : List ℕ) → Grows S T → list_all (is_over S passed) rs ≡ true
    → list_all (is_over T passed) rs ≡ true
all_over S T passed [] grows over = refl
all_over S T passed (r ∷ rs) grows over =
    let parts = and_parts (is_over S passed r) (list_all (is_over S passed) rs) over in
    both (is_over T passed r) (list_all (is_over T passed) rs)
    (over_or (S.complete r) (T.complete r) (contains_number r passed) (grows r) parts.0)
    (all_over S T passed rs grows parts.1)

pub left_or : (k a b : Bool) → (a ≡ true → b ≡ true) → (k || not b) ≡ true → (k || not a) ≡ true
left_or true a b implies h = refl
left_or false true b implies h = sym (ap not (implies refl)) ∙ h
left_or false false b implies h = refl

-- fewer files are left
pub left-less : (P : Plan) (S T : Standing) (passed : List ℕ) (f : ℕ) → Grows S T
    → is_left P T passed f ≡ true → is_left P S passed f ≡ true
left-less P S T passed f grows left =
    left_or (is_kept P f) (list_all (is_over S passed) (takers_of P f))
    (list_all (is_over T passed) (takers_of P f)) (all_over S T passed (takers_of P f) grows)
    left

pub cond-le : (a b : Bool) (m n : ℕ) → (a ≡ true → b ≡ true) → m ≤ n → cond a m 0 ≤ cond b n 0
cond-le false b m n implies le = omega arith
cond-le true true m n implies le = le
cond-le true false m n implies le = absurd (true≢false (sym (implies refl)))

pub sum-le : (f g : ℕ → ℕ) (xs : List ℕ) → ((x : ℕ) → f x ≤ g x) → sum_by f xs ≤ sum_by g xs
sum-le f g xs le = omega (arith, total-le f g xs le, total-is f xs, total-is g xs)

-- what the outputs count as is no more
pub outputs-less : (P : Plan) (S T : Standing) (passed : List ℕ) (r : ℕ) → Grows S T
    → outputs_share P T passed r ≤ outputs_share P S passed r
outputs-less P S T passed r grows =
    let fewer : sum_by (left_bound P T passed) (makes P r)
    ≤ sum_by (left_bound P S passed) (makes P r) =
    sum-le (left_bound P T passed) (left_bound P S passed) (makes P r)
    (λ f. cond-le (is_left P T passed f) (is_left P S passed f) (bound_of P f) (bound_of P f)
    (left-less P S T passed f grows) (omega arith)) in
    le-min (min-le_left (rule_bound P r) (sum_by (left_bound P T passed) (makes P r)))
    (omega (
      arith,
      fewer,
      min-le_right (rule_bound P r)
          (sum_by (left_bound P T passed) (makes P r)),
    ))

share_le : (c d p a b : Bool) (m n w : ℕ) → (d ≡ true → c ≡ true) → m ≤ n
    → (c ≡ false → a ≡ true → b ≡ true)
    → cond c 0 (cond p m (cond a w 0)) ≤ cond d 0 (cond p n (cond b w 0))
share_le true d p a b m n w grows le claims = omega arith
share_le false true p a b m n w grows le claims = absurd (true≢false (sym (grows refl)))
share_le false false true a b m n w grows le claims = le
share_le false false false a b m n w grows le claims = cond-le a b w w (claims refl) (omega arith)

-- a rule that isn't complete is claimed only where it was
abbrev pub ClaimsFewer : Standing → Standing → Type 0
ClaimsFewer S T = (r : ℕ) → T.complete r ≡ false → T.claimed r ≡ true → S.claimed r ≡ true

-- what a rule counts as is no more
pub share-less : (P : Plan) (S T : Standing) (passed : List ℕ) (r : ℕ) → Grows S T → ClaimsFewer S T
    → rule_share P T passed r ≤ rule_share P S passed r
share-less P S T passed r grows claims =
    share_le (T.complete r) (S.complete r) (contains_number r passed) (T.claimed r) (S.claimed r)
    (outputs_share P T passed r) (outputs_share P S passed r) (rule_bound P r)
    (grows r) (outputs-less P S T passed r grows) (claims r)

-- the bytes of a file where a rule made it
abbrev pub made_size : Plan → Standing → ℕ → ℕ
made_size P S f = cond (is_some (maker_of P f)) (S.bytes f) 0

-- the bytes of a made file where it is left
abbrev pub held : Plan → Standing → List ℕ → ℕ → ℕ
held P S passed f = cond (is_left P S passed f) (made_size P S f) 0

swap_tests : (a b : Bool) (n : ℕ) → cond a (cond b n 0) 0 ≡ cond b (cond a n 0) 0
swap_tests true true n = refl
swap_tests true false n = refl
swap_tests false true n = refl
swap_tests false false n = refl

-- the present files of a load, as a total over all files
pub held-is : (P : Plan) (S : Standing) (passed : List ℕ)
    → sum_by (left_bytes P S passed) (made_files P) ≡ total (held P S passed) (file_numbers P)
held-is P S passed =
    sym (total-is (left_bytes P S passed) (made_files P))
    ∙ total-filter (left_bytes P S passed) (λ f. is_some (maker_of P f)) (file_numbers P)
    ∙ total_same (λ f. cond (is_some (maker_of P f)) (left_bytes P S passed f) 0) (held P S passed)
    (file_numbers P)
    (λ f. swap_tests (is_some (maker_of P f)) (is_left P S passed f) (S.bytes f))

-- Where more rules are complete, fewer are claimed and each made file has no more bytes, the load
-- is no more.
pub load-less : (P : Plan) (S T : Standing) → Grows S T → ClaimsFewer S T
    → ((f : ℕ) → made_size P T f ≤ made_size P S f)
    → (passed : List ℕ) → load P T passed ≤ load P S passed
load-less P S T grows claims sizes passed =
    let files : total (held P T passed) (file_numbers P)
    ≤ total (held P S passed) (file_numbers P) =
    total-le (held P T passed) (held P S passed) (file_numbers P)
    (λ f. cond-le (is_left P T passed f) (is_left P S passed f) (made_size P T f) (made_size P S f)
    (left-less P S T passed f grows) (sizes f)) in
    let rules : sum_by (rule_share P T passed) (rule_numbers P)
    ≤ sum_by (rule_share P S passed) (rule_numbers P) =
    sum-le (rule_share P T passed) (rule_share P S passed) (rule_numbers P)
    (λ r. share-less P S T passed r grows claims) in
    omega (arith, files, rules, held-is P S passed, held-is P T passed)

-- The same, as one walk against another.
pub is-less : (P : Plan) (S T : Standing) → Grows S T → ClaimsFewer S T
    → ((f : ℕ) → made_size P T f ≤ made_size P S f)
    → ((r : ℕ) → is_added T r ≡ true → is_added S r ≡ true) → IsLess P S T
is-less P S T grows claims sizes adds =
    record { loads = load-less P S T grows claims sizes; adds = adds }

all_under : (limit more : ℕ) (vs : List ℕ) → nat_le limit more ≡ true → all_within limit vs ≡ true
    → all_within more vs ≡ true
all_under limit more [] le within = refl
all_under limit more (v ∷ vs) le within =
    let parts = and_parts (nat_le v limit) (all_within limit vs) within in
    both (nat_le v more) (all_within more vs)
    (le-leb v more (omega (arith, leb-true v limit parts.0, leb-true limit more le)))
    (all_under limit more vs le parts.1)

-- What stays within a limit stays within a greater one.
pub within-more : (P : Plan) (S : Standing) (limit more : ℕ) → nat_le limit more ≡ true
    → stays_within P S limit ≡ true → stays_within P S more ≡ true
within-more P S limit more le within = all_under limit more (walk P S) le within
