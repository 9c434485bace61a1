-- What a walk has at most, and what it has more or less once a rule is passed or a file dropped.
use Rattle.std.proofs.Common.{◌≡◌, ℕ, zero, suc, ◌+◌, ◌*◌, ◌≤◌, ◌<◌, Bool, true, false, cond, not}
use Rattle.std.proofs.Common.{◌||◌, List, [], ◌∷◌, length, Option, Some, None, refl, ap, sym}
use Rattle.std.proofs.Common.{◌∙◌, arith, true≢false}
use Rattle.std.specs.Prelude.{◌==◌, is_some, min, nat_lt, slice_get, slice_set}
use Rattle.std.specs.Prelude.{sum_by}
use Rattle.std.specs.List.{list_all, range_with_len}
use Rattle.std.specs.Option.{option_map_or}
use Rattle.std.proofs.lemmas.Bool.{and_parts, eqb-false, eqb-true, false_from_ne_true}
use Rattle.std.proofs.lemmas.Bool.{leb-true}
use Rattle.std.proofs.lemmas.List.{get_or-set_other, get_or-set_same}
use Rattle.std.proofs.Math.Nat.{min-le_left}
use Rattle.flow_types.specs.declared.plan.Plan.{Plan}
use Rattle.flow_types.specs.declared.plan.Rule.{Rule}
use Rattle.flow_types.specs.Plans.{IsValid, all_pairs, bound_of, contains_number, file_numbers}
use Rattle.flow_types.specs.Plans.{files_of, made_files, maker_of, makes, most_bytes}
use Rattle.flow_types.specs.Plans.{most_files, most_rules, rule_numbers}
use Rattle.flow_types.proofs.SerialRun.{all_in_range, has-makers, in_plan}
use Rattle.flow_types.proofs.Totals.{at_place, place-inside, total, total-filter, total-is}
use Rattle.flow_types.proofs.Totals.{total-le}
use Rattle.gc_refcount.proofs.Changing.{total-changed, total-most}
use Rattle.run_history.specs.Storage.{rule_bound}
use Rattle.run_history.proofs.Bools.{not_true}
use Rattle.run_history.proofs.Stores.{total_same}
use Rattle.safe_walks.specs.Walk.{Standing}
use Rattle.safe_storage.specs.Counters.{bound_by, bounds_left, bytes_by, claim_share}
use Rattle.safe_storage.specs.Counters.{is_marked, load_by, share_by}
use Rattle.safe_walks.proofs.Passes.{turned}

-- the bytes of the present files that aren't dropped, as a total over all files
bytes_total : (P : Plan) (S : Standing) (left : ℕ → Bool)
    → sum_by (bytes_by S left) (made_files P)
    ≡ total (λ f. cond (is_some (maker_of P f)) (bytes_by S left f) 0) (file_numbers P)
bytes_total P S left =
    sym (total-is (bytes_by S left) (made_files P))
    ∙ total-filter (bytes_by S left) (λ f. is_some (maker_of P f)) (file_numbers P)

bounded : (P : Plan) (rules : List Rule) (r : ℕ)
    → list_all
    (λ (rule : Rule). rule.bound == min (sum_by (λ port. bound_of P port.file.0) rule.outputs)
    most_bytes) rules ≡ true
    → option_map_or (λ (rule : Rule). rule.bound) (slice_get rules r) 0 ≤ most_bytes
bounded P [] r all = omega arith
bounded P (rule ∷ rules) zero all =
    let here : rule.bound
    ≡ min (sum_by (λ port. bound_of P port.file.0) rule.outputs) most_bytes =
    eqb-true rule.bound
    (min (sum_by (λ port. bound_of P port.file.0) rule.outputs) most_bytes)
    (and_parts _ _ all).0 in
    omega (arith, here)
bounded P (rule ∷ rules) (suc r) all = bounded P rules r (and_parts _ _ all).1

-- a rule's bound is at most the most bytes of one rule's outputs
pub bound-small : (P : Plan) (r : ℕ) → IsValid P → rule_bound P r ≤ most_bytes
bound-small P r valid = bounded P P.rules r valid.rule_bounds

share_small : (c p k : Bool) (b m n : ℕ) → b ≤ n
    → cond c 0 (cond p (min b m) (cond k b 0)) ≤ n
share_small true p k b m n le = omega arith
share_small false true k b m n le = omega (arith, le, min-le_left b m)
share_small false false true b m n le = le
share_small false false false b m n le = omega arith

file_small : (a b : Bool) (m n : ℕ) → m ≤ n → cond a (cond b m 0) 0 ≤ n
file_small true true m n le = le
file_small true false m n le = omega arith
file_small false b m n le = omega arith

-- No load is large.
pub load-small : (P : Plan) (S : Standing) (over left : ℕ → Bool) → IsValid P
    → ((f : ℕ) → S.bytes f ≤ most_bytes)
    → load_by P S over left ≤ most_files * most_bytes + most_rules * most_bytes
load-small P S over left valid small =
    let files : total (λ f. cond (is_some (maker_of P f)) (bytes_by S left f) 0) (file_numbers P)
    ≤ length P.files * most_bytes =
    total-most (λ f. cond (is_some (maker_of P f)) (bytes_by S left f) 0) most_bytes 0
    (length P.files)
    (λ f. file_small (is_some (maker_of P f)) (left f) (S.bytes f) most_bytes (small f)) in
    let rules : total (share_by P S over left) (rule_numbers P) ≤ length P.rules * most_bytes =
    total-most (share_by P S over left) most_bytes 0 (length P.rules)
    (λ r. share_small (S.complete r) (over r) (S.claimed r) (rule_bound P r)
    (bounds_left P left r) most_bytes (bound-small P r valid)) in
    let few_files : length P.files ≤ most_files =
    leb-true (length P.files) most_files valid.few_files in
    let few_rules : length P.rules ≤ most_rules =
    leb-true (length P.rules) most_rules valid.few_rules in
    omega (
      arith,
      files,
      rules,
      few_files,
      few_rules,
      bytes_total P S left,
      total-is (share_by P S over left) (rule_numbers P),
    )

place_most : (g : ℕ → ℕ) (p x : ℕ) (b : Bool) → (p == x) ≡ b → cond b (g p) 0 ≤ g x
place_most g p x true same =
    let one : g p ≡ g x = ap g (eqb-true p x same) in omega (arith, one)
place_most g p x false other = omega arith

-- one of the rules has no more than all together
total-has : (g : ℕ → ℕ) (p n : ℕ) → p < n → g p ≤ total g (range_with_len 0 n)
total-has g p n inside =
    let le : total (at_place (g p) p) (range_with_len 0 n) ≤ total g (range_with_len 0 n) =
    total-le (at_place (g p) p) g (range_with_len 0 n) (λ x. place_most g p x (p == x) refl) in
    let found : g p ≤ total (at_place (g p) p) (range_with_len 0 n) =
    place-inside (g p) p 0 n (omega arith) (omega (arith, inside)) in
    omega (arith, le, found)

-- what a rule counts as is in the load
pub share-in : (P : Plan) (S : Standing) (over left : ℕ → Bool) (r : ℕ) → r < length P.rules
    → share_by P S over left r ≤ load_by P S over left
share-in P S over left r inside =
    omega (
      arith,
      total-has (share_by P S over left) r (length P.rules) inside,
      total-is (share_by P S over left) (rule_numbers P),
    )

-- what a rule counts as before it is passed
pub share-open : (P : Plan) (S : Standing) (over left : ℕ → Bool) (r : ℕ) → over r ≡ false
    → share_by P S over left r ≡ claim_share P S r
share-open P S over left r fresh =
    ap (λ p. cond (S.complete r) 0
    (cond p (min (rule_bound P r) (bounds_left P left r)) (cond (S.claimed r) (rule_bound P r) 0)))
    fresh

share-passed : (P : Plan) (S : Standing) (over left : ℕ → Bool) (r : ℕ) → S.complete r ≡ false
    → over r ≡ true → share_by P S over left r ≡ min (rule_bound P r) (bounds_left P left r)
share-passed P S over left r undone passed =
    ap (λ c. cond c 0
    (cond (over r) (min (rule_bound P r) (bounds_left P left r))
    (cond (S.claimed r) (rule_bound P r) 0)))
    undone
    ∙ ap (λ p. cond p (min (rule_bound P r) (bounds_left P left r))
    (cond (S.claimed r) (rule_bound P r) 0))
    passed

-- A rule is passed: its outputs count in its place.
pub load-passed : (P : Plan) (S : Standing) (over : List Bool) (left : ℕ → Bool) (r : ℕ)
    → r < length P.rules → length over ≡ length P.rules → is_marked over r ≡ false
    → S.complete r ≡ false
    → load_by P S (is_marked (slice_set over r true)) left + claim_share P S r
    ≡ load_by P S (is_marked over) left + min (rule_bound P r) (bounds_left P left r)
load-passed P S over left r inside long fresh undone =
    let new : ℕ → ℕ = share_by P S (is_marked (slice_set over r true)) left in
    let old : ℕ → ℕ = share_by P S (is_marked over) left in
    let changed : total new (rule_numbers P) + old r ≡ total old (rule_numbers P) + new r =
    total-changed new old r 0 (length P.rules) (omega arith) (omega (arith, inside))
    (λ q apart. ap (λ p. cond (S.complete q) 0
    (cond p (min (rule_bound P q) (bounds_left P left q)) (cond (S.claimed q) (rule_bound P q) 0)))
    (get_or-set_other over r q true false (λ same. apart (sym same)))) in
    let before : old r ≡ claim_share P S r = share-open P S (is_marked over) left r fresh in
    let after : new r ≡ min (rule_bound P r) (bounds_left P left r) =
    share-passed P S (is_marked (slice_set over r true)) left r undone
    (get_or-set_same over r true false (omega (arith, inside, long))) in
    omega (
      arith,
      changed,
      before,
      after,
      total-is new (rule_numbers P),
      total-is old
          (rule_numbers P),
    )

-- Where the same files are left, the bounds and the load are the same.
pub bounds-same : (P : Plan) (left now : ℕ → Bool) (r : ℕ) → ((f : ℕ) → now f ≡ left f)
    → bounds_left P now r ≡ bounds_left P left r
bounds-same P left now r same =
    sym (total-is (bound_by P now) (makes P r))
    ∙ total_same (bound_by P now) (bound_by P left) (makes P r)
    (λ f. ap (λ b. cond b (bound_of P f) 0) (same f))
    ∙ total-is (bound_by P left) (makes P r)

share_same : (P : Plan) (S : Standing) (over left now : ℕ → Bool) (r : ℕ)
    → bounds_left P now r ≡ bounds_left P left r
    → share_by P S over now r ≡ share_by P S over left r
share_same P S over left now r same =
    ap (λ n. cond (S.complete r) 0
    (cond (over r) (min (rule_bound P r) n) (cond (S.claimed r) (rule_bound P r) 0))) same

pub load-same : (P : Plan) (S : Standing) (over left now : ℕ → Bool) → ((f : ℕ) → now f ≡ left f)
    → load_by P S over now ≡ load_by P S over left
load-same P S over left now same =
    let files : total (bytes_by S now) (made_files P) ≡ total (bytes_by S left) (made_files P) =
    total_same (bytes_by S now) (bytes_by S left) (made_files P)
    (λ f. ap (λ b. cond b (S.bytes f) 0) (same f)) in
    let rules : total (share_by P S over now) (rule_numbers P)
    ≡ total (share_by P S over left) (rule_numbers P) =
    total_same (share_by P S over now) (share_by P S over left) (rule_numbers P)
    (λ r. share_same P S over left now r (bounds-same P left now r same)) in
    omega (
      arith,
      files,
      rules,
      total-is (bytes_by S now) (made_files P),
      total-is (bytes_by S left) (made_files P),
      total-is (share_by P S over now) (rule_numbers P),
      total-is (share_by P S over left) (rule_numbers P),
    )

-- File f is left, and then it isn't; other files stay as they are.
pub record IsDrop (f : ℕ) (left now : ℕ → Bool) : Type 0 where
  pub before : left f ≡ true
  pub after : now f ≡ false
  pub others : (g : ℕ) → (f ≡ g → ⊥) → now g ≡ left g

none_among : (f : ℕ) (xs : List ℕ) → list_all (λ g. not (f == g)) xs ≡ true
    → contains_number f xs ≡ false
none_among f [] all = refl
none_among f (x ∷ xs) all =
    let parts = and_parts (not (f == x)) (list_all (λ g. not (f == g)) xs) all in
    ap (λ b. b || contains_number f xs) (turned f x false (not_true (f == x) parts.0))
    ∙ none_among f xs parts.1

cut_list : (P : Plan) (f : ℕ) (left now : ℕ → Bool) (xs : List ℕ)
    → all_pairs (λ a b. not (a == b)) xs ≡ true → IsDrop f left now
    → total (bound_by P left) xs
    ≡ total (bound_by P now) xs + cond (contains_number f xs) (bound_of P f) 0
cut_list P f left now [] all drop = refl
cut_list P f left now (x ∷ xs) all drop = by_first (x == f) refl
    (cut_list P f left now xs (and_parts (list_all (λ b. not (x == b)) xs) _ all).1 drop)
  where
    by_first : (b : Bool) → (x == f) ≡ b
        → total (bound_by P left) xs
        ≡ total (bound_by P now) xs + cond (contains_number f xs) (bound_of P f) 0
        → total (bound_by P left) (x ∷ xs)
        ≡ total (bound_by P now) (x ∷ xs) + cond (b || contains_number f xs) (bound_of P f) 0
    by_first true is rest =
        let same : x ≡ f = eqb-true x f is in
        let first : bound_by P left x ≡ bound_of P f =
        ap (bound_by P left) same ∙ ap (λ b. cond b (bound_of P f) 0) drop.before in
        let gone : bound_by P now x ≡ 0 =
        ap (bound_by P now) same ∙ ap (λ b. cond b (bound_of P f) 0) drop.after in
        let once : contains_number x xs ≡ false =
        none_among x xs (and_parts (list_all (λ b. not (x == b)) xs) _ all).0 in
        let no_more : cond (contains_number f xs) (bound_of P f) 0 ≡ 0 =
        ap (λ b. cond b (bound_of P f) 0)
        (ap (λ y. contains_number y xs) (sym same) ∙ once) in
        omega (arith, first, gone, no_more, rest)
    by_first false other rest =
        let first : bound_by P now x ≡ bound_by P left x =
        ap (λ b. cond b (bound_of P x) 0)
        (drop.others x (λ same. eqb-false x f other (sym same))) in
        omega (arith, first, rest)

distinct_in : (rules : List Rule) (r : ℕ)
    → list_all (λ (rule : Rule). all_pairs (λ f g. not (f == g)) (files_of rule.outputs)) rules
    ≡ true
    → all_pairs (λ f g. not (f == g))
    (option_map_or (λ (rule : Rule). files_of rule.outputs) (slice_get rules r) []) ≡ true
distinct_in [] r all = refl
distinct_in (rule ∷ rules) zero all = (and_parts _ _ all).0
distinct_in (rule ∷ rules) (suc r) all = distinct_in rules r (and_parts _ _ all).1

-- the bounds of a rule's outputs once a file is dropped
pub bounds-dropped : (P : Plan) (f r : ℕ) (left now : ℕ → Bool) → IsValid P → IsDrop f left now
    → bounds_left P left r
    ≡ bounds_left P now r + cond (contains_number f (makes P r)) (bound_of P f) 0
bounds-dropped P f r left now valid drop =
    let lists : total (bound_by P left) (makes P r)
    ≡ total (bound_by P now) (makes P r) + cond (contains_number f (makes P r)) (bound_of P f) 0 =
    cut_list P f left now (makes P r) (distinct_in P.rules r valid.one_port) drop in
    omega (
      arith,
      lists,
      total-is (bound_by P left) (makes P r),
      total-is (bound_by P now)
          (makes P r),
    )

some_same : (a b : ℕ) → (let first : Option ℕ = Some a in first ≡ Some b) → a ≡ b
some_same a b same = cc

none_some : (b : ℕ) → (let none : Option ℕ = None in none ≡ Some b) → ⊥
none_some b same = cc

-- a rule that isn't the maker doesn't make the file
other-rule : (P : Plan) (f m r : ℕ) → IsValid P → maker_of P f ≡ Some m → (m ≡ r → ⊥)
    → contains_number f (makes P r) ≡ false
other-rule P f m r valid made apart =
    false_from_ne_true (contains_number f (makes P r))
    (λ makes_it. apart (some_same m r (sym made ∙ has-makers P valid r f makes_it)))

no-rule : (P : Plan) (f r : ℕ) → IsValid P → maker_of P f ≡ None
    → contains_number f (makes P r) ≡ false
no-rule P f r valid source =
    false_from_ne_true (contains_number f (makes P r))
    (λ makes_it. none_some r (sym source ∙ has-makers P valid r f makes_it))

-- the maker makes the file, and is a rule of the plan
pub maker-makes : (P : Plan) (f m : ℕ) → IsValid P → f < length P.files → maker_of P f ≡ Some m
    → contains_number f (makes P m) ≡ true
maker-makes P f m valid inside made =
    sym (ap (λ o. option_map_or (λ r. contains_number f (makes P r)) o true) made)
    ∙ all_in_range (λ g. option_map_or (λ r. contains_number g (makes P r)) (maker_of P g) true) 0
    (length P.files) f valid.makers (omega arith) (omega (arith, inside))

pub maker-inside : (P : Plan) (f m : ℕ) → IsValid P → f < length P.files → maker_of P f ≡ Some m
    → m < length P.rules
maker-inside P f m valid inside made =
    in_plan P m f (nat_lt m (length P.rules)) refl (maker-makes P f m valid inside made)

not_made : (b : Bool) (m n : ℕ) → b ≡ false → cond b m 0 ≡ cond b n 0
not_made true m n none = absurd (true≢false none)
not_made false m n none = refl

-- the bounds of other rules stay
pub bounds-other : (P : Plan) (f m r : ℕ) (left now : ℕ → Bool) → IsValid P → IsDrop f left now
    → maker_of P f ≡ Some m → (m ≡ r → ⊥) → bounds_left P now r ≡ bounds_left P left r
bounds-other P f m r left now valid drop made apart =
    let none : cond (contains_number f (makes P r)) (bound_of P f) 0 ≡ 0 =
    ap (λ b. cond b (bound_of P f) 0) (other-rule P f m r valid made apart) in
    omega (arith, bounds-dropped P f r left now valid drop, none)

pub bounds-source : (P : Plan) (f r : ℕ) (left now : ℕ → Bool) → IsValid P → IsDrop f left now
    → maker_of P f ≡ None → bounds_left P now r ≡ bounds_left P left r
bounds-source P f r left now valid drop source =
    let none : cond (contains_number f (makes P r)) (bound_of P f) 0 ≡ 0 =
    ap (λ b. cond b (bound_of P f) 0) (no-rule P f r valid source) in
    omega (arith, bounds-dropped P f r left now valid drop, none)

-- the maker's bounds are less by that of the file
pub bounds-maker : (P : Plan) (f m : ℕ) (left now : ℕ → Bool) → IsValid P → IsDrop f left now
    → f < length P.files → maker_of P f ≡ Some m
    → bounds_left P left m ≡ bounds_left P now m + bound_of P f
bounds-maker P f m left now valid drop inside made =
    let some : cond (contains_number f (makes P m)) (bound_of P f) 0 ≡ bound_of P f =
    ap (λ b. cond b (bound_of P f) 0) (maker-makes P f m valid inside made) in
    omega (arith, bounds-dropped P f m left now valid drop, some)

-- the bytes that are left are less by those of the file, where a rule made it
bytes-dropped : (P : Plan) (S : Standing) (f : ℕ) (left now : ℕ → Bool) → IsDrop f left now
    → f < length P.files
    → sum_by (bytes_by S left) (made_files P)
    ≡ sum_by (bytes_by S now) (made_files P) + cond (is_some (maker_of P f)) (S.bytes f) 0
bytes-dropped P S f left now drop inside =
    let old : ℕ → ℕ = λ g. cond (is_some (maker_of P g)) (bytes_by S left g) 0 in
    let new : ℕ → ℕ = λ g. cond (is_some (maker_of P g)) (bytes_by S now g) 0 in
    let changed : total new (file_numbers P) + old f ≡ total old (file_numbers P) + new f =
    total-changed new old f 0 (length P.files) (omega arith) (omega (arith, inside))
    (λ g apart. ap (λ b. cond (is_some (maker_of P g)) (cond b (S.bytes g) 0) 0)
    (drop.others g apart)) in
    let was : old f ≡ cond (is_some (maker_of P f)) (S.bytes f) 0 =
    ap (λ b. cond (is_some (maker_of P f)) (cond b (S.bytes f) 0) 0) drop.before in
    let is : new f ≡ cond (is_some (maker_of P f)) 0 0 =
    ap (λ b. cond (is_some (maker_of P f)) (cond b (S.bytes f) 0) 0) drop.after in
    omega (
      arith,
      changed,
      was,
      is,
      nothing (is_some (maker_of P f)),
      bytes_total P S left,
      bytes_total P S now,
    )
  where
    nothing : (b : Bool) → (let none : ℕ = 0 in cond b none none ≡ none)
    nothing true = refl
    nothing false = refl

-- A made file is dropped: its bytes go, and its maker's outputs count as less.
pub load-dropped : (P : Plan) (S : Standing) (over left now : ℕ → Bool) (f m : ℕ) → IsValid P
    → IsDrop f left now → f < length P.files → maker_of P f ≡ Some m
    → load_by P S over left + share_by P S over now m
    ≡ load_by P S over now + share_by P S over left m + S.bytes f
load-dropped P S over left now f m valid drop inside made =
    let old : ℕ → ℕ = share_by P S over left in
    let new : ℕ → ℕ = share_by P S over now in
    let place : m < length P.rules = maker-inside P f m valid inside made in
    let changed : total new (rule_numbers P) + old m ≡ total old (rule_numbers P) + new m =
    total-changed new old m 0 (length P.rules) (omega arith) (omega (arith, place))
    (λ r apart. share_same P S over left now r
    (bounds-other P f m r left now valid drop made apart)) in
    let bytes : cond (is_some (maker_of P f)) (S.bytes f) 0 ≡ S.bytes f =
    ap (λ o. cond (is_some o) (S.bytes f) 0) made in
    omega (
      arith,
      changed,
      bytes,
      bytes-dropped P S f left now drop inside,
      total-is old (rule_numbers P),
      total-is new (rule_numbers P),
    )

-- A source counts for nothing.
pub load-source : (P : Plan) (S : Standing) (over left now : ℕ → Bool) (f : ℕ) → IsValid P
    → IsDrop f left now → f < length P.files → maker_of P f ≡ None
    → load_by P S over now ≡ load_by P S over left
load-source P S over left now f valid drop inside source =
    let rules : total (share_by P S over now) (rule_numbers P)
    ≡ total (share_by P S over left) (rule_numbers P) =
    total_same (share_by P S over now) (share_by P S over left) (rule_numbers P)
    (λ r. share_same P S over left now r (bounds-source P f r left now valid drop source)) in
    let bytes : cond (is_some (maker_of P f)) (S.bytes f) 0 ≡ 0 =
    ap (λ o. cond (is_some o) (S.bytes f) 0) source in
    omega (
      arith,
      rules,
      bytes,
      bytes-dropped P S f left now drop inside,
      total-is (share_by P S over now) (rule_numbers P),
      total-is (share_by P S over left) (rule_numbers P),
    )
