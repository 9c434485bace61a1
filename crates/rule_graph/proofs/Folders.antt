-- Ascending names and those among them that begin with a text; names that are folders of others.
use Rattle.std.proofs.Common.{◌≡◌, ℕ, zero, suc, ◌+◌, ◌<◌, ◌≤◌, Bool, true, false, cond, ◌&&◌, ◌||◌, List, [], ◌∷◌, ◌++◌, length, take, drop, get_or, refl, ap, sym, ◌∙◌, arith, All}
use Rattle.std.specs.Prelude.{Option, Some, None, fold, find, flat_map, nat_eq, nat_lt}
use Rattle.std.specs.List.{list_any, starts_with, enumerate_from, AllByRecursion}
use Rattle.std.specs.List.Sorted.{IsStrictlySortedBy}
use Rattle.std.specs.BTreeSet.{insert_key}
use Rattle.std.specs.declared.cmp.Ordering.{Ordering}
use Rattle.std.specs.declared.cmp.Ordering.TheVariants.{Less, Equal, Greater}
use Rattle.std.specs.Ordering.{nat_cmp, is_eq, is_gt, is_lt, is_some_and, ordering_then, match_ordering}
use Rattle.std.specs.Cmp.Lexicographic.{slice_cmp, slice_partial_cmp, lists_agrees, nat_list_cmp_total}
use Rattle.std.proofs.lemmas.Cmp.{ranked}
use Rattle.std.proofs.lemmas.Bool.{true≢false, and_parts, eqb-true, eq-eqb, ne_eqb, false_from_ne_true, ltb-true, ltb-false}
use Rattle.std.proofs.lemmas.Slice.Eq.{bytes_eq-Decides}
use Rattle.std.proofs.lemmas.Map.Text.{is_eq-slice_cmp}
use Rattle.std.proofs.lemmas.Map.Views.{All-insert_key}
use Rattle.std.proofs.lemmas.List.{drop_more, take_more}
use Rattle.std.proofs.lemmas.List.Sums.{fold-append}
use Rattle.std.proofs.lemmas.List.Elements.{All-nil, All-append, All-head, All-tail}
use Rattle.flow_types.specs.declared.flow.RawRule.{RawRule}
use Rattle.flow_types.specs.declared.flow.RawFlow.{RawFlow}
use Rattle.flow_types.specs.Plans.{is_less, is_name_less}
use Rattle.rule_graph.specs.declared.raw.RawPort.{RawPort}
use Rattle.rule_graph.specs.Flows.{raw_ports, with_port, names_of}
use Rattle.rule_graph.specs.Faults.{or_else, first_said}
use Rattle.rule_graph.specs.Checked.{HasNames, IsName, IsAscending, HasAll, ascending}
use Rattle.rule_graph.proofs.Ports.{insert_ascending}
use Rattle.rule_graph.proofs.RuleFaults.{IsGoodPort, ports_good}

less_from : (o : Ordering) → is_less o ≡ true → o ≡ Less
less_from Less is = refl
less_from Equal is = absurd (true≢false (sym is))
less_from Greater is = absurd (true≢false (sym is))

not_less : (o : Ordering) → o ≡ Less → is_less o ≡ true
not_less o is = ap is_less is

-- ---- a text that begins a name

and_no : (b : Bool) → (b && false) ≡ false
and_no true = refl
and_no false = refl

first_less : (x a : ℕ) (name start : List ℕ) (o : Ordering) → nat_cmp x a ≡ o → ordering_then o (slice_cmp nat_cmp name start) ≡ Less
    → (slice_cmp nat_cmp name start ≡ Less → starts_with nat_eq name start ≡ false) → (nat_eq a x && starts_with nat_eq name start) ≡ false
first_less x a name start Less is less rest =
    let low : x < a = ranked x a Less (sym is) in
    ap (λ b. b && starts_with nat_eq name start) (ne_eqb a x (λ same. omega (arith, low, same)))
first_less x a name start Equal is less rest = ap (λ b. nat_eq a x && b) (rest less) ∙ and_no (nat_eq a x)
first_less x a name start Greater is less rest = absurd (true≢false (ap is_gt less))

-- a name that stands before a text doesn't begin with it
less_begins_not : (name start : List ℕ) → slice_cmp nat_cmp name start ≡ Less → starts_with nat_eq name start ≡ false
less_begins_not [] [] is = absurd (true≢false (ap is_eq is))
less_begins_not [] (a ∷ start) is = refl
less_begins_not (x ∷ name) [] is = absurd (true≢false (ap is_gt is))
less_begins_not (x ∷ name) (a ∷ start) is = first_less x a name start (nat_cmp x a) refl is (less_begins_not name start)

first_between : (a b : ℕ) (s x y : List ℕ) (o : Ordering) → nat_cmp b a ≡ o → is_less (ordering_then o (slice_cmp nat_cmp x s)) ≡ false
    → ordering_then (nat_cmp b a) (slice_cmp nat_cmp x y) ≡ Less
    → (is_less (slice_cmp nat_cmp x s) ≡ false → slice_cmp nat_cmp x y ≡ Less → starts_with nat_eq x s ≡ true)
    → (nat_eq a b && starts_with nat_eq x s) ≡ true
first_between a b s x y Less is from below rest = absurd (true≢false from)
first_between a b s x y Equal is from below rest =
    let same : b ≡ a = ranked b a Equal (sym is) in
    ap (λ t. t && starts_with nat_eq x s) (eq-eqb a b (sym same))
    ∙ rest from (ap (λ o. ordering_then o (slice_cmp nat_cmp x y)) (sym is) ∙ below)
first_between a b s x y Greater is from below rest =
    absurd (true≢false (ap is_gt (ap (λ o. ordering_then o (slice_cmp nat_cmp x y)) (sym is) ∙ below)))

-- what stands between a text and a name that begins with it begins with it
between_begins : (start x y : List ℕ) → is_less (slice_cmp nat_cmp x start) ≡ false → slice_cmp nat_cmp x y ≡ Less
    → starts_with nat_eq y start ≡ true → starts_with nat_eq x start ≡ true
between_begins [] x y from below begins = refl
between_begins (a ∷ s) [] y from below begins = absurd (true≢false from)
between_begins (a ∷ s) (b ∷ x) [] from below begins = absurd (true≢false (ap is_gt below))
between_begins (a ∷ s) (b ∷ x) (d ∷ y) from below begins =
    let parts = and_parts (nat_eq a d) (starts_with nat_eq y s) begins in
    let same : a ≡ d = eqb-true a d parts.0 in
    first_between a b s x y (nat_cmp b a) refl from
    (ap (λ d. ordering_then (nat_cmp b d) (slice_cmp nat_cmp x y)) same ∙ below)
    (λ from' below'. between_begins s x y from' below' parts.1)

none_begin : (start x : List ℕ) (ys : List (List ℕ)) → is_less (slice_cmp nat_cmp x start) ≡ false → starts_with nat_eq x start ≡ false
    → AllByRecursion (λ y. slice_cmp nat_cmp x y ≡ Less) ys → list_any (λ name. starts_with nat_eq name start) ys ≡ false
none_begin start x [] from not_x all = refl
none_begin start x (y ∷ ys) from not_x all =
    let not_y : starts_with nat_eq y start ≡ false =
    false_from_ne_true _ (λ begins. true≢false (sym (between_begins start x y from all.0 begins) ∙ not_x)) in
    ap (λ b. b || list_any (λ name. starts_with nat_eq name start) ys) not_y ∙ none_begin start x ys from not_x all.1

-- ---- the first name from a text on

begins_here : (start x : List ℕ) (xs : List (List ℕ)) (b : Bool) → starts_with nat_eq x start ≡ b → is_less (slice_cmp nat_cmp x start) ≡ false
    → AllByRecursion (λ y. slice_cmp nat_cmp x y ≡ Less) xs → starts_with nat_eq x start ≡ (starts_with nat_eq x start || list_any (λ name. starts_with nat_eq name start) xs)
begins_here start x xs true is from all = is ∙ ap (λ b. b || list_any (λ name. starts_with nat_eq name start) xs) (sym is)
begins_here start x xs false is from all =
    is ∙ sym (none_begin start x xs from is all) ∙ ap (λ b. b || list_any (λ name. starts_with nat_eq name start) xs) (sym is)

-- one of ascending names begins so exactly where the first from the text on does
pub begins_at : (names : List (List ℕ)) (at : ℕ) (start : List ℕ) → IsAscending names → at < length names
    → ((k : ℕ) → k < at → is_name_less (get_or names k []) start ≡ true) → is_name_less (get_or names at []) start ≡ false
    → starts_with nat_eq (get_or names at []) start ≡ list_any (λ name. starts_with nat_eq name start) names
unfolding IsStrictlySortedBy
begins_at [] at start sorted inside before from = absurd (omega (arith, inside))
begins_at (x ∷ xs) zero start sorted inside before from = begins_here start x xs (starts_with nat_eq x start) refl from sorted.0
begins_at (x ∷ xs) (suc at) start sorted inside before from =
    let less : slice_cmp nat_cmp x start ≡ Less = less_from _ (before 0 (omega arith)) in
    begins_at xs at start sorted.1 (omega (arith, inside)) (λ k below. before (suc k) (omega (arith, below))) from
    ∙ ap (λ b. b || list_any (λ name. starts_with nat_eq name start) xs) (sym (less_begins_not x start less))

-- where all stand before the text none begins so
pub begins_nowhere : (names : List (List ℕ)) (start : List ℕ) → ((k : ℕ) → k < length names → is_name_less (get_or names k []) start ≡ true)
    → list_any (λ name. starts_with nat_eq name start) names ≡ false
begins_nowhere [] start before = refl
begins_nowhere (x ∷ xs) start before =
    ap (λ b. b || list_any (λ name. starts_with nat_eq name start) xs) (less_begins_not x start (less_from _ (before 0 (omega arith))))
    ∙ begins_nowhere xs start (λ k below. before (suc k) (omega (arith, below)))

-- ---- the search of that name

rest_at : (x : List ℕ) (ys : List (List ℕ)) (m : ℕ) → AllByRecursion (λ y. slice_cmp nat_cmp x y ≡ Less) ys → m < length ys → slice_cmp nat_cmp x (get_or ys m []) ≡ Less
rest_at x [] m all inside = absurd (omega (arith, inside))
rest_at x (y ∷ ys) zero all inside = all.0
rest_at x (y ∷ ys) (suc m) all inside = rest_at x ys m all.1 (omega (arith, inside))

ascending_at : (names : List (List ℕ)) (k m : ℕ) → IsAscending names → k < m → m < length names → slice_cmp nat_cmp (get_or names k []) (get_or names m []) ≡ Less
unfolding IsStrictlySortedBy
ascending_at [] k m sorted below inside = absurd (omega (arith, inside))
ascending_at (x ∷ xs) k zero sorted below inside = absurd (omega (arith, below))
ascending_at (x ∷ xs) zero (suc m) sorted below inside = rest_at x xs m sorted.0 (omega (arith, inside))
ascending_at (x ∷ xs) (suc k) (suc m) sorted below inside = ascending_at xs k m sorted.1 (omega (arith, below)) (omega (arith, inside))

upto_by : (names : List (List ℕ)) (start : List ℕ) (m k : ℕ) (b : Bool) → nat_lt k m ≡ b → IsAscending names → m < length names → k < m + 1
    → is_name_less (get_or names m []) start ≡ true → is_name_less (get_or names k []) start ≡ true
upto_by names start m k true is sorted inside upto less =
    ap is_less (nat_list_cmp_total.trans (get_or names k []) (get_or names m []) start
    (ascending_at names k m sorted (ltb-true k m is) inside) (less_from _ less))
upto_by names start m k false is sorted inside upto less =
    let from : m ≤ k = ltb-false k m is in
    let same : m ≡ k = omega (arith, from, upto) in
    ap (λ n. is_name_less (get_or names n []) start) (sym same) ∙ less

-- where a name stands before the text so do those before it
pub less_upto : (names : List (List ℕ)) (start : List ℕ) (m k : ℕ) → IsAscending names → m < length names → k < m + 1
    → is_name_less (get_or names m []) start ≡ true → is_name_less (get_or names k []) start ≡ true
less_upto names start m k = upto_by names start m k (nat_lt k m) refl

-- ---- the first of names that passes a test

pub find_left : {A : Type 0} (p : A → Bool) (xs : List A) (i : ℕ) (x : A) → i < length xs → x ≡ get_or xs i x → find p (drop i xs) ≡ cond (p x) (Some x) (find p (drop (i + 1) xs))
find_left p xs i x inside is = ap (find p) (drop_more xs i x inside ∙ ap (λ y. y ∷ drop (i + 1) xs) (sym is))

any_here : {A : Type 0} (b : Bool) (x : A) (found : Option A) (any : Bool) → (any ≡ false → found ≡ None) → (b || any) ≡ false → cond b (Some x) found ≡ None
any_here true x found any rest none = absurd (true≢false none)
any_here false x found any rest none = rest none

any_none : {A : Type 0} (p : A → Bool) (xs : List A) → list_any p xs ≡ false → find p xs ≡ None
any_none p [] none = refl
any_none p (x ∷ xs) none = any_here (p x) x (find p xs) (list_any p xs) (any_none p xs) none

-- where none of the sorted names passes a test none of the names is found by it
pub none_found : (sorted names : List (List ℕ)) (test : List ℕ → Bool) → HasAll sorted names → list_any test sorted ≡ false → find test names ≡ None
none_found sorted names test all none =
    any_none test names (false_from_ne_true _ (λ some. true≢false (sym (all test some) ∙ none)))

pub said_left : {A B : Type 0} (says : A → Option B) (xs : List A) (i : ℕ) (x : A) → i < length xs → x ≡ get_or xs i x
    → first_said says (drop i xs) ≡ or_else (says x) (first_said says (drop (i + 1) xs))
said_left says xs i x inside is = ap (first_said says) (drop_more xs i x inside ∙ ap (λ y. y ∷ drop (i + 1) xs) (sym is))

pub unnumbered : {B : Type 0} (says : RawRule → Option B) (n : ℕ) (rules : List RawRule)
    → first_said (λ numbered. says numbered.1) (enumerate_from n rules) ≡ first_said says rules
unnumbered says n [] = refl
unnumbered says n (rule ∷ rules) = ap (or_else (says rule)) (unnumbered says (n + 1) rules)

-- ---- names, each once, ascending

with_name : List (List ℕ) → List ℕ → List (List ℕ)
with_name names name = insert_key (slice_cmp nat_cmp) names name

all_ascending : (names start : List (List ℕ)) → IsAscending start → IsAscending (fold (λ sorted name. insert_key (slice_cmp nat_cmp) sorted name) start names)
all_ascending [] start sorted = sorted
all_ascending (name ∷ names) start sorted = all_ascending names (insert_key (slice_cmp nat_cmp) start name) (insert_ascending start name sorted)

pub ascending_ascends : (names : List (List ℕ)) → IsAscending (ascending names)
unfolding IsStrictlySortedBy
ascending_ascends names = all_ascending names [] tt

or_true : (b : Bool) → (b || true) ≡ true
or_true true = refl
or_true false = refl

or_later : (a b c : Bool) → (b ≡ true → c ≡ true) → (a || b) ≡ true → (a || c) ≡ true
or_later true b c rest is = refl
or_later false b c rest is = rest is

any_place : (test : List ℕ → Bool) (k x : List ℕ) (xs more : List (List ℕ)) (o : Ordering)
    → (list_any test xs ≡ true → list_any test more ≡ true) → list_any test (x ∷ xs) ≡ true
    → list_any test (match_ordering o (k ∷ x ∷ xs) (x ∷ xs) (x ∷ more)) ≡ true
any_place test k x xs more Less rest any = ap (λ b. test k || b) any ∙ or_true (test k)
any_place test k x xs more Equal rest any = any
any_place test k x xs more Greater rest any = or_later (test x) (list_any test xs) (list_any test more) rest any

any_insert : (test : List ℕ → Bool) (names : List (List ℕ)) (k : List ℕ) → list_any test names ≡ true → list_any test (insert_key (slice_cmp nat_cmp) names k) ≡ true
any_insert test [] k any = absurd (true≢false (sym any))
any_insert test (x ∷ xs) k any =
    any_place test k x xs (insert_key (slice_cmp nat_cmp) xs k) (slice_cmp nat_cmp k x) (any_insert test xs k) any

new_place : (test : List ℕ → Bool) (k x : List ℕ) (xs more : List (List ℕ)) (o : Ordering) → slice_cmp nat_cmp k x ≡ o → test k ≡ true
    → list_any test more ≡ true → list_any test (match_ordering o (k ∷ x ∷ xs) (x ∷ xs) (x ∷ more)) ≡ true
new_place test k x xs more Less is passes rest = ap (λ b. b || list_any test (x ∷ xs)) passes
new_place test k x xs more Equal is passes rest =
    let same : k ≡ x = (bytes_eq-Decides k x).0 (sym (is_eq-slice_cmp k x) ∙ ap is_eq is) in
    ap (λ b. b || list_any test xs) (ap test (sym same) ∙ passes)
new_place test k x xs more Greater is passes rest = ap (λ b. test x || b) rest ∙ or_true (test x)

new_insert : (test : List ℕ → Bool) (names : List (List ℕ)) (k : List ℕ) → test k ≡ true → list_any test (insert_key (slice_cmp nat_cmp) names k) ≡ true
new_insert test [] k passes = ap (λ b. b || false) passes
new_insert test (x ∷ xs) k passes =
    new_place test k x xs (insert_key (slice_cmp nat_cmp) xs k) (slice_cmp nat_cmp k x) refl passes (new_insert test xs k passes)

any_kept : (test : List ℕ → Bool) (names start : List (List ℕ)) → list_any test start ≡ true
    → list_any test (fold (λ sorted name. insert_key (slice_cmp nat_cmp) sorted name) start names) ≡ true
any_kept test [] start any = any
any_kept test (name ∷ names) start any = any_kept test names (insert_key (slice_cmp nat_cmp) start name) (any_insert test start name any)

any_or : (a b : Bool) {P : Type 0} → (a ≡ true → P) → (b ≡ true → P) → (a || b) ≡ true → P
any_or true b first second is = first is
any_or false b first second is = second is

any_added : (test : List ℕ → Bool) (names start : List (List ℕ)) → list_any test names ≡ true
    → list_any test (fold (λ sorted name. insert_key (slice_cmp nat_cmp) sorted name) start names) ≡ true
any_added test [] start any = absurd (true≢false (sym any))
any_added test (name ∷ names) start any =
    any_or (test name) (list_any test names)
    (λ passes. any_kept test names (insert_key (slice_cmp nat_cmp) start name) (new_insert test start name passes))
    (λ later. any_added test names (insert_key (slice_cmp nat_cmp) start name) later) any

pub ascending_has_all : (names : List (List ℕ)) → HasAll (ascending names) names
ascending_has_all names test any = any_added test names [] any

-- ---- the names of a flow whose texts give names

good_names : (ports : List RawPort) (names : List (List ℕ)) → All IsName names → All IsGoodPort ports → All IsName (fold with_port names ports)
good_names [] names all good = all
good_names (port ∷ ports) names all good =
    good_names ports (with_port names port)
    (All-insert_key (slice_cmp nat_cmp) port.local IsName names all (All-head IsGoodPort port ports good).local)
    (All-tail IsGoodPort port ports good)

good_rules : (rules : List RawRule) → All HasNames rules → All IsGoodPort (flat_map raw_ports rules)
good_rules [] all = All-nil IsGoodPort
good_rules (rule ∷ rules) all =
    All-append IsGoodPort (raw_ports rule) (flat_map raw_ports rules) (ports_good rule (All-head HasNames rule rules all)) (good_rules rules (All-tail HasNames rule rules all))

pub names_named : (flow : RawFlow) → All HasNames flow.rules → All IsName (names_of flow)
names_named flow all = good_names (flat_map raw_ports flow.rules) [] (All-nil IsName) (good_rules flow.rules all)

-- the names, each once, of one name more
pub ascending_more : (names : List (List ℕ)) (i : ℕ) (name : List ℕ) → i < length names → name ≡ get_or names i name
    → insert_key (slice_cmp nat_cmp) (ascending (take i names)) name ≡ ascending (take (i + 1) names)
ascending_more names i name inside is =
    sym (fold-append (λ sorted name. insert_key (slice_cmp nat_cmp) sorted name) [] (take i names) (name ∷ []))
    ∙ ap ascending (sym (take_more names i name inside ∙ ap (λ n. take i names ++ n ∷ []) (sym is)))

lt_less : (o : Ordering) → is_lt o ≡ is_less o
lt_less Less = refl
lt_less Equal = refl
lt_less Greater = refl

-- what `<` says of two texts
pub less_than : (xs ys : List ℕ) → is_some_and is_lt (slice_partial_cmp (λ x y. Some (nat_cmp x y)) xs ys) ≡ is_name_less xs ys
less_than xs ys = ap (is_some_and is_lt) (lists_agrees {R = nat_cmp} (λ x y. refl) xs ys) ∙ lt_less (slice_cmp nat_cmp xs ys)

pub get_same : (names : List (List ℕ)) (i : ℕ) (d e : List ℕ) → i < length names → get_or names i d ≡ get_or names i e
get_same [] i d e inside = absurd (omega (arith, inside))
get_same (x ∷ xs) zero d e inside = refl
get_same (x ∷ xs) (suc i) d e inside = get_same xs i d e (omega (arith, inside))
