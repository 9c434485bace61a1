-- Sets of strings, as the finite sets that they are seen as.
use Rattle.std.proofs.Common.{◌≡◌, ℕ, ◌+◌, ◌<◌, ◌≤◌, Bool, true, false, cond, ◌||◌, ◌&&◌, ltb, List, [], ◌∷◌, ◌++◌, map, length, Option, Some, None, refl, sym, ap, subst, ◌∙◌, string_bytes, String, Global, arith, is_some, T}
use Rattle.std.specs.declared.cmp.Ordering.{Ordering}
use Rattle.std.specs.declared.cmp.Ordering.TheVariants.{Less}
use Rattle.std.specs.Ordering.{nat_cmp, eq_by_cmp, is_lt}
use Rattle.std.specs.List.{list_any, AllByRecursion}
use Rattle.std.specs.List.Sorted.{IsStrictlySortedBy}
use Rattle.std.specs.String.{string_cmp}
use Rattle.std.proofs.lemmas.Bool.{lt-ltb, le-ltb}
use Rattle.std.proofs.lemmas.List.Sums.{sum_by_push, sum_by-append, sum_by-cons}
use Rattle.std.proofs.lemmas.Map.Text.{btree_set_updates_text}
use Rattle.std.specs.Cmp.Lexicographic.{slice_cmp, nat_list_cmp_total}
use Rattle.std.specs.BTreeMap.{is_at}
use Rattle.std.specs.BTreeSet.{BTreeSet, contains_text, UpdatesBy}
use Rattle.std.specs.FinMap as finite
use Rattle.flow_types.specs.declared.flow.Pair.{Pair}
use Rattle.mf_rules.specs.Tables.{NameSet, entry_of, set_of, names_in, environment_size, limited_pairs}
use Rattle.mf_rules.proofs.NumberLemmas.{same_either_way}

abbrev order : List ℕ → List ℕ → Ordering
order = slice_cmp nat_cmp

-- what a set of strings is seen as
abbrev pub seen : BTreeSet (String Global) → NameSet
seen s = set_of (map string_bytes s.keys)

found : (b : Bool) (o : Option (Unit {0})) → is_some (cond b (Some tt) o) ≡ (b || is_some o)
found true o = refl
found false o = refl

any-found : (q : List ℕ) (ns : List (List ℕ)) → is_some (finite.find order q (map entry_of ns)) ≡ list_any (eq_by_cmp order q) ns
any-found q [] = refl
any-found q (n ∷ ns) = found (eq_by_cmp order q n) (finite.find order q (map entry_of ns)) ∙ ap (λ (b : Bool). eq_by_cmp order q n || b) (any-found q ns)

-- a name is in the set of names where one of them is it
pub in_set : (names : List (List ℕ)) (q : List ℕ) → finite.contains_key (set_of names) q ≡ list_any (eq_by_cmp order q) names
in_set names q = ap (λ (o : Option (Unit {0})). is_some o) (finite.get-from_entries nat_list_cmp_total (map entry_of names) q) ∙ any-found q names

any-bytes : (q : List ℕ) (ks : List (String Global)) → list_any (eq_by_cmp order q) (map string_bytes ks) ≡ list_any (is_at (λ k. order q (string_bytes k))) ks
any-bytes q [] = refl
any-bytes q (k ∷ ks) = ap (λ (b : Bool). eq_by_cmp order q (string_bytes k) || b) (any-bytes q ks)

pub contains-seen : (s : BTreeSet (String Global)) (q : List ℕ) → finite.contains_key (seen s) q ≡ contains_text s q
contains-seen s q = in_set (map string_bytes s.keys) q ∙ any-bytes q s.keys

put_in : (b c : Bool) → cond b true c ≡ (b || c)
put_in true c = refl
put_in false c = refl

-- a name is in the set with one more name
pub in_insert : (s : NameSet) (k q : List ℕ) → finite.contains_key (finite.insert s k tt) q ≡ (eq_by_cmp order q k || finite.contains_key s q)
in_insert s k q = ap (λ (o : Option (Unit {0})). is_some o) (finite.get-insert nat_list_cmp_total s k tt q) ∙ found (eq_by_cmp order q k) (finite.get s q)

marked : (o : Option (Unit {0})) → o ≡ cond (is_some o) (Some tt) None
marked None = refl
marked (Some u) = refl

-- two sets with the same names are one
pub same_set : (s t : NameSet) → ((q : List ℕ) → finite.contains_key s q ≡ finite.contains_key t q) → s ≡ t
same_set s t is =
    finite.same_map nat_list_cmp_total (finite.slice_cmp-IsAntisymmetric finite.nat_cmp-IsAntisymmetric) s t
    (λ q. marked (finite.get s q) ∙ ap (λ (b : Bool). cond b (Some tt) None) (is q) ∙ sym (marked (finite.get t q)))

-- a name that is put in is put into the finite set
pub insert-seen : (s n : BTreeSet (String Global)) (k : List ℕ)
    → UpdatesBy string_cmp (λ x. slice_cmp nat_cmp k (string_bytes x)) s n true
    → seen n ≡ finite.insert (seen s) k tt
insert-seen s n k updates =
    same_set (seen n) (finite.insert (seen s) k tt) (λ q.
    contains-seen n q
    ∙ btree_set_updates_text k s n true updates q
    ∙ ap (λ (b : Bool). cond b true (contains_text s q)) (same_either_way k q)
    ∙ ap (λ (c : Bool). cond (eq_by_cmp order q k) true c) (sym (contains-seen s q))
    ∙ put_in (eq_by_cmp order q k) (finite.contains_key (seen s) q)
    ∙ sym (in_insert (seen s) k q))

-- ---- the names in order

both : (a b : Bool) → T a → T b → T (a && b)
both true b p q = q
both false b p q = p

first : (a b : Bool) → T (a && b) → T a
first true b p = tt
first false b p = p

second : (a b : Bool) → T (a && b) → T b
second true b p = p
second false b p = absurd p

head_in_order : (x : String Global) (ks : List (String Global)) → AllByRecursion (λ y. string_cmp x y ≡ Less) ks
    → T (finite.is_sorted order (map entry_of (map string_bytes ks))) → T (finite.is_sorted order (entry_of (string_bytes x) ∷ map entry_of (map string_bytes ks)))
head_in_order x [] h rest = tt
head_in_order x (k ∷ ks) h rest = both _ _ (both _ _ (subst (λ (o : Ordering). T (is_lt o)) (sym h.0) tt) (first _ _ (head_in_order x ks h.1 (second _ _ rest)))) rest

in_order : (ks : List (String Global)) → IsStrictlySortedBy string_cmp ks → T (finite.is_sorted order (map entry_of (map string_bytes ks)))
unfolding IsStrictlySortedBy
in_order [] h = tt
in_order (k ∷ ks) h = head_in_order k ks h.0 (in_order ks h.1)

names_back : (ns : List (List ℕ)) → map (λ (e : List ℕ × Unit {0}). e.0) (map entry_of ns) ≡ ns
names_back [] = refl
names_back (n ∷ ns) = ap (λ (x : List (List ℕ)). n ∷ x) (names_back ns)

-- the names of the set come as the strings do
pub keys-seen : (s : BTreeSet (String Global)) → IsStrictlySortedBy string_cmp s.keys → names_in (seen s) ≡ map string_bytes s.keys
keys-seen s sorted =
    let es : List (List ℕ × Unit {0}) = map entry_of (map string_bytes s.keys) in
    let rising : T (finite.is_sorted order es) = in_order s.keys sorted in
    let same : seen s ≡ finite.from_sorted es =
    finite.same_map nat_list_cmp_total (finite.slice_cmp-IsAntisymmetric finite.nat_cmp-IsAntisymmetric) (seen s) (finite.from_sorted es)
    (λ q. finite.get-from_entries nat_list_cmp_total es q ∙ sym (finite.get-from_sorted order es q rising)) in
    ap (λ (m : NameSet). names_in m) same ∙ ap (λ (l : List (List ℕ × Unit {0})). map (λ (e : List ℕ × Unit {0}). e.0) l) (finite.entries-from_sorted order es rising) ∙ names_back (map string_bytes s.keys)

-- ---- the size of an environment

pub size-push : (ps : List Pair) (p : Pair) → environment_size (ps ++ p ∷ []) ≡ environment_size ps + (length p.name + length p.value + 8)
size-push ps p = sum_by_push (λ (q : Pair). length q.name + length q.value + 8) ps p

size-cut : (ps : List Pair) (p : Pair) (rest : List Pair) → environment_size (ps ++ p ∷ rest) ≡ environment_size ps + ((length p.name + length p.value + 8) + environment_size rest)
size-cut ps p rest =
    sum_by-append (λ (q : Pair). length q.name + length q.value + 8) ps (p ∷ rest)
    ∙ ap (λ n. environment_size ps + n) (sum_by-cons (λ (q : Pair). length q.name + length q.value + 8) p rest)

-- pairs that pass the limit before the last of them
pub too_large : (ps : List Pair) (p : Pair) (rest all : List Pair) → ps ++ p ∷ rest ≡ all → 1048576 < environment_size ps + (length p.name + length p.value + 8) → limited_pairs all ≡ None
too_large ps p rest all is over =
    let size : environment_size all ≡ environment_size ps + ((length p.name + length p.value + 8) + environment_size rest) = sym (ap environment_size is) ∙ size-cut ps p rest in
    let long : ltb 1048576 (environment_size all) ≡ true = lt-ltb 1048576 (environment_size all) (omega (arith, size)) in
    rw long refl

pub small : (all : List Pair) → environment_size all ≤ 1048576 → limited_pairs all ≡ Some all
small all h =
    let short : ltb 1048576 (environment_size all) ≡ false = le-ltb 1048576 (environment_size all) h in
    rw short refl

-- ---- no name

-- the empty set has no entries
pub no_entries : finite.entries (finite.empty {X = Unit {0}} {R = slice_cmp nat_cmp}) ≡ []
no_entries =
    let none : finite.entries (finite.from_sorted {R = slice_cmp nat_cmp} []) ≡ [] = finite.entries-from_sorted order [] tt in
    let is : finite.from_sorted {R = slice_cmp nat_cmp} [] ≡ finite.empty = finite.empty_of_len (finite.from_sorted []) (finite.len-entries (finite.from_sorted []) ∙ ap length none) in
    ap (λ (m : NameSet). finite.entries m) (sym is) ∙ none
