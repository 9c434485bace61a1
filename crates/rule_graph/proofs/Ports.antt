-- The ports of a rule, each once, and the names of a flow.
use Rattle.std.proofs.Common.{◌≡◌, ℕ, ◌+◌, ◌<◌, Bool, true, false, cond, not, ◌&&◌, ◌||◌, List, [], ◌∷◌, ◌++◌, length, take, get_or, refl, ap, sym, ◌∙◌, Vec, Global}
use Rattle.std.specs.Prelude.{map, filter, fold, flat_map}
use Rattle.std.specs.List.{list_any, AllByRecursion}
use Rattle.std.specs.Str.{bytes_eq}
use Rattle.std.specs.declared.cmp.Ordering.{Ordering}
use Rattle.std.specs.declared.cmp.Ordering.TheVariants.{Less, Equal, Greater}
use Rattle.std.specs.Ordering.{ordering_reverse, nat_cmp, is_eq, ordering_then, match_ordering}
use Rattle.std.specs.List.Sorted.{IsStrictlySortedBy}
use Rattle.std.specs.Cmp.Lexicographic.{slice_cmp, nat_list_cmp_total}
use Rattle.std.specs.BTreeSet.{BTreeSet, contains, insert_key, Updates}
use Rattle.std.proofs.lemmas.Bool.{not-true, not-false}
use Rattle.std.proofs.lemmas.List.{map-append, take_more, append-nil}
use Rattle.std.proofs.lemmas.List.Elements.{filter-append}
use Rattle.std.proofs.lemmas.List.Folds.{list_any-append}
use Rattle.std.proofs.lemmas.Map.Text.{is_eq-slice_cmp}
use Rattle.flow_types.specs.declared.flow.RawFlow.{RawFlow}
use Rattle.rule_graph.specs.declared.raw.RawPort.{RawPort}
use Rattle.rule_graph.specs.Flows.{is_same_port, each_once, raw_ports, with_port, names_of}
use Rattle.rule_graph.specs.Checked.{IsAscending}

abbrev pub Key : Type 0
Key = Vec ℕ Global × Vec ℕ Global

-- the port that a key stands for
abbrev pub port_of : Key → RawPort
port_of key = record { local = key.0.items; remote = key.1.items }

abbrev pub key_cmp : Key → Key → Ordering
key_cmp a b = ordering_then (slice_cmp nat_cmp a.0.items b.0.items) (slice_cmp nat_cmp a.1.items b.1.items)

-- the set has the ports of the list
abbrev pub IsSeen : BTreeSet Key → List RawPort → Type 0
IsSeen seen ports = (key : Key) → contains key_cmp seen key ≡ list_any (λ port. is_same_port port (port_of key)) ports

is_eq_then : (r s : Ordering) → is_eq (ordering_then r s) ≡ (is_eq r && is_eq s)
is_eq_then Less s = refl
is_eq_then Equal s = refl
is_eq_then Greater s = refl

ties : (a b : Key) → is_eq (key_cmp a b) ≡ is_same_port (port_of a) (port_of b)
ties a b =
    is_eq_then (slice_cmp nat_cmp a.0.items b.0.items) (slice_cmp nat_cmp a.1.items b.1.items)
    ∙ ap (λ t. t && is_eq (slice_cmp nat_cmp a.1.items b.1.items)) (is_eq-slice_cmp a.0.items b.0.items)
    ∙ ap (λ t. bytes_eq a.0.items b.0.items && t) (is_eq-slice_cmp a.1.items b.1.items)

or_last : (b any : Bool) → cond b true any ≡ (any || (b || false))
or_last true true = refl
or_last true false = refl
or_last false true = refl
or_last false false = refl

pub seen_more : (old new : BTreeSet Key) (key : Key) (ports : List RawPort) → Updates key_cmp old new key true → IsSeen old ports → IsSeen new (ports ++ port_of key ∷ [])
seen_more old new key ports updates seen q =
    updates.0 q
    ∙ ap (λ b. cond b true (contains key_cmp old q)) (ties key q)
    ∙ ap (λ b. cond (is_same_port (port_of key) (port_of q)) true b) (seen q)
    ∙ or_last (is_same_port (port_of key) (port_of q)) (list_any (λ port. is_same_port port (port_of q)) ports)
    ∙ sym (list_any-append (λ port. is_same_port port (port_of q)) ports (port_of key ∷ []))

pub is_new : (added found : Bool) → added ≡ not found → added ≡ true → found ≡ false
is_new added found is yes_ = not-true found (sym is ∙ yes_)

pub is_old : (added found : Bool) → added ≡ not found → added ≡ false → found ≡ true
is_old added found is no_ = not-false found (sym is ∙ no_)

-- a port at the end, behind a first one that may be the same
filter_last : (x port : RawPort) (same any : Bool) → is_same_port x port ≡ same
    → filter (λ other. not (is_same_port x other)) (cond any [] (port ∷ [])) ≡ cond (same || any) [] (port ∷ [])
filter_last x port true true is = refl
filter_last x port true false is = ap (λ b. let ports : List RawPort = cond (not b) (port ∷ []) [] in ports) is
filter_last x port false true is = refl
filter_last x port false false is = ap (λ b. let ports : List RawPort = cond (not b) (port ∷ []) [] in ports) is

-- each port once, of a list with one port more
pub each_once_more : (ports : List RawPort) (port : RawPort)
    → each_once (ports ++ port ∷ []) ≡ each_once ports ++ cond (list_any (λ other. is_same_port other port) ports) [] (port ∷ [])
each_once_more [] port = refl
each_once_more (x ∷ xs) port =
    let any : Bool = list_any (λ other. is_same_port other port) xs in
    ap (λ ports. x ∷ filter (λ other. not (is_same_port x other)) ports) (each_once_more xs port)
    ∙ ap (λ ports. x ∷ ports) (filter-append (λ other. not (is_same_port x other)) (each_once xs) (cond any [] (port ∷ [])))
    ∙ ap (λ last. x ∷ filter (λ other. not (is_same_port x other)) (each_once xs) ++ last) (filter_last x port (is_same_port x port) any refl)

pub once_new : (ports : List RawPort) (port : RawPort) → list_any (λ other. is_same_port other port) ports ≡ false
    → each_once (ports ++ port ∷ []) ≡ each_once ports ++ port ∷ []
once_new ports port new = each_once_more ports port ∙ ap (λ b. each_once ports ++ cond b [] (port ∷ [])) new

pub once_old : (ports : List RawPort) (port : RawPort) → list_any (λ other. is_same_port other port) ports ≡ true
    → each_once (ports ++ port ∷ []) ≡ each_once ports
once_old ports port old = each_once_more ports port ∙ ap (λ b. each_once ports ++ cond b [] (port ∷ [])) old ∙ append-nil (each_once ports)

-- a list's items seen through f, and one more
pub map_take_more : {A B : Type 0} (f : A → B) (xs : List A) (i : ℕ) (x : A) → i < length xs → x ≡ get_or xs i x → map f (take (i + 1) xs) ≡ map f (take i xs) ++ f x ∷ []
map_take_more f xs i x inside is =
    ap (map f) (take_more xs i x inside ∙ ap (λ y. take i xs ++ y ∷ []) (sym is)) ∙ map-append f (take i xs) (x ∷ [])

abbrev pub bytes_of : Vec ℕ Global → List ℕ
bytes_of name = name.items

abbrev pub vec_cmp : Vec ℕ Global → Vec ℕ Global → Ordering
vec_cmp a b = slice_cmp nat_cmp a.items b.items

at_place : (o : Ordering) (x k : Vec ℕ Global) (xs more : List (Vec ℕ Global)) (names : List (List ℕ)) → map bytes_of more ≡ names
    → map bytes_of (match_ordering o (k ∷ x ∷ xs) (x ∷ xs) (x ∷ more)) ≡ match_ordering o (k.items ∷ x.items ∷ map bytes_of xs) (x.items ∷ map bytes_of xs) (x.items ∷ names)
at_place Less x k xs more names is = refl
at_place Equal x k xs more names is = refl
at_place Greater x k xs more names is = ap (λ names. x.items ∷ names) is

-- a key at its place, seen as its bytes
pub insert_bytes : (keys : List (Vec ℕ Global)) (k : Vec ℕ Global) → map bytes_of (insert_key vec_cmp keys k) ≡ insert_key (slice_cmp nat_cmp) (map bytes_of keys) k.items
insert_bytes [] k = refl
insert_bytes (x ∷ xs) k = at_place (vec_cmp k x) x k xs (insert_key vec_cmp xs k) (insert_key (slice_cmp nat_cmp) (map bytes_of xs) k.items) (insert_bytes xs k)

below_both : (x k : List ℕ) (ks : List (List ℕ)) → slice_cmp nat_cmp k x ≡ Less → AllByRecursion (λ y. slice_cmp nat_cmp x y ≡ Less) ks
    → AllByRecursion (λ y. slice_cmp nat_cmp k y ≡ Less) ks
below_both x k [] less all = tt
below_both x k (y ∷ ys) less all = (nat_list_cmp_total.trans k x y less all.0, below_both x k ys less all.1)

below_insert : (x k z : List ℕ) (zs more : List (List ℕ)) (o : Ordering) → slice_cmp nat_cmp x k ≡ Less
    → slice_cmp nat_cmp x z ≡ Less → AllByRecursion (λ y. slice_cmp nat_cmp x y ≡ Less) zs → AllByRecursion (λ y. slice_cmp nat_cmp x y ≡ Less) more
    → AllByRecursion (λ y. slice_cmp nat_cmp x y ≡ Less) (match_ordering o (k ∷ z ∷ zs) (z ∷ zs) (z ∷ more))
below_insert x k z zs more Less new first rest all = (new, (first, rest))
below_insert x k z zs more Equal new first rest all = (first, rest)
below_insert x k z zs more Greater new first rest all = (first, all)

insert_below : (x k : List ℕ) (ks : List (List ℕ)) → slice_cmp nat_cmp x k ≡ Less → AllByRecursion (λ y. slice_cmp nat_cmp x y ≡ Less) ks
    → AllByRecursion (λ y. slice_cmp nat_cmp x y ≡ Less) (insert_key (slice_cmp nat_cmp) ks k)
insert_below x k [] new all = (new, tt)
insert_below x k (z ∷ zs) new all = below_insert x k z zs (insert_key (slice_cmp nat_cmp) zs k) (slice_cmp nat_cmp k z) new all.0 all.1 (insert_below x k zs new all.1)

insert_place : (k x : List ℕ) (xs : List (List ℕ)) (o : Ordering) → slice_cmp nat_cmp k x ≡ o → IsAscending (x ∷ xs) → IsAscending (insert_key (slice_cmp nat_cmp) xs k)
    → IsAscending (match_ordering o (k ∷ x ∷ xs) (x ∷ xs) (x ∷ insert_key (slice_cmp nat_cmp) xs k))
unfolding IsStrictlySortedBy
insert_place k x xs Less is sorted rest = ((is, below_both x k xs is sorted.0), sorted)
insert_place k x xs Equal is sorted rest = sorted
insert_place k x xs Greater is sorted rest =
    (insert_below x k xs (nat_list_cmp_total.antisymm x k ∙ ap ordering_reverse is) sorted.0, rest)

-- a name at its place keeps the order
pub insert_ascending : (names : List (List ℕ)) (k : List ℕ) → IsAscending names → IsAscending (insert_key (slice_cmp nat_cmp) names k)
unfolding IsStrictlySortedBy
insert_ascending [] k sorted = (tt, tt)
insert_ascending (x ∷ xs) k sorted = insert_place k x xs (slice_cmp nat_cmp k x) refl sorted (insert_ascending xs k sorted.1)

pub ports_ascending : (ports : List RawPort) (names : List (List ℕ)) → IsAscending names → IsAscending (fold with_port names ports)
ports_ascending [] names sorted = sorted
ports_ascending (port ∷ ports) names sorted = ports_ascending ports (with_port names port) (insert_ascending names port.local sorted)

-- the names of a flow's files ascend
pub names_ascending : (flow : RawFlow) → IsAscending (names_of flow)
unfolding IsStrictlySortedBy
names_ascending flow = ports_ascending (flat_map raw_ports flow.rules) [] tt
