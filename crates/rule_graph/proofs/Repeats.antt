-- Ports that stand more than once: where they may be counted as often as they stand.
use Rattle.std.proofs.Common.{◌≡◌, ℕ, ◌+◌, ◌<◌, ◌≤◌, Bool, true, false, cond, not, ◌||◌, List, [], ◌∷◌, ◌++◌, length, take, get_or, refl, ap, sym, ◌∙◌, subst, arith, append_assoc}
use Rattle.std.specs.Prelude.{map, filter, fold, flat_map}
use Rattle.std.specs.List.{AllByRecursion}
use Rattle.std.specs.List.Sorted.{IsStrictlySortedBy}
use Rattle.std.specs.BTreeSet.{insert_key}
use Rattle.std.specs.Str.{bytes_eq}
use Rattle.std.specs.declared.cmp.Ordering.{Ordering}
use Rattle.std.specs.declared.cmp.Ordering.TheVariants.{Less, Equal, Greater}
use Rattle.std.specs.Ordering.{match_ordering, nat_cmp, ordering_reverse}
use Rattle.std.specs.Cmp.Lexicographic.{slice_cmp}
use Rattle.std.proofs.lemmas.Bool.{true≢false, and_parts, false_from_ne_true}
use Rattle.std.proofs.lemmas.Cmp.{nat_list_cmp_total, tied_itself}
use Rattle.std.proofs.lemmas.Map.Lookups.{exact_bytes}
use Rattle.std.proofs.lemmas.Slice.Eq.{bytes_eq-Decides}
use Rattle.std.proofs.lemmas.List.{take_more, append-nil}
use Rattle.std.proofs.lemmas.List.Filters.{length-filter_both}
use Rattle.std.proofs.lemmas.List.Sums.{fold-append}
use Rattle.flow_types.specs.declared.flow.RawFile.{RawFile}
use Rattle.flow_types.specs.declared.flow.RawRule.{RawRule}
use Rattle.flow_types.specs.Names.{form_of}
use Rattle.rule_graph.specs.Stated.{has_file}
use Rattle.rule_graph.specs.declared.raw.RawPort.{RawPort}
use Rattle.rule_graph.specs.Flows.{is_same_port, each_once, with_port, has_local, raw_port, raw_outputs, raw_inputs, raw_ports}
use Rattle.rule_graph.specs.Checked.{IsAscending}
use Rattle.rule_graph.specs.Numbering.{is_known}
use Rattle.rule_graph.proofs.Ports.{ports_ascending}

-- ---- names that ascend are told by which they are

or_turn : (a b c : Bool) → (a || (b || c)) ≡ ((b || c) || a)
or_turn true true c = refl
or_turn true false true = refl
or_turn true false false = refl
or_turn false true c = refl
or_turn false false true = refl
or_turn false false false = refl

or_twice : (b any : Bool) → (b || any) ≡ ((b || any) || b)
or_twice true any = refl
or_twice false true = refl
or_twice false false = refl

or_move : (a b c : Bool) → (a || (b || c)) ≡ ((a || b) || c)
or_move true b c = refl
or_move false b c = refl

known_place : (q k x : List ℕ) (xs more : List (List ℕ)) (o : Ordering) → slice_cmp nat_cmp k x ≡ o → is_known more q ≡ (is_known xs q || bytes_eq q k)
    → is_known (match_ordering o (k ∷ x ∷ xs) (x ∷ xs) (x ∷ more)) q ≡ (is_known (x ∷ xs) q || bytes_eq q k)
known_place q k x xs more Less is rest = or_turn (bytes_eq q k) (bytes_eq q x) (is_known xs q)
known_place q k x xs more Equal is rest =
    or_twice (bytes_eq q x) (is_known xs q) ∙ ap (λ y. (bytes_eq q x || is_known xs q) || bytes_eq q y) (sym (exact_bytes k x is))
known_place q k x xs more Greater is rest =
    ap (λ b. bytes_eq q x || b) rest ∙ or_move (bytes_eq q x) (is_known xs q) (bytes_eq q k)

-- which names are known once a name is put in
pub known_insert : (names : List (List ℕ)) (k q : List ℕ) → is_known (insert_key (slice_cmp nat_cmp) names k) q ≡ (is_known names q || bytes_eq q k)
known_insert [] k q = or_none (bytes_eq q k)
  where
    or_none : (b : Bool) → (b || false) ≡ b
    or_none true = refl
    or_none false = refl
known_insert (x ∷ xs) k q = known_place q k x xs (insert_key (slice_cmp nat_cmp) xs k) (slice_cmp nat_cmp k x) refl (known_insert xs k q)

-- which names are known once ports are put in
known_fold : (ports : List RawPort) (names : List (List ℕ)) (q : List ℕ) → is_known (fold with_port names ports) q ≡ (is_known names q || has_local q ports)
known_fold [] names q = or_none (is_known names q)
  where
    or_none : (b : Bool) → b ≡ (b || false)
    or_none true = refl
    or_none false = refl
known_fold (port ∷ ports) names q =
    known_fold ports (with_port names port) q
    ∙ ap (λ b. b || has_local q ports) (known_insert names port.local q)
    ∙ sym (or_move (is_known names q) (bytes_eq q port.local) (has_local q ports))

apart_below : (x y : List ℕ) → slice_cmp nat_cmp x y ≡ Less → bytes_eq x y ≡ false
apart_below x y less =
    false_from_ne_true (bytes_eq x y) (λ same. let e = subst (λ z. slice_cmp nat_cmp x z ≡ Less) (sym ((bytes_eq-Decides x y).0 same)) less in cc (e, tied_itself nat_list_cmp_total x))

-- a name that stands before all names is none of them
unknown_below : (x : List ℕ) (ys : List (List ℕ)) → AllByRecursion (λ y. slice_cmp nat_cmp x y ≡ Less) ys → is_known ys x ≡ false
unknown_below x [] all = refl
unknown_below x (y ∷ ys) all = ap (λ b. b || is_known ys x) (apart_below x y all.0) ∙ unknown_below x ys all.1

all_below : (x y : List ℕ) (ys : List (List ℕ)) → slice_cmp nat_cmp x y ≡ Less → AllByRecursion (λ z. slice_cmp nat_cmp y z ≡ Less) ys
    → AllByRecursion (λ z. slice_cmp nat_cmp x z ≡ Less) ys
all_below x y [] less all = tt
all_below x y (z ∷ zs) less all = (nat_list_cmp_total.trans x y z less all.0, all_below x y zs less all.1)

known_first : (x : List ℕ) (xs : List (List ℕ)) → is_known (x ∷ xs) x ≡ true
known_first x xs = ap (λ b. b || is_known xs x) ((bytes_eq-Decides x x).1 refl)

-- the names behind one name, told by all of them
rest_by : (x q : List ℕ) (xs ys : List (List ℕ)) (b : Bool) → bytes_eq q x ≡ b → is_known xs x ≡ false → is_known ys x ≡ false
    → is_known (x ∷ xs) q ≡ is_known (x ∷ ys) q → is_known xs q ≡ is_known ys q
rest_by x q xs ys true is left right same =
    let e : q ≡ x = (bytes_eq-Decides q x).0 is in
    ap (is_known xs) e ∙ left ∙ sym right ∙ ap (is_known ys) (sym e)
rest_by x q xs ys false is left right same =
    ap (λ b. b || is_known xs q) (sym is) ∙ same ∙ ap (λ b. b || is_known ys q) is

-- two lists by their first names
first_names : (x y : List ℕ) (xs ys : List (List ℕ)) (o : Ordering) → slice_cmp nat_cmp x y ≡ o
    → AllByRecursion (λ z. slice_cmp nat_cmp x z ≡ Less) xs → AllByRecursion (λ z. slice_cmp nat_cmp y z ≡ Less) ys
    → is_known (x ∷ xs) x ≡ is_known (y ∷ ys) x → is_known (x ∷ xs) y ≡ is_known (y ∷ ys) y → (x ≡ y → xs ≡ ys) → (x ∷ xs) ≡ (y ∷ ys)
first_names x y xs ys Less is xs_up ys_up at_x at_y rest =
    let not_y : is_known (y ∷ ys) x ≡ false = unknown_below x (y ∷ ys) (is, all_below x y ys is ys_up) in
    absurd (true≢false (sym (known_first x xs) ∙ at_x ∙ not_y))
first_names x y xs ys Greater is xs_up ys_up at_x at_y rest =
    let less : slice_cmp nat_cmp y x ≡ Less = nat_list_cmp_total.antisymm y x ∙ ap ordering_reverse is in
    let not_x : is_known (x ∷ xs) y ≡ false = unknown_below y (x ∷ xs) (less, all_below y x xs less xs_up) in
    absurd (true≢false (sym (known_first y ys) ∙ sym at_y ∙ not_x))
first_names x y xs ys Equal is xs_up ys_up at_x at_y rest =
    let e : x ≡ y = exact_bytes x y is in
    ap (λ z. z ∷ xs) e ∙ ap (λ zs. y ∷ zs) (rest e)

pub same_names : (xs ys : List (List ℕ)) → IsAscending xs → IsAscending ys → ((q : List ℕ) → is_known xs q ≡ is_known ys q) → xs ≡ ys
unfolding IsStrictlySortedBy
same_names [] [] xs_up ys_up same = refl
same_names [] (y ∷ ys) xs_up ys_up same = absurd (true≢false (sym (known_first y ys) ∙ sym (same y)))
same_names (x ∷ xs) [] xs_up ys_up same = absurd (true≢false (sym (known_first x xs) ∙ same x))
same_names (x ∷ xs) (y ∷ ys) xs_up ys_up same =
    first_names x y xs ys (slice_cmp nat_cmp x y) refl xs_up.0 ys_up.0 (same x) (same y)
    (λ e. same_names xs ys xs_up.1 ys_up.1
    (λ q. rest_by x q xs ys (bytes_eq q x) refl (unknown_below x xs xs_up.0)
    (ap (is_known ys) e ∙ unknown_below y ys ys_up.0)
    (same q ∙ ap (λ z. is_known (z ∷ ys) q) (sym e))))

-- ---- each port once

same_local : (a b : RawPort) → is_same_port a b ≡ true → a.local ≡ b.local
same_local a b same = (bytes_eq-Decides a.local b.local).0 (and_parts (bytes_eq a.local b.local) (bytes_eq a.remote b.remote) same).0

other_step : (n : List ℕ) (port x : RawPort) (rest all : List RawPort) (s : Bool) → is_same_port port x ≡ s → bytes_eq n port.local ≡ false → has_local n rest ≡ has_local n all
    → has_local n (cond (not s) (x ∷ rest) rest) ≡ (bytes_eq n x.local || has_local n all)
other_step n port x rest all true is other more =
    more ∙ ap (λ b. b || has_local n all) (sym (ap (bytes_eq n) (sym (same_local port x is)) ∙ other))
other_step n port x rest all false is other more = ap (λ b. bytes_eq n x.local || b) more

-- ports of another name
other_ports : (n : List ℕ) (port : RawPort) (ports : List RawPort) → bytes_eq n port.local ≡ false
    → has_local n (filter (λ other. not (is_same_port port other)) ports) ≡ has_local n ports
other_ports n port [] other = refl
other_ports n port (x ∷ xs) other =
    other_step n port x (filter (λ o. not (is_same_port port o)) xs) xs (is_same_port port x) refl other (other_ports n port xs other)

first_port : (n : List ℕ) (port : RawPort) (rest all : List RawPort) (b : Bool) → bytes_eq n port.local ≡ b → has_local n rest ≡ has_local n all
    → (bytes_eq n port.local || has_local n (filter (λ other. not (is_same_port port other)) rest)) ≡ (bytes_eq n port.local || has_local n all)
first_port n port rest all true is more =
    ap (λ b. b || has_local n (filter (λ other. not (is_same_port port other)) rest)) is ∙ ap (λ b. b || has_local n all) (sym is)
first_port n port rest all false is more = ap (λ b. bytes_eq n port.local || b) (other_ports n port rest is ∙ more)

-- the names of ports are those of each port once
pub has_local_once : (n : List ℕ) (ports : List RawPort) → has_local n (each_once ports) ≡ has_local n ports
has_local_once n [] = refl
has_local_once n (port ∷ ports) = first_port n port (each_once ports) ports (bytes_eq n port.local) refl (has_local_once n ports)

by_files : (n : List ℕ) (files : List RawFile) → has_local n (map raw_port files) ≡ has_file n files
by_files n [] = refl
by_files n (file ∷ files) = ap (λ b. bytes_eq n (form_of file.local) || b) (by_files n files)

-- a rule takes a file in where one of the files that it states has its name
pub inputs_local : (n : List ℕ) (rule : RawRule) → has_local n (raw_inputs rule) ≡ has_file n rule.inputs
inputs_local n rule = has_local_once n (map raw_port rule.inputs) ∙ by_files n rule.inputs

-- ports put among ascending names once or as often as they stand
pub fold_once : (ports : List RawPort) (names : List (List ℕ)) → IsAscending names → fold with_port names ports ≡ fold with_port names (each_once ports)
fold_once ports names sorted =
    same_names (fold with_port names ports) (fold with_port names (each_once ports)) (ports_ascending ports names sorted) (ports_ascending (each_once ports) names sorted)
    (λ q. known_fold ports names q ∙ ap (λ b. is_known names q || b) (sym (has_local_once q ports)) ∙ sym (known_fold (each_once ports) names q))

fewer : (ports : List RawPort) (port : RawPort) → length (filter (λ other. not (is_same_port port other)) ports) ≤ length ports
fewer ports port =
    let both = length-filter_both (λ other. not (is_same_port port other)) (λ other. not (not (is_same_port port other))) (λ other. refl) ports in
    omega (arith, both)

-- each port once is no more than all
pub once_fewer : (ports : List RawPort) → length (each_once ports) ≤ length ports
once_fewer [] = omega arith
once_fewer (port ∷ ports) =
    let first = fewer (each_once ports) port in
    let rest : length (each_once ports) ≤ length ports = once_fewer ports in
    omega (arith, first, rest)

-- ---- the names of a flow

-- the names of one rule more
pub names_more : (rules : List RawRule) (i : ℕ) (rule : RawRule) (start now then_ : List (List ℕ)) → i < length rules → rule ≡ get_or rules i rule
    → start ≡ fold with_port [] (flat_map raw_ports (take i rules)) → now ≡ fold with_port start (raw_outputs rule) → then_ ≡ fold with_port now (map raw_port rule.inputs)
    → then_ ≡ fold with_port [] (flat_map raw_ports (take (i + 1) rules))
unfolding IsStrictlySortedBy
names_more rules i rule start now then_ inside is before outs ins =
    let so_far : List (List ℕ) = fold with_port [] (flat_map raw_ports (take i rules)) in
    let here : now ≡ fold with_port so_far (raw_outputs rule) = outs ∙ ap (λ names. fold with_port names (raw_outputs rule)) before in
    let sorted : IsAscending (fold with_port so_far (raw_outputs rule)) =
    ports_ascending (raw_outputs rule) so_far (ports_ascending (flat_map raw_ports (take i rules)) [] tt) in
    ins ∙ ap (λ names. fold with_port names (map raw_port rule.inputs)) here
    ∙ fold_once (map raw_port rule.inputs) (fold with_port so_far (raw_outputs rule)) sorted
    ∙ sym (fold-append with_port so_far (raw_outputs rule) (raw_inputs rule))
    ∙ sym (fold-append with_port [] (flat_map raw_ports (take i rules)) (raw_ports rule))
    ∙ ap (fold with_port []) (sym (ports_more (take i rules)) ∙ ap (flat_map raw_ports) (sym (take_more rules i rule inside ∙ ap (λ y. take i rules ++ y ∷ []) (sym is))))
  where
    ports_more : (so_far : List RawRule) → flat_map raw_ports (so_far ++ rule ∷ []) ≡ flat_map raw_ports so_far ++ raw_ports rule
    ports_more [] = append-nil (raw_ports rule)
    ports_more (x ∷ xs) = ap (λ ports. raw_ports x ++ ports) (ports_more xs) ∙ sym (append_assoc (raw_ports x) (flat_map raw_ports xs) (raw_ports rule))
