-- What a flow without a fault before numbering has, and what its plan has of it.
use Rattle.std.proofs.Common.{◌≡◌, ℕ, ◌+◌, ◌≤◌, Bool, true, false, cond, not, ◌&&◌, ◌||◌, List, [], ◌∷◌, ◌++◌, length, refl, ap, ◌∙◌, arith, subst, All}
use Rattle.std.specs.Prelude.{Option, Some, None, map, find, ⊤, nat_lt, nat_le, ◌==◌, IsTrue}
use Rattle.std.specs.List.{list_any, list_all, enumerate_from, AllByRecursion}
use Rattle.std.specs.List.Sorted.{IsStrictlySortedBy}
use Rattle.std.specs.Str.{bytes_eq}
use Rattle.std.specs.declared.cmp.Ordering.TheVariants.{Less}
use Rattle.std.specs.Ordering.{nat_cmp}
use Rattle.std.specs.Cmp.Lexicographic.{slice_cmp, nat_list_eq_equiv}
use Rattle.std.proofs.lemmas.Bool.{true≢false, ltb-false, le-leb, eqb-false}
use Rattle.std.proofs.lemmas.List.{length-map, map-append}
use Rattle.std.proofs.lemmas.List.Folds.{list_all-map}
use Rattle.std.proofs.lemmas.List.Elements.{All-cons, All-nil, All-append, All-head, All-tail}
use Rattle.flow_types.specs.declared.flow.RawRule.{RawRule}
use Rattle.flow_types.specs.declared.flow.RawFlow.{RawFlow}
use Rattle.flow_types.specs.declared.plan.Rule.{Rule}
use Rattle.flow_types.specs.declared.plan.Port.{Port}
use Rattle.flow_types.specs.declared.plan.FileRow.{FileRow}
use Rattle.flow_types.specs.Names.{is_name, is_folder_of, are_nested}
use Rattle.flow_types.specs.Plans.{most_rules, most_files, all_pairs, is_less, is_name_less, remotes_of}
use Rattle.rule_graph.specs.declared.faults.GraphFault.{GraphFault}
use Rattle.rule_graph.specs.declared.faults.GraphFault.TheVariants as faults
use Rattle.rule_graph.specs.declared.raw.RawPort.{RawPort}
use Rattle.rule_graph.specs.Flows.{rule_no, raw_port, raw_outputs, raw_inputs, names_of, port_for, rule_for, row_for, raw_maker, plan_without_faults}
use Rattle.rule_graph.specs.Faults.{or_else, first_said, over_rules, too_many_ports, too_many, bad_name, no_output, first_repeat, remote_names, same_name, nested_under, nested_in, nested_name, named_fault, early_fault}
use Rattle.rule_graph.specs.Checked.{HasNames, IsName, IsAscending}
use Rattle.rule_graph.proofs.Ports.{names_ascending}
use Rattle.rule_graph.proofs.RuleFaults.{none_both, none_first, nothing_mapped, all_named, remotes_named}
use Rattle.rule_graph.proofs.Folders.{names_named}

-- ---- lists

-- what holds of each item passes the test of each
test_all : {A : Type 0} (P : A → Type 0) (p : A → Bool) → ((x : A) → P x → p x ≡ true) → (xs : List A) → All P xs → list_all p xs ≡ true
test_all P p tells [] all = refl
test_all P p tells (x ∷ xs) all =
    ap (λ b. b && list_all p xs) (tells x (All-head P x xs all)) ∙ test_all P p tells xs (All-tail P x xs all)

both_all : {A : Type 0} (P Q R : A → Type 0) → ((x : A) → P x → Q x → R x) → (xs : List A) → All P xs → All Q xs → All R xs
both_all P Q R tells [] ps qs = All-nil R
both_all P Q R tells (x ∷ xs) ps qs =
    All-cons R x xs (tells x (All-head P x xs ps) (All-head Q x xs qs)) (both_all P Q R tells xs (All-tail P x xs ps) (All-tail Q x xs qs))

pub as_all : {A : Type 0} (P R : A → Type 0) → ((x : A) → P x → R x) → (xs : List A) → All P xs → All R xs
as_all P R tells xs ps = both_all P P R (λ x p q. tells x p) xs ps ps

-- each item with each that stands behind it
abbrev pub AllPairs : {A : Type 0} → (A → A → Type 0) → List A → Type 0
AllPairs R [] = ⊤
AllPairs R (x ∷ xs) = All (R x) xs × AllPairs R xs

test_pairs : {A : Type 0} (R : A → A → Type 0) (t : A → A → Bool) → ((x y : A) → R x y → t x y ≡ true) → (xs : List A) → AllPairs R xs → all_pairs t xs ≡ true
test_pairs R t tells [] all = refl
test_pairs R t tells (x ∷ xs) all =
    ap (λ b. b && all_pairs t xs) (test_all (R x) (t x) (tells x) xs all.0) ∙ test_pairs R t tells xs all.1

pub pairs_split : {A : Type 0} (R : A → A → Type 0) (xs ys : List A) → AllPairs R (xs ++ ys) → AllPairs R xs × AllPairs R ys × All (λ x. All (R x) ys) xs
pairs_split R [] ys all = (tt, all, All-nil (λ x. All (R x) ys))
pairs_split R (x ∷ xs) ys all =
    let rest = pairs_split R xs ys all.1 in
    ((front (R x) xs ys all.0, rest.0), rest.1, All-cons (λ x. All (R x) ys) x xs (back (R x) xs ys all.0) rest.2)
  where
    front : {A : Type 0} (P : A → Type 0) (xs ys : List A) → All P (xs ++ ys) → All P xs
    front P [] ys all = All-nil P
    front P (x ∷ xs) ys all = All-cons P x xs (All-head P x (xs ++ ys) all) (front P xs ys (All-tail P x (xs ++ ys) all))

    back : {A : Type 0} (P : A → Type 0) (xs ys : List A) → All P (xs ++ ys) → All P ys
    back P [] ys all = all
    back P (x ∷ xs) ys all = back P xs ys (All-tail P x (xs ++ ys) all)

pairs_join : {A : Type 0} (R : A → A → Type 0) (xs ys : List A) → AllPairs R xs → AllPairs R ys → All (λ x. All (R x) ys) xs → AllPairs R (xs ++ ys)
pairs_join R [] ys first second across = second
pairs_join R (x ∷ xs) ys first second across = (
  All-append (R x) xs ys first.0 (All-head (λ x. All (R x) ys) x xs across),
  pairs_join R xs ys first.1 second (All-tail (λ x. All (R x) ys) x xs across),
)

each_none : {A : Type 0} (R : A → A → Type 0) (xs : List A) → All (λ x. All (R x) []) xs
each_none R [] = All-nil (λ x. All (R x) [])
each_none R (x ∷ xs) = All-cons (λ x. All (R x) []) x xs (All-nil (R x)) (each_none R xs)

-- across two lists, from the second one on
across_back : {A : Type 0} (R : A → A → Type 0) → ((x y : A) → R x y → R y x) → (xs ys : List A) → All (λ x. All (R x) ys) xs → All (λ y. All (R y) xs) ys
across_back R turn [] ys across = each_none R ys
across_back R turn (x ∷ xs) ys across =
    both_all (λ y. R x y) (λ y. All (R y) xs) (λ y. All (R y) (x ∷ xs)) (λ y here rest. All-cons (R y) x xs (turn x y here) rest) ys
    (All-head (λ x. All (R x) ys) x xs across)
    (across_back R turn xs ys (All-tail (λ x. All (R x) ys) x xs across))

pairs_swap : {A : Type 0} (R : A → A → Type 0) → ((x y : A) → R x y → R y x) → (xs ys : List A) → AllPairs R (xs ++ ys) → AllPairs R (ys ++ xs)
pairs_swap R turn xs ys all =
    let parts = pairs_split R xs ys all in
    pairs_join R ys xs parts.1 parts.0 (across_back R turn xs ys parts.2)

-- ---- names that differ and aren't nested

-- neither one name nor nested
pub record AreApart (a b : List ℕ) : Type 0 where
  pub differ : bytes_eq a b ≡ false
  pub before : is_folder_of a b ≡ false
  pub behind : is_folder_of b a ≡ false

turned_apart : (a b : List ℕ) → AreApart a b → AreApart b a
turned_apart a b apart = record { differ = nat_list_eq_equiv.symm b a ∙ apart.differ; before = apart.behind; behind = apart.before }

not_found : {A : Type 0} (p : A → Bool) (xs : List A) → find p xs ≡ None → All (λ x. p x ≡ false) xs
not_found p [] none = All-nil (λ x. p x ≡ false)
not_found p (x ∷ xs) none =
    let parts = none_first (p x) x (find p xs) none in
    All-cons (λ x. p x ≡ false) x xs parts.0 (not_found p xs parts.1)

all_silent : {A B : Type 0} (says : A → Option B) (xs : List A) → first_said says xs ≡ None → All (λ x. says x ≡ None) xs
all_silent says [] none = All-nil (λ x. says x ≡ None)
all_silent says (x ∷ xs) none =
    let parts = none_both (says x) (first_said says xs) none in
    All-cons (λ x. says x ≡ None) x xs parts.0 (all_silent says xs parts.1)

-- no name is a folder of one of the names
pub none_nested : (names : List (List ℕ)) → nested_in names ≡ None → All (λ folder. All (λ name. is_folder_of folder name ≡ false) names) names
none_nested names none =
    as_all (λ folder. nested_under names folder ≡ None) (λ folder. All (λ name. is_folder_of folder name ≡ false) names)
    (λ folder silent. not_found (is_folder_of folder) names (nothing_mapped (λ name. faults.NestedName folder name) (find (is_folder_of folder) names) silent)) names
    (all_silent (nested_under names) names none)

-- a name that no seen one is
new_names : (x : List ℕ) (seen : List (List ℕ)) (ys : List (List ℕ)) → All (λ y. list_any (bytes_eq y) (x ∷ seen) ≡ false) ys
    → All (λ y. bytes_eq x y ≡ false) ys × All (λ y. list_any (bytes_eq y) seen ≡ false) ys
new_names x seen ys all = (
  as_all (λ y. list_any (bytes_eq y) (x ∷ seen) ≡ false) (λ y. bytes_eq x y ≡ false) (λ y none. nat_list_eq_equiv.symm x y ∙ (neither (bytes_eq y x) (list_any (bytes_eq y) seen) none).0) ys all,
  as_all (λ y. list_any (bytes_eq y) (x ∷ seen) ≡ false) (λ y. list_any (bytes_eq y) seen ≡ false) (λ y none. (neither (bytes_eq y x) (list_any (bytes_eq y) seen) none).1) ys all,
)
  where
    neither : (a b : Bool) → (a || b) ≡ false → (a ≡ false) × (b ≡ false)
    neither true b none = absurd (true≢false none)
    neither false b none = (refl, none)

pub no_repeat : (seen names : List (List ℕ)) → first_repeat seen names ≡ None
    → All (λ name. list_any (bytes_eq name) seen ≡ false) names × AllPairs (λ a b. bytes_eq a b ≡ false) names
no_repeat seen [] none = (All-nil (λ name. list_any (bytes_eq name) seen ≡ false), tt)
no_repeat seen (x ∷ xs) none =
    let parts = none_first (list_any (bytes_eq x) seen) x (first_repeat (x ∷ seen) xs) none in
    let rest = no_repeat (x ∷ seen) xs parts.1 in
    let new = new_names x seen xs rest.0 in
    (All-cons (λ name. list_any (bytes_eq name) seen ≡ false) x xs parts.0 new.1, (new.0, rest.1))

-- the folders among names, but for the first one
fewer_folders : (x : List ℕ) (xs : List (List ℕ)) → All (λ folder. All (λ name. is_folder_of folder name ≡ false) (x ∷ xs)) (x ∷ xs)
    → All (λ folder. All (λ name. is_folder_of folder name ≡ false) xs) xs
fewer_folders x xs all =
    as_all (λ folder. All (λ name. is_folder_of folder name ≡ false) (x ∷ xs)) (λ folder. All (λ name. is_folder_of folder name ≡ false) xs)
    (λ folder here. All-tail (λ name. is_folder_of folder name ≡ false) x xs here) xs
    (All-tail (λ folder. All (λ name. is_folder_of folder name ≡ false) (x ∷ xs)) x xs all)

apart_pairs : (names : List (List ℕ)) → AllPairs (λ a b. bytes_eq a b ≡ false) names → All (λ folder. All (λ name. is_folder_of folder name ≡ false) names) names
    → AllPairs AreApart names
apart_pairs [] differ none = tt
apart_pairs (x ∷ xs) differ none =
    let of_x : All (λ name. is_folder_of x name ≡ false) xs =
    All-tail (λ name. is_folder_of x name ≡ false) x xs (All-head (λ folder. All (λ name. is_folder_of folder name ≡ false) (x ∷ xs)) x xs none) in
    let above_x : All (λ folder. is_folder_of folder x ≡ false) xs =
    as_all (λ folder. All (λ name. is_folder_of folder name ≡ false) (x ∷ xs)) (λ folder. is_folder_of folder x ≡ false)
    (λ folder here. All-head (λ name. is_folder_of folder name ≡ false) x xs here) xs
    (All-tail (λ folder. All (λ name. is_folder_of folder name ≡ false) (x ∷ xs)) x xs none) in
    let nested : All (λ name. (is_folder_of x name ≡ false) × (is_folder_of name x ≡ false)) xs =
    both_all (λ name. is_folder_of x name ≡ false) (λ name. is_folder_of name x ≡ false) (λ name. (is_folder_of x name ≡ false) × (is_folder_of name x ≡ false))
    (λ name before behind. (before, behind)) xs of_x above_x in (
      both_all (λ name. bytes_eq x name ≡ false) (λ name. (is_folder_of x name ≡ false) × (is_folder_of name x ≡ false)) (AreApart x)
          (λ name other both. record { differ = other; before = both.0; behind = both.1 }) xs differ.0 nested,
      apart_pairs xs differ.1 (fewer_folders x xs none),
    )

apart_not_nested : (a b : List ℕ) → AreApart a b → not (are_nested a b) ≡ true
apart_not_nested a b apart =
    ap (λ t. not (t || is_folder_of b a)) apart.before ∙ ap (λ t. not (false || t)) apart.behind

apart_test : (a b : List ℕ) → AreApart a b → (not (bytes_eq a b) && not (are_nested a b)) ≡ true
apart_test a b apart = ap (λ t. not t && not (are_nested a b)) apart.differ ∙ apart_not_nested a b apart

-- ascending names

all_less : (x : List ℕ) (ys : List (List ℕ)) → AllByRecursion (λ y. slice_cmp nat_cmp x y ≡ Less) ys → list_all (is_name_less x) ys ≡ true
all_less x [] all = refl
all_less x (y ∷ ys) all = ap (λ o. is_less o && list_all (is_name_less x) ys) all.0 ∙ all_less x ys all.1

ascending_pairs : (names : List (List ℕ)) → IsAscending names → all_pairs is_name_less names ≡ true
unfolding IsStrictlySortedBy
ascending_pairs [] sorted = refl
ascending_pairs (x ∷ xs) sorted = ap (λ b. b && all_pairs is_name_less xs) (all_less x xs sorted.0) ∙ ascending_pairs xs sorted.1

-- ---- a flow without a fault before numbering

pub record IsUnfaulted (flow : RawFlow) : Type 0 where
  pub few_rules : length flow.rules ≤ 20000
  pub few_files : length (names_of flow) ≤ 65536
  pub few_inputs : All (λ rule. length (raw_inputs rule) ≤ 4096) flow.rules
  pub few_outputs : All (λ rule. length rule.outputs ≤ 1024) flow.rules
  pub some_output : All (λ rule. 1 ≤ length rule.outputs) flow.rules
  pub named : All HasNames flow.rules
  pub differ : All (λ rule. first_repeat [] (remote_names rule) ≡ None) flow.rules
  pub apart : nested_in (names_of flow) ≡ None
  pub remotes_apart : All (λ rule. nested_in (remote_names rule) ≡ None) flow.rules

-- what each rule has of which nothing is said
rules_silent : (says : ℕ → RawRule → Option GraphFault) (P : RawRule → Type 0) → ((r : ℕ) (rule : RawRule) → says r rule ≡ None → P rule)
    → (rules : List RawRule) (n : ℕ) → first_said (λ numbered. says numbered.0 numbered.1) (enumerate_from n rules) ≡ None → All P rules
rules_silent says P tells [] n none = All-nil P
rules_silent says P tells (rule ∷ rules) n none =
    let parts = none_both (says n rule) (first_said (λ numbered. says numbered.0 numbered.1) (enumerate_from (n + 1) rules)) none in
    All-cons P rule rules (tells n rule parts.0) (rules_silent says P tells rules (n + 1) parts.1)

inputs_few : (r : ℕ) (rule : RawRule) → too_many_ports r rule ≡ None → length (raw_inputs rule) ≤ 4096
inputs_few r rule none =
    ltb-false 4096 (length (raw_inputs rule))
    (none_first (nat_lt 4096 (length (raw_inputs rule))) (faults.TooMany 4096)
    (let rest : Option GraphFault = cond (nat_lt 1024 (length rule.outputs)) (Some (faults.TooMany 1024)) None in rest) none).0

outputs_few : (r : ℕ) (rule : RawRule) → too_many_ports r rule ≡ None → length rule.outputs ≤ 1024
outputs_few r rule none =
    let none_of_type : Option GraphFault = None in
    ltb-false 1024 (length rule.outputs)
    (none_first (nat_lt 1024 (length rule.outputs)) (faults.TooMany 1024) none_of_type
    (none_first (nat_lt 4096 (length (raw_inputs rule))) (faults.TooMany 4096)
    (let rest : Option GraphFault = cond (nat_lt 1024 (length rule.outputs)) (Some (faults.TooMany 1024)) None in rest) none).1).0

output_some : (r : ℕ) (rule : RawRule) → no_output r rule ≡ None → 1 ≤ length rule.outputs
output_some r rule none =
    let none_of_type : Option GraphFault = None in
    let other : length rule.outputs ≡ 0 → ⊥ =
    eqb-false (length rule.outputs) 0 (none_first (length rule.outputs == 0) (faults.NoOutput (rule_no r)) none_of_type none).0 in
    omega (arith, other)

pub unfaulted : (flow : RawFlow) → early_fault flow ≡ None → IsUnfaulted flow
unfaulted flow none =
    let first = none_both (too_many flow) (or_else (over_rules bad_name flow) (named_fault flow)) none in
    let second = none_both (over_rules bad_name flow) (named_fault flow) first.1 in
    let third = none_both (over_rules no_output flow) (or_else (over_rules same_name flow) (nested_name flow)) second.1 in
    let fourth = none_both (over_rules same_name flow) (nested_name flow) third.1 in
    let fifth = none_both (nested_in (names_of flow)) (first_said (λ rule. nested_in (remote_names rule)) flow.rules) fourth.1 in
    let files : Option GraphFault = cond (nat_lt 65536 (length (names_of flow))) (Some (faults.TooMany 65536)) (over_rules too_many_ports flow) in
    let rules = none_first (nat_lt 20000 (length flow.rules)) (faults.TooMany 20000) files first.0 in
    let counts = none_first (nat_lt 65536 (length (names_of flow))) (faults.TooMany 65536) (over_rules too_many_ports flow) rules.1 in
    record {
      few_rules = ltb-false 20000 (length flow.rules) rules.0;
      few_files = ltb-false 65536 (length (names_of flow)) counts.0;
      few_inputs = rules_silent too_many_ports (λ rule. length (raw_inputs rule) ≤ 4096) inputs_few flow.rules 0 counts.1;
      few_outputs = rules_silent too_many_ports (λ rule. length rule.outputs ≤ 1024) outputs_few flow.rules 0 counts.1;
      some_output = rules_silent no_output (λ rule. 1 ≤ length rule.outputs) output_some flow.rules 0 third.0;
      named = all_named flow.rules 0 second.0;
      differ = rules_silent same_name (λ rule. first_repeat [] (remote_names rule) ≡ None)
          (λ r rule silent. nothing_mapped (λ name. faults.SameName (rule_no r) name) (first_repeat [] (remote_names rule)) silent) flow.rules 0 fourth.0;
      apart = fifth.0;
      remotes_apart = all_silent (λ rule. nested_in (remote_names rule)) flow.rules fifth.1;
    }

-- ---- its plan

name_of_row : (flow : RawFlow) (name : List ℕ) (maker : Option ℕ) → (row_for flow name maker).name ≡ name
name_of_row flow name None = refl
name_of_row flow name (Some r) = refl

row_of : RawFlow → List ℕ → FileRow
row_of flow name = row_for flow name (raw_maker flow name)

-- a test of each row's name
rows_test : (flow : RawFlow) (test : List ℕ → Bool) (names : List (List ℕ)) → list_all (λ row. test row.name) (map (row_of flow) names) ≡ list_all test names
unfolding row_of
rows_test flow test [] = refl
rows_test flow test (name ∷ names) =
    ap (λ n. test n && list_all (λ row. test row.name) (map (row_of flow) names)) (name_of_row flow name (raw_maker flow name))
    ∙ ap (λ b. test name && b) (rows_test flow test names)

-- a test of the names of two rows
rows_pairs : (flow : RawFlow) (test : List ℕ → List ℕ → Bool) (names : List (List ℕ)) → all_pairs (λ a b. test a.name b.name) (map (row_of flow) names) ≡ all_pairs test names
unfolding row_of
rows_pairs flow test [] = refl
rows_pairs flow test (name ∷ names) =
    ap (λ n. list_all (λ row. test n row.name) (map (row_of flow) names) && all_pairs (λ a b. test a.name b.name) (map (row_of flow) names)) (name_of_row flow name (raw_maker flow name))
    ∙ ap (λ b. b && all_pairs (λ a b. test a.name b.name) (map (row_of flow) names)) (rows_test flow (test name) names)
    ∙ ap (λ b. list_all (test name) names && b) (rows_pairs flow test names)

pub plan_few_rules : (flow : RawFlow) → IsUnfaulted flow → IsTrue (nat_le (length (plan_without_faults flow).rules) most_rules)
plan_few_rules flow good =
    le-leb (length (plan_without_faults flow).rules) 20000
    (let same : length (plan_without_faults flow).rules ≡ length flow.rules = length-map flow.rules (rule_for flow (names_of flow)) in
    let few : length flow.rules ≤ 20000 = good.few_rules in
    omega (arith, same, few))

pub plan_few_files : (flow : RawFlow) → IsUnfaulted flow → IsTrue (nat_le (length (plan_without_faults flow).files) most_files)
unfolding row_of
plan_few_files flow good =
    le-leb (length (plan_without_faults flow).files) 65536
    (let same : length (plan_without_faults flow).files ≡ length (names_of flow) = length-map (names_of flow) (row_of flow) in
    let few : length (names_of flow) ≤ 65536 = good.few_files in
    omega (arith, same, few))

pub plan_ascending : (flow : RawFlow) → IsTrue (all_pairs (λ a b. is_name_less a.name b.name) (plan_without_faults flow).files)
unfolding row_of
plan_ascending flow = rows_pairs flow is_name_less (names_of flow) ∙ ascending_pairs (names_of flow) (names_ascending flow)

pub plan_names : (flow : RawFlow) → IsUnfaulted flow → IsTrue (list_all (λ row. is_name row.name) (plan_without_faults flow).files)
unfolding row_of
plan_names flow good = rows_test flow is_name (names_of flow) ∙ test_all IsName is_name (λ name is. is) (names_of flow) (names_named flow good.named)

-- of names none of which is a folder of one of them no two are nested
not_nested_pairs : (names : List (List ℕ)) → All (λ folder. All (λ name. is_folder_of folder name ≡ false) names) names
    → all_pairs (λ a b. not (are_nested a b)) names ≡ true
not_nested_pairs [] none = refl
not_nested_pairs (x ∷ xs) none =
    let of_x : All (λ name. is_folder_of x name ≡ false) xs =
    All-tail (λ name. is_folder_of x name ≡ false) x xs (All-head (λ folder. All (λ name. is_folder_of folder name ≡ false) (x ∷ xs)) x xs none) in
    let above_x : All (λ folder. is_folder_of folder x ≡ false) xs =
    as_all (λ folder. All (λ name. is_folder_of folder name ≡ false) (x ∷ xs)) (λ folder. is_folder_of folder x ≡ false)
    (λ folder here. All-head (λ name. is_folder_of folder name ≡ false) x xs here) xs
    (All-tail (λ folder. All (λ name. is_folder_of folder name ≡ false) (x ∷ xs)) x xs none) in
    let first : All (λ name. not (are_nested x name) ≡ true) xs =
    both_all (λ name. is_folder_of x name ≡ false) (λ name. is_folder_of name x ≡ false) (λ name. not (are_nested x name) ≡ true)
    (λ name before behind. ap (λ t. not (t || is_folder_of name x)) before ∙ ap (λ t. not (false || t)) behind) xs of_x above_x in
    ap (λ b. b && all_pairs (λ a b. not (are_nested a b)) xs) (test_all (λ name. not (are_nested x name) ≡ true) (λ name. not (are_nested x name)) (λ name is. is) xs first)
    ∙ not_nested_pairs xs (fewer_folders x xs none)

pub plan_not_nested : (flow : RawFlow) → IsUnfaulted flow → IsTrue (all_pairs (λ a b. not (are_nested a.name b.name)) (plan_without_faults flow).files)
unfolding row_of
plan_not_nested flow good =
    rows_pairs flow (λ a b. not (are_nested a b)) (names_of flow) ∙ not_nested_pairs (names_of flow) (none_nested (names_of flow) good.apart)

remote_of : RawPort → List ℕ
remote_of port = port.remote

remotes_for : (names : List (List ℕ)) (ports : List RawPort) → map (λ port. port.remote) (map (port_for names) ports) ≡ map remote_of ports
unfolding remote_of
remotes_for names [] = refl
remotes_for names (port ∷ ports) = ap (λ remotes. port.remote ∷ remotes) (remotes_for names ports)

plan_remote : Port → List ℕ
plan_remote port = port.remote

-- the remote names of a rule of the plan, inputs first
rule_remotes : (flow : RawFlow) (rule : RawRule) → remotes_of (rule_for flow (names_of flow) rule) ≡ map remote_of (raw_inputs rule) ++ map remote_of (raw_outputs rule)
unfolding remote_of plan_remote
rule_remotes flow rule =
    map-append plan_remote (map (port_for (names_of flow)) (raw_inputs rule)) (map (port_for (names_of flow)) (raw_outputs rule))
    ∙ ap (λ remotes. remotes ++ map plan_remote (map (port_for (names_of flow)) (raw_outputs rule))) (remotes_for (names_of flow) (raw_inputs rule))
    ∙ ap (λ remotes. map remote_of (raw_inputs rule) ++ remotes) (remotes_for (names_of flow) (raw_outputs rule))

-- a rule with names that differ and aren't nested
remotes_test : (rule : RawRule) → HasNames rule → first_repeat [] (remote_names rule) ≡ None → nested_in (remote_names rule) ≡ None
    → (remotes : List (List ℕ)) → remotes ≡ map remote_of (raw_inputs rule) ++ map remote_of (raw_outputs rule)
    → (list_all is_name remotes && all_pairs (λ a b. not (bytes_eq a b) && not (are_nested a b)) remotes) ≡ true
unfolding remote_of
remotes_test rule named differ apart remotes is =
    let ins : List (List ℕ) = map remote_of (raw_inputs rule) in
    let outs : List (List ℕ) = map remote_of (raw_outputs rule) in
    let split : remote_names rule ≡ outs ++ ins = map-append remote_of (raw_outputs rule) (raw_inputs rule) in
    let names : All IsName (outs ++ ins) = subst (All IsName) split (remotes_named rule named) in
    let all : AllPairs AreApart (remote_names rule) = apart_pairs (remote_names rule) (no_repeat [] (remote_names rule) differ).1 (none_nested (remote_names rule) apart) in
    let swapped : AllPairs AreApart (ins ++ outs) = pairs_swap AreApart turned_apart outs ins (subst (AllPairs AreApart) split all) in
    let both : All IsName (ins ++ outs) = All-append IsName ins outs (back_part outs ins names) (front_part outs ins names) in
    ap (λ r. list_all is_name r && all_pairs (λ a b. not (bytes_eq a b) && not (are_nested a b)) r) is
    ∙ ap (λ b. b && all_pairs (λ a b. not (bytes_eq a b) && not (are_nested a b)) (ins ++ outs)) (test_all IsName is_name (λ name named. named) (ins ++ outs) both)
    ∙ test_pairs AreApart (λ a b. not (bytes_eq a b) && not (are_nested a b)) apart_test (ins ++ outs) swapped
  where
    front_part : (xs ys : List (List ℕ)) → All IsName (xs ++ ys) → All IsName xs
    front_part [] ys all = All-nil IsName
    front_part (x ∷ xs) ys all = All-cons IsName x xs (All-head IsName x (xs ++ ys) all) (front_part xs ys (All-tail IsName x (xs ++ ys) all))

    back_part : (xs ys : List (List ℕ)) → All IsName (xs ++ ys) → All IsName ys
    back_part [] ys all = all
    back_part (x ∷ xs) ys all = back_part xs ys (All-tail IsName x (xs ++ ys) all)

-- what each rule of the plan has
rules_test : (flow : RawFlow) (P : RawRule → Type 0) (test : Rule → Bool) → ((rule : RawRule) → P rule → test (rule_for flow (names_of flow) rule) ≡ true)
    → All P flow.rules → list_all test (plan_without_faults flow).rules ≡ true
rules_test flow P test tells all =
    list_all-map test (rule_for flow (names_of flow)) flow.rules ∙ test_all P (λ rule. test (rule_for flow (names_of flow) rule)) tells flow.rules all

-- a rule whose remote names are names, differ and aren't nested
record HasRemotes (rule : RawRule) : Type 0 where
  named : HasNames rule
  differ : first_repeat [] (remote_names rule) ≡ None
  apart : nested_in (remote_names rule) ≡ None

pub plan_remotes : (flow : RawFlow) → IsUnfaulted flow
    → IsTrue (list_all (λ rule. list_all is_name (remotes_of rule) && all_pairs (λ a b. not (bytes_eq a b) && not (are_nested a b)) (remotes_of rule)) (plan_without_faults flow).rules)
plan_remotes flow good =
    let two : All (λ rule. HasNames rule × (first_repeat [] (remote_names rule) ≡ None)) flow.rules =
    both_all HasNames (λ rule. first_repeat [] (remote_names rule) ≡ None) (λ rule. HasNames rule × (first_repeat [] (remote_names rule) ≡ None)) (λ rule named differ. (named, differ)) flow.rules good.named good.differ in
    let three : All HasRemotes flow.rules =
    both_all (λ rule. HasNames rule × (first_repeat [] (remote_names rule) ≡ None)) (λ rule. nested_in (remote_names rule) ≡ None) HasRemotes
    (λ rule both apart. record { named = both.0; differ = both.1; apart = apart }) flow.rules two good.remotes_apart in
    rules_test flow HasRemotes (λ rule. list_all is_name (remotes_of rule) && all_pairs (λ a b. not (bytes_eq a b) && not (are_nested a b)) (remotes_of rule))
    (λ rule has. remotes_test rule has.named has.differ has.apart (remotes_of (rule_for flow (names_of flow) rule)) (rule_remotes flow rule)) three

-- the counts of ports of each rule of the plan
pub plan_ports : (flow : RawFlow) → IsUnfaulted flow
    → All (λ rule. (length (rule_for flow (names_of flow) rule).inputs ≤ 4096) × (1 ≤ length (rule_for flow (names_of flow) rule).outputs) × (length (rule_for flow (names_of flow) rule).outputs ≤ 1024)) flow.rules
plan_ports flow good =
    let outputs : All (λ rule. (1 ≤ length rule.outputs) × (length rule.outputs ≤ 1024)) flow.rules =
    both_all (λ rule. 1 ≤ length rule.outputs) (λ rule. length rule.outputs ≤ 1024) (λ rule. (1 ≤ length rule.outputs) × (length rule.outputs ≤ 1024)) (λ rule some few. (some, few)) flow.rules good.some_output good.few_outputs in
    both_all (λ rule. length (raw_inputs rule) ≤ 4096) (λ rule. (1 ≤ length rule.outputs) × (length rule.outputs ≤ 1024))
    (λ rule. (length (rule_for flow (names_of flow) rule).inputs ≤ 4096) × (1 ≤ length (rule_for flow (names_of flow) rule).outputs) × (length (rule_for flow (names_of flow) rule).outputs ≤ 1024))
    (λ rule ins outs.
    let same_ins : length (rule_for flow (names_of flow) rule).inputs ≡ length (raw_inputs rule) = length-map (raw_inputs rule) (port_for (names_of flow)) in
    let ports_out : length (rule_for flow (names_of flow) rule).outputs ≡ length (raw_outputs rule) = length-map (raw_outputs rule) (port_for (names_of flow)) in
    let raw_out : length (raw_outputs rule) ≡ length rule.outputs = length-map rule.outputs raw_port in
    let some : 1 ≤ length rule.outputs = outs.0 in
    let few : length rule.outputs ≤ 1024 = outs.1 in
    (omega (arith, same_ins, ins), omega (arith, ports_out, raw_out, some), omega (arith, ports_out, raw_out, few)))
    flow.rules good.few_inputs outputs
