-- What is known of names and rules once some faults are ruled out.
use Rattle.std.specs.Prelude.{◌≡◌, ℕ, Bool, true, List, [], None, find, fold, map, slice_index_or, Vec, IsTrue}
use Rattle.std.specs.List.{list_any}
use Rattle.std.specs.declared.alloc.Global.{Global}
use Rattle.std.specs.BTreeSet.{BTreeSet, insert_key}
use Rattle.std.specs.List.Sorted.{IsStrictlySortedBy}
use Rattle.std.specs.Cmp.Lexicographic.{slice_cmp}
use Rattle.std.specs.Ordering.{nat_cmp}
use Rattle.flow_types.specs.declared.flow.RawRule.{RawRule}
use Rattle.flow_types.specs.Names.{is_name}
use Rattle.flow_types.specs.Plans.{is_name_less}
use Rattle.rule_graph.specs.Faults.{is_no_name, texts_of}

-- each text of the rule gives a name
abbrev pub HasNames : RawRule → Type 0
HasNames rule = find is_no_name (texts_of rule) ≡ None

-- a name in its one form
abbrev pub IsName : List ℕ → Type 0
IsName name = IsTrue (is_name name)

-- names ascend by bytes, each once
abbrev pub IsAscending : List (List ℕ) → Type 0
IsAscending names = IsStrictlySortedBy (slice_cmp nat_cmp) names

-- a test that one of the names passes is passed by one of the sorted names
abbrev pub HasAll : List (List ℕ) → List (List ℕ) → Type 0
HasAll sorted names = (test : List ℕ → Bool) → list_any test names ≡ true → list_any test sorted ≡ true

-- the names of a set, in order
abbrev pub names_in : BTreeSet (Vec ℕ Global) → List (List ℕ)
names_in names = map (λ name. name.items) names.keys

-- the name at a place stands before the text
abbrev pub stands_before : List (List ℕ) → ℕ → List ℕ → Bool
stands_before names place text = is_name_less (slice_index_or names place []) text

-- the names, each once, ascending
abbrev pub ascending : List (List ℕ) → List (List ℕ)
ascending names = fold (λ sorted name. insert_key (slice_cmp nat_cmp) sorted name) [] names
