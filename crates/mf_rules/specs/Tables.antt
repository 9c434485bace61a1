-- Sets of names, and the pairs that names and their values make.
use Rattle.std.specs.Prelude.{ℕ, ◌+◌, List, [], map, length, nat_lt, if◌then◌else◌, Option, Some, None, unwrap_or, sum_by}
use Rattle.std.specs.FinMap as finite
use Rattle.std.specs.Ordering.{nat_cmp}
use Rattle.std.specs.Cmp.Lexicographic.{slice_cmp}
use Rattle.flow_types.specs.declared.flow.Pair.{Pair}

-- a finite set of names
abbrev pub NameSet : Type 0
NameSet = finite.FinMap (slice_cmp nat_cmp) (Unit {0})

-- a name as an entry of a set
abbrev pub entry_of : List ℕ → List ℕ × Unit {0}
entry_of name = (name, tt)

-- the set of these names
abbrev pub set_of : List (List ℕ) → NameSet
set_of names = finite.from_entries (map entry_of names)

-- a finite map from names to numbers
abbrev pub Counts : Type 0
Counts = finite.FinMap (slice_cmp nat_cmp) ℕ

-- the names of a set, in byte order
abbrev pub names_in : NameSet → List (List ℕ)
names_in names = finite.keys names

-- names with their values
abbrev pub pairs_of : (List ℕ → Option (List ℕ)) → List (List ℕ) → List Pair
pairs_of value names = map (λ name. record { name = name; value = unwrap_or (value name) [] }) names

-- the bytes of an environment, with 8 more a pair
abbrev pub environment_size : List Pair → ℕ
environment_size pairs = sum_by (λ pair. length pair.name + length pair.value + 8) pairs

-- pairs of at most 1,048,576 bytes, none where they have more
abbrev pub limited_pairs : List Pair → Option (List Pair)
limited_pairs pairs = if nat_lt 1048576 (environment_size pairs) then None else Some pairs
