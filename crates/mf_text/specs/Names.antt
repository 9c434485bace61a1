-- Names of variables, and the values that they have.
use Rattle.std.specs.Prelude.{ℕ, Bool, ◌&&◌, ◌||◌, List, ◌∷◌, ◌++◌, Option, Some, None, slice_index, nat_le, ◌==◌}
use Rattle.std.specs.List.{list_all}
use Rattle.std.specs.FinMap as map
use Rattle.std.specs.Ordering.{nat_cmp}
use Rattle.std.specs.Cmp.Lexicographic.{slice_cmp}

-- an ASCII letter or `_`
unfoldable pub begins_name : ℕ → Bool
begins_name c = (nat_le 65 c && nat_le c 90) || (nat_le 97 c && nat_le c 122) || (c == 95)

-- an ASCII letter, `_` or a digit
unfoldable pub continues_name : ℕ → Bool
continues_name c = begins_name c || (nat_le 48 c && nat_le c 57)

-- a name of a variable
abbrev pub is_variable : List ℕ → Bool
is_variable text = begins_name (slice_index text 0) && list_all continues_name text

-- a finite map from names to values
abbrev pub Values : Type 0
Values = map.FinMap (slice_cmp nat_cmp) (List ℕ)

-- a value behind the old one and a space, alone where there is no old one
abbrev pub behind_old : Option (List ℕ) → List ℕ → List ℕ
behind_old None value = value
behind_old (Some old) value = old ++ 32 ∷ value
