-- Numbers, and the bounds of sizes.
use Rattle.std.specs.Prelude.{ℕ, ◌+◌, ◌-◌, ◌*◌, Bool, ◌&&◌, List, [], ◌∷◌, length, nat_lt, nat_le, if◌then◌else◌, Option, Some, None, fold}
use Rattle.std.specs.Option.{option_map}
use Rattle.std.specs.List.{list_all}
use Rattle.flow_types.specs.declared.flow.SizeBound.{SizeBound}
use Rattle.mf_forms.specs.Words.{words}

-- a decimal digit
abbrev pub is_digit : ℕ → Bool
is_digit c = nat_le 48 c && nat_le c 57

-- the number that decimal digits spell
abbrev pub decimal_value : List ℕ → ℕ
decimal_value digits = fold (λ n c. n * 10 + (c - 48)) 0 digits

-- one to ten decimal digits that are at most this number
abbrev pub number_within : ℕ → List ℕ → Option ℕ
number_within most text =
    if nat_lt 0 (length text) && nat_le (length text) 10 && list_all is_digit text && nat_le (decimal_value text) most
    then Some (decimal_value text) else None

-- a name and a number of bytes, at most those that a file may have
abbrev pub bound_by : List (List ℕ) → Option SizeBound
bound_by (name ∷ number ∷ []) = option_map (λ (most : ℕ). record { name = name; bytes = most }) (number_within 67108864 number)
bound_by _ = None

-- the bound that a text gives, none where it isn't a name and a number within the bound
abbrev pub bound_in : List ℕ → Option SizeBound
bound_in text = bound_by (words text)
