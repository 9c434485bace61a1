-- The values of arguments that a parse found.
use Rattle.std.specs.Prelude.{ℕ, Bool, false, List, Option, Some, None, option_map, codes}
use Rattle.std.specs.Option.{option_map_or}
use Rattle.std.specs.Str.{bytes_eq}
use Rattle.clap.specs.Walk.{Row, Text, first_of}
use Rattle.command_words.specs.Numbers.{number_in}

-- an option is given with this value
unfoldable pub has_value : List Row → Text → Text → Bool
has_value rows option value = option_map_or (bytes_eq value) (first_of option rows) false

-- a flag is given: the parser's value of such a one is `true`
unfoldable pub flag : List Row → Text → Bool
flag rows name = has_value rows name (codes "true")

-- the number of an option, between these bounds, or else its default
unfoldable pub number : List Row → Text → ℕ → ℕ → ℕ → Option ℕ
number rows option least most default = option_map_or (number_in least most) (first_of option rows) (Some default)

-- the number of an option, between these bounds, or none where it isn't given
unfoldable pub optional_number : List Row → Text → ℕ → ℕ → Option (Option ℕ)
optional_number rows option least most =
    option_map_or (λ text. option_map (λ n. Some n) (number_in least most text)) (first_of option rows) (Some None)
