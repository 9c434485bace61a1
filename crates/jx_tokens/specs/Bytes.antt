-- The kinds of bytes.
use Rattle.std.specs.Prelude.{ℕ, Bool, not, ◌||◌, ◌&&◌, ◌==◌, nat_lt, nat_le}
use Rattle.std.specs.Char.{is_ascii_digit}

-- blank, tab, carriage return, newline
abbrev pub is_blank : ℕ → Bool
is_blank b = (b == 32) || (b == 9) || (b == 13) || (b == 10)

-- not a newline
abbrev pub in_line : ℕ → Bool
in_line b = not (b == 10)

-- an ASCII letter or `_`
abbrev pub begins_name : ℕ → Bool
begins_name b = (nat_le 65 b && nat_le b 90) || (nat_le 97 b && nat_le b 122) || (b == 95)

-- an ASCII letter, digit or `_`
abbrev pub in_name : ℕ → Bool
in_name b = begins_name b || is_ascii_digit b

-- what stands for itself in a text: no backslash and no raw control character
abbrev pub is_plain : ℕ → Bool
is_plain b = not ((b == 92) || nat_lt b 32)
