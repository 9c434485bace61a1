-- Names and other texts as they are shown.
use Rattle.std.specs.Prelude.{ℕ, ◌/◌, ◌%◌, ◌==◌, Bool, ◌&&◌, ◌||◌, nat_le, nat_lt, List, [], ◌∷◌, ◌++◌, codes, chars, if◌then◌else◌}
use Rattle.std.specs.List.{flat_map}
use Rattle.std.specs.Char.{digit_char, encode_utf8}

-- a control character
abbrev pub is_control : ℕ → Bool
is_control c = nat_lt c 32 || (nat_le 127 c && nat_le c 159)

-- a control character by its code
abbrev pub code_text : ℕ → List ℕ
code_text c = codes "\\u00" ++ digit_char (c / 16) ∷ digit_char (c % 16) ∷ []

-- a character as it is shown: `\"`, `\\`, `\n`, `\r`, `\t`, any other control character by its code, any other as it is
abbrev pub shown_char : ℕ → List ℕ
shown_char c =
    if c == 34 then codes "\\\"" else (if c == 92 then codes "\\\\" else (if c == 10 then codes "\\n" else (if c == 13 then codes "\\r" else (if c == 9 then codes "\\t"
    else (if is_control c then code_text c else encode_utf8 c)))))

-- a text as it is shown
abbrev pub shown : List ℕ → List ℕ
shown text = flat_map shown_char (chars text)

-- the same in quotes
abbrev pub quoted : List ℕ → List ℕ
quoted text = codes "\"" ++ shown text ++ codes "\""
