-- The text of a value.
use Rattle.std.specs.Prelude.{ℕ, ◌/◌, ◌%◌, ◌==◌, nat_lt, List, [], ◌∷◌, ◌++◌, codes, if◌then◌else◌, chars}
use Rattle.std.specs.List.{flat_map, join_with_byte}
use Rattle.std.specs.Char.{digit_char, encode_utf8}
use Rattle.std.specs.Fmt.{signed_decimal}
use Rattle.jx_syntax.specs.declared.value.JxValue.{JxValue}
use Rattle.jx_syntax.specs.declared.value.JxPair.{JxPair}
use Rattle.jx_syntax.specs.declared.value.JxValue.TheOpen.{JxValue-F, JxPair-F}
use Rattle.jx_syntax.specs.declared.value.JxValue.TheFolds.{fold-JxValue, fold-JxPair}

-- a character of a text: `\"`, `\\`, `\n`, `\r`, `\t`, `\u00xx` below a blank, any other as it is
abbrev pub char_text : ℕ → List ℕ
char_text c =
    if c == 34 then codes "\\\"" else (if c == 92 then codes "\\\\" else (if c == 10 then codes "\\n" else (if c == 13 then codes "\\r" else (if c == 9 then codes "\\t"
    else (if nat_lt c 32 then codes "\\u00" ++ digit_char (c / 16) ∷ digit_char (c % 16) ∷ [] else encode_utf8 c)))))

-- a text in quotes
abbrev pub quoted : List ℕ → List ℕ
quoted t = 34 ∷ (flat_map char_text (chars t) ++ 34 ∷ [])

-- pieces with commas between them
abbrev pub separated : List (List ℕ) → List ℕ
separated pieces = join_with_byte 44 pieces

-- one level of a value, with a text for each value within
abbrev pub text_step : JxValue-F (List ℕ) (List ℕ) → List ℕ
text_step JxValue-F.Null = codes "null"
text_step (JxValue-F.Truth t) = if t then codes "true" else codes "false"
text_step (JxValue-F.Number z) = signed_decimal z
text_step (JxValue-F.Text t) = quoted t
text_step (JxValue-F.List items) = 91 ∷ (separated items ++ 93 ∷ [])
text_step (JxValue-F.Object pairs) = 123 ∷ (separated pairs ++ 125 ∷ [])

-- a key in quotes, a colon and its value's text
abbrev pub pair_step : JxPair-F (List ℕ) (List ℕ) → List ℕ
pair_step p = quoted p.key ++ 58 ∷ p.value

-- the text of a value
abbrev pub value_text : JxValue → List ℕ
value_text = fold-JxValue (List ℕ) (List ℕ) text_step pair_step

-- the text of a pair
abbrev pub pair_text : JxPair → List ℕ
pair_text = fold-JxPair (List ℕ) (List ℕ) text_step pair_step
