-- What holds of every text that is written.
use Rattle.std.specs.Prelude.{◌≡◌, ℕ, ◌^◌, ◌≤◌, true, List, [], ◌∷◌, length, Ok, decimal}
use Rattle.std.specs.Str.{is_utf8}
use Rattle.jx_tokens.specs.declared.token.Kind.TheVariants as kind
use Rattle.jx_tokens.specs.Tokens.{tokens_of}
use Rattle.jx_syntax.specs.Written.{quoted}

-- a text in quotes, as it is written, is one token, which holds that text, but for one past the limit
abbrev pub TextsReadBack : Type 0
TextsReadBack = (t : List ℕ) → is_utf8 t ≡ true → length (quoted t) ≤ 16777216 → tokens_of (quoted t) ≡ Ok (record { place = 0; kind = kind.Text t } ∷ [])

-- a number in decimal is one token, which is that number
abbrev pub NumbersReadBack : Type 0
NumbersReadBack = (n : ℕ) → n ≤ 2 ^ 63 → tokens_of (decimal n) ≡ Ok (record { place = 0; kind = kind.Number n } ∷ [])
