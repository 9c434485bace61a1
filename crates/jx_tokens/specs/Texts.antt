-- Texts in quotes, with the escapes of JSON (RFC 8259, section 7).
use Rattle.std.specs.Prelude.{ℕ, suc, zero, ◌+◌, ◌-◌, ◌*◌, Bool, true, false, ◌&&◌, ◌||◌, ◌==◌, nat_lt, nat_le, List, [], ◌∷◌, ◌++◌, slice_index, Option, Some, None, option_map, Result, Ok, Err, if◌then◌else◌}
use Rattle.std.specs.Char.{digit_value, is_digit, encode_utf8}
use Rattle.jx_tokens.specs.declared.fault.JxFault.{JxFault}
use Rattle.jx_tokens.specs.declared.fault.JxFault.TheVariants.{Unexpected}

-- ---- where a text ends

-- how many bytes stand before the closing quote, where a backslash hides the byte behind it
unfoldable pub closing : Bool → List ℕ → Option ℕ
closing hidden [] = None
closing true (b ∷ bs) = option_map (λ n. n + 1) (closing false bs)
closing false (b ∷ bs) = if b == 34 then Some 0 else option_map (λ n. n + 1) (closing (b == 92) bs)

-- ---- what stands behind a backslash

-- the code unit that the four hexadecimal digits from place i on write
unfoldable pub unit_at : ℕ → List ℕ → Option ℕ
unit_at i bs =
    let a = slice_index bs i in let b = slice_index bs (i + 1) in let c = slice_index bs (i + 2) in let d = slice_index bs (i + 3) in
    if is_digit a 16 && is_digit b 16 && is_digit c 16 && is_digit d 16
    then Some (digit_value a * 4096 + digit_value b * 256 + digit_value c * 16 + digit_value d) else None

-- the first half of a pair of surrogates
abbrev pub is_high : ℕ → Bool
is_high u = nat_le 0xd800 u && nat_lt u 0xdc00

-- the second half
abbrev pub is_low : ℕ → Bool
is_low u = nat_le 0xdc00 u && nat_lt u 0xe000

-- the character of a pair
abbrev pub pair_of : ℕ → ℕ → ℕ
pair_of high low = 0x10000 + (high - 0xd800) * 1024 + (low - 0xdc00)

-- the character of one letter or mark: `"` `\` `/` `b` `f` `n` `r` `t`
abbrev pub short_escape : ℕ → Option ℕ
short_escape x =
    if (x == 34) || (x == 92) || (x == 47) then Some x else (if x == 98 then Some 8 else (if x == 102 then Some 12
    else (if x == 110 then Some 10 else (if x == 114 then Some 13 else (if x == 116 then Some 9 else None)))))

-- the character of a first half, and how many bytes write it: a second half has to follow
abbrev pub paired : List ℕ → ℕ → Option ℕ → Option (ℕ × ℕ)
paired bs high None = None
paired bs high (Some low) = if (slice_index bs 5 == 92) && (slice_index bs 6 == 117) && is_low low then Some (pair_of high low, 11) else None

-- the character of a code unit, and how many bytes write it
abbrev pub unicode : List ℕ → Option ℕ → Option (ℕ × ℕ)
unicode bs None = None
unicode bs (Some u) = if is_high u then paired bs u (unit_at 7 bs) else (if is_low u then None else Some (u, 5))

-- the character that the bytes behind a backslash write, and how many they are
unfoldable pub escape : List ℕ → Option (ℕ × ℕ)
escape bs = if slice_index bs 0 == 117 then unicode bs (unit_at 1 bs) else option_map (λ c. (c, 1)) (short_escape (slice_index bs 0))

-- ---- what a text holds

-- these bytes, and then what is read behind them
abbrev pub before : List ℕ → Result (List ℕ) JxFault → Result (List ℕ) JxFault
before xs (Ok ys) = Ok (xs ++ ys)
before xs (Err e) = Err e

-- the bytes of the character that is written so, and what is read behind it; without one the fault is at the backslash
abbrev pub escaped : ℕ → Option (ℕ × ℕ) → (ℕ → Result (List ℕ) JxFault) → Result (List ℕ) JxFault
escaped at None behind = Err (Unexpected at)
escaped at (Some e) behind = before (encode_utf8 e.0) (behind e.1)

-- what the bytes between the quotes hold, the first of them at this place, behind so many that are read already
unfoldable pub content : ℕ → ℕ → List ℕ → Result (List ℕ) JxFault
content skip at [] = Ok []
content (suc k) at (b ∷ bs) = content k (at + 1) bs
content zero at (b ∷ bs) = if b == 92 then escaped at (escape bs) (λ k. content k (at + 1) bs)
    else (if nat_lt b 32 then Err (Unexpected at) else before (b ∷ []) (content 0 (at + 1) bs))
