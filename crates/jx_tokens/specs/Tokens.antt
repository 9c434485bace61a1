-- The tokens of a text.
use Rattle.std.specs.Prelude.{ℕ, suc, zero, ◌+◌, ◌-◌, ◌*◌, Bool, false, ◌&&◌, ◌||◌, ◌==◌, nat_lt, List, [], ◌∷◌, length, take, drop, slice_index, codes, fold, Option, Some, None, Result, Ok, Err, if◌then◌else◌}
use Rattle.std.specs.Char.{is_ascii_digit}
use Rattle.std.specs.List.{prefix_len}
use Rattle.std.specs.Str.{bytes_eq, is_utf8}
use Rattle.std.specs.Str.Lossy.{utf8_valid_len}
use Rattle.jx_tokens.specs.declared.fault.JxFault.{JxFault}
use Rattle.jx_tokens.specs.declared.fault.JxFault.TheVariants.{NotUtf8, Unexpected, OpenText, FloatUnsupported, IntTooWide, TooLarge}
use Rattle.jx_tokens.specs.declared.token.Kind.{Kind}
use Rattle.jx_tokens.specs.declared.token.Kind.TheVariants as kind
use Rattle.jx_tokens.specs.declared.token.Piece.{Piece}
use Rattle.jx_tokens.specs.declared.token.Piece.TheVariants as piece
use Rattle.jx_tokens.specs.declared.token.Token.{Token}
use Rattle.jx_tokens.specs.Bytes.{is_blank, in_line, begins_name, in_name}
use Rattle.jx_tokens.specs.Texts.{closing, content}

-- how many bytes a piece takes
abbrev pub size : Piece → ℕ
size (piece.Gap n) = n
size (piece.Token k n) = n

-- ---- numbers

-- the number that decimal digits write
abbrev pub decimal_value : List ℕ → ℕ
decimal_value digits = fold (λ n d. n * 10 + (d - 48)) 0 digits

-- what stands behind a run of digits makes it a number with a fraction or an exponent
abbrev pub goes_on_as_float : List ℕ → Bool
goes_on_as_float behind =
    (slice_index behind 0 == 101) || (slice_index behind 0 == 69) || ((slice_index behind 0 == 46) && is_ascii_digit (slice_index behind 1))

-- the number at the front of a text whose first byte is a digit
unfoldable pub number : ℕ → List ℕ → Result Piece JxFault
number at bs =
    let n = prefix_len is_ascii_digit bs in
    if goes_on_as_float (drop n bs) then Err (FloatUnsupported at)
    else (if nat_lt 9223372036854775808 (decimal_value (take n bs)) then Err (IntTooWide at)
    else Ok (piece.Token (kind.Number (decimal_value (take n bs))) n))

-- ---- words

-- a reserved word, or a name
unfoldable pub word : List ℕ → Kind
word w =
    if bytes_eq w (codes "null") then kind.Null else (if bytes_eq w (codes "true") then kind.True else (if bytes_eq w (codes "false") then kind.False
    else (if bytes_eq w (codes "for") then kind.For else (if bytes_eq w (codes "in") then kind.In else (if bytes_eq w (codes "if") then kind.If
    else (if bytes_eq w (codes "and") then kind.And else (if bytes_eq w (codes "or") then kind.Or else (if bytes_eq w (codes "not") then kind.Not
    else kind.Name w))))))))

-- the longest word at the front of a text
unfoldable pub name : List ℕ → Piece
name bs = let n = prefix_len in_name bs in piece.Token (word (take n bs)) n

-- ---- marks

-- a mark of one byte: `(` `)` `[` `]` `{` `}` `,` `:` `+` `-` `*` `/` `%`
abbrev pub single : ℕ → Option Kind
single b =
    if b == 40 then Some kind.OpenGroup else (if b == 41 then Some kind.CloseGroup else (if b == 91 then Some kind.OpenList
    else (if b == 93 then Some kind.CloseList else (if b == 123 then Some kind.OpenObject else (if b == 125 then Some kind.CloseObject
    else (if b == 44 then Some kind.Comma else (if b == 58 then Some kind.Colon else (if b == 43 then Some kind.Plus
    else (if b == 45 then Some kind.Minus else (if b == 42 then Some kind.Times else (if b == 47 then Some kind.Over
    else (if b == 37 then Some kind.Rest else None))))))))))))

-- a mark of two bytes: `||` `&&` `==` `!=` `<=` `>=`
abbrev pub double : ℕ → ℕ → Option Kind
double b next =
    if (b == 124) && (next == 124) then Some kind.Or else (if (b == 38) && (next == 38) then Some kind.And
    else (if (b == 61) && (next == 61) then Some kind.Equal else (if (b == 33) && (next == 61) then Some kind.Unequal
    else (if (b == 60) && (next == 61) then Some kind.AtMost else (if (b == 62) && (next == 61) then Some kind.AtLeast else None)))))

-- a mark of one byte that also begins a longer one: `!` `<` `>`
abbrev pub shorter : ℕ → Option Kind
shorter b = if b == 33 then Some kind.Not else (if b == 60 then Some kind.Less else (if b == 62 then Some kind.More else None))

-- the first of them that there is
abbrev pub first_mark : Option Kind → Option Kind → Option Kind → Option Piece
first_mark (Some k) two short = Some (piece.Token k 1)
first_mark None (Some k) short = Some (piece.Token k 2)
first_mark None None (Some k) = Some (piece.Token k 1)
first_mark None None None = None

-- the longest mark at the front of a text of which these are the first two bytes
unfoldable pub mark : ℕ → ℕ → Option Piece
mark b next = first_mark (single b) (double b next) (shorter b)

-- the mark, or the fault that there is none
abbrev pub marked : ℕ → Option Piece → Result Piece JxFault
marked at (Some p) = Ok p
marked at None = Err (Unexpected at)

-- ---- texts

-- a text of these bytes, its closing quote counted
abbrev pub text_piece : ℕ → Result (List ℕ) JxFault → Result Piece JxFault
text_piece n (Ok held) = Ok (piece.Token (kind.Text held) (n + 2))
text_piece n (Err e) = Err e

-- the text up to its closing quote
abbrev pub quoted : ℕ → List ℕ → Option ℕ → Result Piece JxFault
quoted at bs None = Err (OpenText at)
quoted at bs (Some n) = text_piece n (content 0 (at + 1) (take n bs))

-- the text whose opening quote is at this place, with these bytes behind the quote
unfoldable pub literal : ℕ → List ℕ → Result Piece JxFault
literal at bs = quoted at bs (closing false bs)

-- ---- whole texts

-- what stands at the front of a text that goes on, at this place, with these bytes
unfoldable pub front : ℕ → List ℕ → Result Piece JxFault
front at bs =
    let b = slice_index bs 0 in
    if is_blank b then Ok (piece.Gap 1)
    else (if b == 35 then Ok (piece.Gap (prefix_len in_line bs))
    else (if is_ascii_digit b then number at bs
    else (if begins_name b then Ok (name bs)
    else (if b == 34 then literal at (drop 1 bs)
    else marked at (mark b (slice_index bs 1))))))

-- the tokens up to the first fault, and that fault
pub record Scan : Type 0 where
  pub tokens : List Token
  pub fault : Option JxFault

-- what stands here, before what stands behind it
abbrev pub onto : ℕ → Result Piece JxFault → (ℕ → Scan) → Scan
onto at (Ok (piece.Gap n)) behind = behind (n - 1)
onto at (Ok (piece.Token k n)) behind = let s = behind (n - 1) in record { tokens = record { place = at; kind = k } ∷ s.tokens; fault = s.fault }
onto at (Err e) behind = record { tokens = []; fault = Some e }

-- the tokens of the bytes from this place on, behind so many that are read already
unfoldable pub scan : ℕ → ℕ → List ℕ → Scan
scan skip at [] = record { tokens = []; fault = None }
scan (suc k) at (b ∷ bs) = scan k (at + 1) bs
scan zero at (b ∷ bs) = onto at (front at (b ∷ bs)) (λ k. scan k (at + 1) bs)

-- the fault of a text that stops being UTF-8 at this place: an earlier one stands, but for a text in quotes that is cut off there
abbrev pub cut_off : ℕ → JxFault → JxFault
cut_off n (OpenText at) = NotUtf8 n
cut_off n e = e

-- the fault of a text that stops being UTF-8 at this place, from that of what stands before it
abbrev pub cut_fault : ℕ → Option JxFault → JxFault
cut_fault n None = NotUtf8 n
cut_fault n (Some e) = cut_off n e

-- the tokens of a whole text up to its first fault, and that fault
unfoldable pub scan_of : List ℕ → Scan
scan_of text =
    if nat_lt 16777216 (length text) then record { tokens = []; fault = Some TooLarge }
    else (if is_utf8 text then scan 0 0 text
    else (let s = scan 0 0 (take (utf8_valid_len text) text) in record { tokens = s.tokens; fault = Some (cut_fault (utf8_valid_len text) s.fault) }))

-- the tokens where there is no fault
abbrev pub result_of : List Token → Option JxFault → Result (List Token) JxFault
result_of ts None = Ok ts
result_of ts (Some e) = Err e

-- the tokens of a text, or its first fault
abbrev pub tokens_of : List ℕ → Result (List Token) JxFault
tokens_of text = result_of (scan_of text).tokens (scan_of text).fault
