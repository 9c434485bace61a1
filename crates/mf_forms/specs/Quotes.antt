-- Quotes: a quotation mark opens one, which ends at the next same mark.
use Rattle.std.specs.Prelude.{ℕ, ◌-◌, Bool, true, false, not, ◌&&◌, ◌||◌, List, [], ◌∷◌, length, take, drop, slice_index, nat_lt, ◌==◌, if◌then◌else◌, Option, Some, None, is_some, fold, map, filter}
use Rattle.std.specs.List.{position_or_len}
use Rattle.mf_text.specs.Expansion.{holds}

-- a quotation mark of either kind
abbrev pub is_quote : ℕ → Bool
is_quote c = (c == 34) || (c == 39)

-- the mark that is open behind a byte
abbrev pub open_behind : Option ℕ → ℕ → Option ℕ
open_behind None c = if is_quote c then Some c else None
open_behind (Some mark) c = if c == mark then None else Some mark

-- a quote stays open at the end of the text
abbrev pub is_open_at_end : List ℕ → Bool
is_open_at_end text = is_some (fold open_behind None text)

-- where a byte stands: outside quotes, inside one, or as the mark that opens or closes one
pub data Place : Type 0 where
  bare : Place
  quoted : Place
  mark : Place

-- the place of a byte behind this open mark
abbrev pub place_behind : Option ℕ → ℕ → Place
place_behind None c = if is_quote c then mark else bare
place_behind (Some m) c = if c == m then mark else quoted

-- the bytes of a text with their places, where this mark is open before it
abbrev pub placed_behind : Option ℕ → List ℕ → List (ℕ × Place)
placed_behind m [] = []
placed_behind m (c ∷ more) = (c, place_behind m c) ∷ placed_behind (open_behind m c) more

-- the bytes of a text with their places
abbrev pub placed : List ℕ → List (ℕ × Place)
placed text = placed_behind None text

-- outside quotes
abbrev pub is_bare : Place → Bool
is_bare bare = true
is_bare _ = false

-- a mark that opens or closes a quote
abbrev pub is_mark : Place → Bool
is_mark mark = true
is_mark _ = false

-- one of these bytes outside quotes
abbrev pub is_bare_among : List ℕ → ℕ × Place → Bool
is_bare_among wanted b = is_bare b.1 && holds b.0 wanted

-- where the first of these bytes outside quotes stands, the text's end where there is none
abbrev pub bare_position : List ℕ → List ℕ → ℕ
bare_position wanted text = position_or_len (is_bare_among wanted) (placed text)

-- bytes without the quotation marks among them
abbrev pub without_marks : List (ℕ × Place) → List ℕ
without_marks bytes = map (λ (b : ℕ × Place). b.0) (filter (λ (b : ℕ × Place). not (is_mark b.1)) bytes)

-- one pair of equal quotation marks encloses the text
abbrev pub is_enclosed : List ℕ → Bool
is_enclosed text = nat_lt 1 (length text) && is_quote (slice_index text 0) && (slice_index text 0 == slice_index text (length text - 1))

-- the text less one pair of equal quotation marks that encloses it
abbrev pub unquoted : List ℕ → List ℕ
unquoted text = if is_enclosed text then take (length text - 2) (drop 1 text) else text
