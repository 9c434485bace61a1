-- The expansion of a text: the pieces that it consists of, and what they become.
use Rattle.std.specs.Prelude.{ℕ, suc, zero, ◌+◌, ◌-◌, Bool, true, false, List, [], ◌∷◌, ◌++◌, length, take, nat_lt, ◌==◌, if◌then◌else◌, Option, Some, None, Result, Ok, Err, unwrap_or}
use Rattle.std.specs.List.{flat_map, list_any, position_or_len, before_first, take_while, prefix_len}
use Rattle.std.specs.Fmt.Cut.{floor_char_boundary}
use Rattle.mf_text.specs.declared.fault.MakeFault.{MakeFault}
use Rattle.mf_text.specs.declared.fault.MakeFault.TheVariants.{UnknownName, OpenParen, TooLarge}
use Rattle.mf_text.specs.declared.output.Expanded.{Expanded}
use Rattle.mf_text.specs.Names.{begins_name, continues_name, is_variable}

-- A text's pieces, in order.
pub data Piece : Type 0 where
  -- a byte that is no dollar
  plain : ℕ → Piece
  -- a dollar that stands for itself: `$$`, and one before anything that it doesn't expand
  dollar : Piece
  -- `$NAME`, `$(NAME)` or `${NAME}`, with the text that is to be a name
  named : List ℕ → Piece
  -- `$(` or `${` without its closing mark
  unclosed : Piece

-- the text holds the byte
abbrev pub holds : ℕ → List ℕ → Bool
holds c text = list_any (λ b. b == c) text

-- the piece of an opening mark with these bytes behind it, and how many of them it takes
abbrev pub between : ℕ → List ℕ → Piece × ℕ
between close behind =
    if holds close behind then (named (before_first (λ b. b == close) behind), position_or_len (λ b. b == close) behind + 1)
    else (unclosed, 0)

-- the same piece, which takes the mark too
abbrev pub with_mark : Piece × ℕ → Piece × ℕ
with_mark piece = (piece.0, suc piece.1)

-- the piece of a dollar with these bytes behind it, and how many of them it takes
abbrev pub after_dollar : List ℕ → Piece × ℕ
after_dollar [] = (dollar, 0)
after_dollar (c ∷ behind) =
    if c == 36 then (dollar, 1)
    else (if c == 40 then with_mark (between 41 behind)
    else (if c == 123 then with_mark (between 125 behind)
    else (if begins_name c then (named (take_while continues_name (c ∷ behind)), prefix_len continues_name (c ∷ behind))
    else (dollar, 0))))

-- the pieces of a text less its first n bytes
unfoldable pub pieces_from : ℕ → List ℕ → List Piece
pieces_from n [] = []
pieces_from (suc n) (b ∷ behind) = pieces_from n behind
pieces_from zero (b ∷ behind) =
    if b == 36 then ((after_dollar behind).0 ∷ pieces_from (after_dollar behind).1 behind)
    else (plain b ∷ pieces_from 0 behind)

-- the pieces of a text, from left to right
abbrev pub pieces : List ℕ → List Piece
pieces text = pieces_from 0 text

-- whether a piece lacks its closing mark
abbrev pub is_unclosed : Piece → Bool
is_unclosed unclosed = true
is_unclosed _ = false

-- a text of at most 16,777,216 bytes, none where it has more
abbrev pub limited : List ℕ → Option (List ℕ)
limited text = if nat_lt 16777216 (length text) then None else Some text

-- the text, where it has no value
abbrev pub without_value : List ℕ → Option (List ℕ) → List (List ℕ)
without_value text None = text ∷ []
without_value text (Some v) = []

-- the whole characters at the beginning of a longer text that have at most this many bytes
abbrev pub front : ℕ → List ℕ → List ℕ
front room text = take (floor_char_boundary text room) text

module _ (value : List ℕ → Option (List ℕ)) where
  -- the value of the name that a text is, none where it is no name
  abbrev pub value_in : List ℕ → Option (List ℕ)
  value_in text = if is_variable text then value text else None

  -- the text that has no value, if the piece asks for one
  abbrev pub unknown_in : Piece → List (List ℕ)
  unknown_in (named text) = without_value text (value_in text)
  unknown_in _ = []

  -- what a piece becomes
  abbrev pub becomes : Piece → List ℕ
  becomes (plain b) = b ∷ []
  becomes dollar = 36 ∷ []
  becomes (named text) = unwrap_or (value_in text) []
  becomes unclosed = []

  -- what pieces become where their values may have this many bytes; what passes them is left out, by whole characters
  abbrev pub shortened : ℕ → List Piece → List ℕ
  shortened room [] = []
  shortened room (plain b ∷ more) = b ∷ shortened room more
  shortened room (dollar ∷ more) = 36 ∷ shortened room more
  shortened room (unclosed ∷ more) = shortened room more
  shortened room (named text ∷ more) =
      if nat_lt room (length (becomes (named text))) then (front room (becomes (named text)) ++ shortened 0 more)
      else (becomes (named text) ++ shortened (room - length (becomes (named text))) more)

-- the least fault by its number, the leftmost unknown text first; without a fault what was made, if it keeps the limit
abbrev pub settled : {X : Type 0} → ℕ → List (List ℕ) → Bool → Option X → Result X MakeFault
settled line (name ∷ names) is_open made = Err (UnknownName line name)
settled line [] true made = Err (OpenParen line)
settled line [] false None = Err (TooLarge 16777216)
settled line [] false (Some x) = Ok x

-- a text of the line, expanded once from left to right by the values of names
abbrev pub expansion : (List ℕ → Option (List ℕ)) → ℕ → List ℕ → Result (List ℕ) MakeFault
expansion value line text =
    settled line (flat_map (unknown_in value) (pieces text)) (list_any is_unclosed (pieces text)) (limited (flat_map (becomes value) (pieces text)))

-- the same with values of at most 16,777,216 bytes together, and whether the whole text has more
abbrev pub shortened_expansion : (List ℕ → Option (List ℕ)) → ℕ → List ℕ → Result Expanded MakeFault
shortened_expansion value line text =
    settled line (flat_map (unknown_in value) (pieces text)) (list_any is_unclosed (pieces text)) (Some (record {
      text = shortened value 16777216 (pieces text);
      is_too_large = nat_lt 16777216 (length (flat_map (becomes value) (pieces text)));
    }))
