-- The logical lines of a text.
use Rattle.std.specs.Prelude.{ℕ, ◌+◌, ◌-◌, Bool, List, [], ◌∷◌, ◌++◌, length, take, slice_index, nat_lt, ◌==◌, if◌then◌else◌, Option, Some, None, Result, Ok, Err, string_bytes}
use Rattle.std.specs.Str.{is_utf8}
use Rattle.std.specs.Str.Lossy.{utf8_valid_len}
use Rattle.std.specs.Str.Lines.{lines}
use Rattle.mf_text.specs.declared.fault.MakeFault.{MakeFault}
use Rattle.mf_text.specs.declared.fault.MakeFault.TheVariants.{NotUtf8, TooLarge}
use Rattle.mf_text.specs.declared.lines.Line.{Line}
use Rattle.mf_text.specs.declared.lines.Open.{Open}

-- a physical line that ends in a backslash goes on in the next one
abbrev pub goes_on : List ℕ → Bool
goes_on line = slice_index line (length line - 1) == 92

-- the line without that backslash
abbrev pub body : List ℕ → List ℕ
body line = if goes_on line then take (length line - 1) line else line

-- a text that begins at line n, joined by one space with the first of the logical lines behind it
abbrev pub continued : ℕ → List ℕ → List Line → List Line
continued n text [] = record { number = n; text = text } ∷ []
continued n text (next ∷ more) = record { number = n; text = text ++ 32 ∷ next.text } ∷ more

-- the logical lines of physical lines of which the first has the number n
unfoldable pub joined : ℕ → List (List ℕ) → List Line
joined n [] = []
joined n (line ∷ more) =
    if goes_on line then continued n (body line) (joined (n + 1) more)
    else (record { number = n; text = line } ∷ joined (n + 1) more)

-- the logical lines of a text, or why it has none
abbrev pub lines_of : List ℕ → Result (List Line) MakeFault
lines_of text =
    if nat_lt 16777216 (length text) then Err (TooLarge 16777216)
    else (if is_utf8 text then Ok (joined 1 (lines text)) else Err (NotUtf8 (utf8_valid_len text)))

-- the logical lines behind what is open
abbrev pub finished : Option Open → List Line → List Line
finished None rest = rest
finished (Some open_line) rest = continued open_line.number (string_bytes open_line.text) rest
