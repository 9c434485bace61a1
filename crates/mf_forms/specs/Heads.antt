-- The outputs and inputs that the head of a rule names, in its expanded text.
use Rattle.std.specs.Prelude.{ℕ, ◌+◌, Bool, ◌&&◌, List, [], ◌∷◌, length, take, drop, map, slice_index, nat_lt, ◌==◌, if◌then◌else◌, Option, Some, None, codes}
use Rattle.std.specs.Option.{option_map}
use Rattle.flow_types.specs.declared.flow.RawFile.{RawFile}
use Rattle.mf_forms.specs.declared.heads.HeadFiles.{HeadFiles}
use Rattle.mf_forms.specs.Words.{is_blank, is_filled, runs}
use Rattle.mf_forms.specs.Quotes.{Place, placed, is_bare, bare_position, without_marks}

-- a blank outside quotes
abbrev pub is_gap : ℕ × Place → Bool
is_gap b = is_bare b.1 && is_blank b.0

-- the items that blanks outside quotes part, each without its quotation marks
abbrev pub items : List ℕ → List (List ℕ)
items text = map without_marks (runs is_gap (placed text))

-- what stands before and behind the first `->`
abbrev pub around_arrow : List ℕ → Option (List ℕ × List ℕ)
around_arrow [] = None
around_arrow (c ∷ more) =
    if (c == 45) && (slice_index more 0 == 62) then Some ([], drop 1 more)
    else option_map (λ (parts : List ℕ × List ℕ). (c ∷ parts.0, parts.1)) (around_arrow more)

-- the remote name that follows an arrow, if one does
abbrev pub remote_of : List ℕ → Option (List ℕ)
remote_of text = if is_filled text then Some text else None

-- a file by what stands around its arrow, without one under its own name
abbrev pub file_by : List ℕ → Option (List ℕ × List ℕ) → RawFile
file_by item None = record { local = item; remote = None }
file_by item (Some parts) = record { local = parts.0; remote = remote_of parts.1 }

-- the file that an item names
abbrev pub file_of : List ℕ → RawFile
file_of item = file_by item (around_arrow item)

-- the files that the items of a text name
abbrev pub files_in : List ℕ → List RawFile
files_in text = map file_of (items text)

-- the outputs before the first colon outside quotes and the inputs behind it, none without a colon
abbrev pub files_of_head : List ℕ → Option HeadFiles
files_of_head text =
    let colon : ℕ = bare_position (codes ":") text in
    if nat_lt colon (length text)
    then Some (record { outputs = files_in (take colon text); inputs = files_in (drop (colon + 1) text) })
    else None
