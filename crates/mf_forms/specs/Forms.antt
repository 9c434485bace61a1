-- The form of a line, which its own text decides.
use Rattle.std.specs.Prelude.{ℕ, Bool, true, false, not, ◌&&◌, List, length, take, drop, slice_index, nat_lt, ◌==◌, if◌then◌else◌, Option, Some, None, codes}
use Rattle.std.specs.List.{take_while, list_all}
use Rattle.std.specs.Option.{option_map}
use Rattle.std.specs.Str.{bytes_eq}
use Rattle.mf_text.specs.Names.{continues_name, is_variable}
use Rattle.mf_forms.specs.declared.form.Resource.{Resource}
use Rattle.mf_forms.specs.declared.form.Resource.TheVariants.{Cores, Memory, Disk}
use Rattle.mf_forms.specs.declared.form.Form.{Form}
use Rattle.mf_forms.specs.declared.form.Form.TheVariants.{Passed, OpenQuote, Command, Assignment, Marking, Category, Amount, SizeBound, Head}
use Rattle.mf_forms.specs.Words.{is_blank, is_filled, without_front, without_end, trimmed, words, first_word, behind_word}
use Rattle.mf_forms.specs.Quotes.{is_open_at_end, bare_position, unquoted}

-- a line before its comment
abbrev pub uncommented : List ℕ → List ℕ
uncommented text = take (bare_position (codes "#") text) text

-- the name that a text begins with
abbrev pub leading_name : List ℕ → List ℕ
leading_name text = take_while continues_name text

-- whether an assignment's sign puts the value behind the old one, and what follows the sign
abbrev pub behind_sign : List ℕ → Option (Bool × List ℕ)
behind_sign text =
    if slice_index text 0 == 61 then Some (false, drop 1 text)
    else (if (slice_index text 0 == 43) && (slice_index text 1 == 61) then Some (true, drop 2 text)
    else None)

-- the value's text of an assignment: its blanks at both ends and one pair of quotes taken off
abbrev pub value_text : List ℕ → List ℕ
value_text text = unquoted (trimmed text)

-- `NAME=value` or `NAME+=value`
abbrev pub as_assignment : Bool → List ℕ → Option Form
as_assignment marks text =
    if is_variable (leading_name text)
    then option_map (λ (sign : Bool × List ℕ). Assignment marks (leading_name text) sign.0 (value_text sign.1))
    (behind_sign (without_front (drop (length (leading_name text)) text)))
    else None

-- the first of two that there is
abbrev pub or_else : {A : Type 0} → Option A → Option A → Option A
or_else None other = other
or_else (Some a) other = Some a

-- names alone
abbrev pub as_marking : List ℕ → Option Form
as_marking text = if nat_lt 0 (length (words text)) && list_all is_variable (words text) then Some (Marking (words text)) else None

-- the text begins with this word, with no blank before it
abbrev pub begins_with_word : List ℕ → List ℕ → Bool
begins_with_word word text = not (is_blank (slice_index text 0)) && bytes_eq (first_word text) word

-- `export NAME=value`, or `export` and names
abbrev pub as_export : List ℕ → Option Form
as_export text =
    if begins_with_word (codes "export") text
    then or_else (as_assignment true (behind_word text)) (as_marking (behind_word text)) else None

-- the resource of which a key states an amount
abbrev pub resource_of : List ℕ → Option Resource
resource_of key =
    if bytes_eq key (codes "CORES") then Some Cores
    else (if bytes_eq key (codes "MEMORY") then Some Memory
    else (if bytes_eq key (codes "DISK") then Some Disk
    else None))

-- an amount of the resource, where there is one
abbrev pub amount_of : Option Resource → List ℕ → Form
amount_of None argument = Passed
amount_of (Some resource) argument = Amount resource argument

-- what a key behind `.MAKEFLOW` and its argument say
abbrev pub setting_of : List ℕ → List ℕ → Form
setting_of key argument =
    if not (is_filled argument) then Passed
    else (if bytes_eq key (codes "CATEGORY") then Category argument
    else amount_of (resource_of key) argument)

-- what follows the first word, without the blanks around it
abbrev pub argument_in : List ℕ → List ℕ
argument_in text = without_end (behind_word text)

-- `.MAKEFLOW key argument`, or `.SIZE name number`
abbrev pub as_setting : List ℕ → Option Form
as_setting text =
    if begins_with_word (codes ".MAKEFLOW") text
    then Some (setting_of (first_word (behind_word text)) (argument_in (behind_word text)))
    else (if begins_with_word (codes ".SIZE") text then Some (SizeBound (argument_in text))
    else None)

-- the form that was found, else a head
abbrev pub form_or_head : List ℕ → Option Form → Form
form_or_head text None = Head text
form_or_head text (Some form) = form

-- the form of a line that begins with no tab, by its text before the comment, whether a quote stays open in it or not
abbrev pub bare_form : List ℕ → Form
bare_form text =
    if not (is_filled (trimmed text)) then Passed
    else form_or_head text (or_else (as_assignment false text) (or_else (as_export text) (as_setting text)))

-- the form is that of a head
abbrev pub is_head : Form → Bool
is_head (Head text) = true
is_head _ = false

-- the form of a line that begins with no tab, by its text before the comment
abbrev pub plain_form : List ℕ → Form
plain_form text = if is_open_at_end text then OpenQuote (is_head (bare_form text)) else bare_form text

-- the form of a line that begins with a tab, by its text without the blanks at both ends
abbrev pub tab_form : List ℕ → Form
tab_form inside = if not (is_filled inside) then Passed else (if slice_index inside 0 == 35 then Passed else Command inside)

-- the form of a line
abbrev pub form_of : List ℕ → Form
form_of text = if slice_index text 0 == 9 then tab_form (trimmed text) else plain_form (uncommented text)
