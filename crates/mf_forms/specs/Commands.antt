-- The command of a rule, in its expanded text.
use Rattle.std.specs.Prelude.{ℕ, Bool, not, List, if◌then◌else◌, codes, ◌||◌}
use Rattle.std.specs.Str.{bytes_eq}
use Rattle.mf_forms.specs.Words.{is_filled, first_word, behind_word}

-- the first word of a command runs it on the local place
abbrev pub is_local : List ℕ → Bool
is_local text = bytes_eq (first_word text) (codes "LOCAL")

-- a command without that word and the blanks behind it
abbrev pub command_in : List ℕ → List ℕ
command_in text = if is_local text then behind_word text else text

-- the command has no word, or its first is that of a flow inside the flow
abbrev pub is_no_command : List ℕ → Bool
is_no_command text =
    not (is_filled (first_word (command_in text))) || bytes_eq (first_word (command_in text)) (codes "MAKEFLOW")
