-- The values of names at a line, and the environment of its command. Lines before it come the nearest first.
use Rattle.std.specs.Prelude.{ℕ, Bool, true, List, [], ◌∷◌, if◌then◌else◌, Option, Some, None, Result, Ok, Err}
use Rattle.std.specs.List.{flat_map}
use Rattle.std.specs.Str.{bytes_eq}
use Rattle.flow_types.specs.declared.flow.Pair.{Pair}
use Rattle.mf_text.specs.declared.fault.MakeFault.{MakeFault}
use Rattle.mf_text.specs.declared.output.Expanded.{Expanded}
use Rattle.mf_text.specs.Names.{behind_old}
use Rattle.mf_text.specs.Expansion.{expansion, shortened_expansion}
use Rattle.mf_forms.specs.declared.form.Form.{Form}
use Rattle.mf_forms.specs.declared.form.Form.TheVariants as form
use Rattle.mf_rules.specs.declared.steps.Formed.{Formed}
use Rattle.mf_rules.specs.Tables.{set_of, names_in, pairs_of}

-- the value of the first pair of a name
abbrev pub first_pair : List (List ℕ × List ℕ) → List ℕ → Option (List ℕ)
first_pair [] name = None
first_pair (pair ∷ more) name = if bytes_eq pair.0 name then Some pair.1 else first_pair more name

-- the text, empty for a fault
abbrev pub or_text : Result (List ℕ) MakeFault → List ℕ
or_text (Ok text) = text
or_text (Err fault) = []

-- a value of the text, or else the given one
abbrev pub or_given : Option (List ℕ) → Option (List ℕ) → Option (List ℕ)
or_given None given = given
or_given (Some value) given = Some value

-- the names that a line marks
abbrev pub marked_by : Form → List (List ℕ)
marked_by (form.Assignment true name appends text) = name ∷ []
marked_by (form.Marking names) = names
marked_by _ = []

-- the names that are marked behind these lines
abbrev pub marked_at : List Formed → List (List ℕ)
marked_at earlier = flat_map (λ line. marked_by line.form) earlier

module _ (env : List (List ℕ × List ℕ)) where
  -- a name's value by the text, or else by the environment
  abbrev pub with_given : (List ℕ → Option (List ℕ)) → List ℕ → Option (List ℕ)
  with_given values x = or_given (values x) (first_pair env x)

  -- the value that an assignment gives, by the values that the text gave before
  abbrev pub assigned : (List ℕ → Option (List ℕ)) → List ℕ → Bool → ℕ → List ℕ → List ℕ
  assigned old name appends number text =
      behind_old (if appends then old name else None) (or_text (expansion (with_given old) number text))

  -- what a line makes of the values that the text gave before
  abbrev pub set_by : Form → ℕ → (List ℕ → Option (List ℕ)) → List ℕ → Option (List ℕ)
  set_by (form.Assignment marks name appends text) number old x =
      if bytes_eq name x then Some (assigned old name appends number text) else old x
  set_by _ number old x = old x

  -- the value that the text gives a name: that of the last assignment, where `+=` stands on the one before
  abbrev pub text_value : List Formed → List ℕ → Option (List ℕ)
  text_value [] x = None
  text_value (line ∷ earlier) x = set_by line.form line.number (text_value earlier) x

  -- the value of a name, by the text or else by the environment
  abbrev pub value_at : List Formed → List ℕ → Option (List ℕ)
  value_at earlier x = with_given (text_value earlier) x

  -- a text of a line, expanded by the values there
  abbrev pub expanded_at : List Formed → ℕ → List ℕ → Result (List ℕ) MakeFault
  expanded_at earlier number text = expansion (value_at earlier) number text

  -- the same text as far as the limit of values goes, by which other faults of its line are told
  abbrev pub made_at : List Formed → ℕ → List ℕ → Result Expanded MakeFault
  made_at earlier number text = shortened_expansion (value_at earlier) number text

  -- the marked names, each once and in byte order, with their values
  abbrev pub environment_at : List Formed → List Pair
  environment_at earlier = pairs_of (value_at earlier) (names_in (set_of (marked_at earlier)))
