-- The faults of each line, and the first of a text. Lines before a line come the nearest first.
use Rattle.std.specs.Prelude.{ℕ, Bool, true, false, not, List, [], ◌∷◌, ◌++◌, length, nat_lt, nat_le, if◌then◌else◌, Option, Some, None, Result, Ok, Err, is_some}
use Rattle.mf_text.specs.declared.fault.MakeFault.{MakeFault}
use Rattle.mf_text.specs.declared.output.Expanded.{Expanded}
use Rattle.mf_text.specs.declared.fault.MakeFault.TheVariants.{NotUtf8, OpenQuote, UnknownName, OpenParen, NoColon, NoCommand, StrayCommand, BadNumber, TooLarge, Memory}
use Rattle.mf_forms.specs.declared.form.Form.{Form}
use Rattle.mf_forms.specs.declared.form.Form.TheVariants as form
use Rattle.mf_forms.specs.declared.form.Resource.{Resource}
use Rattle.mf_forms.specs.Quotes.{is_open_at_end}
use Rattle.mf_forms.specs.Forms.{or_else}
use Rattle.mf_forms.specs.Heads.{files_of_head}
use Rattle.mf_forms.specs.Commands.{command_in, is_no_command}
use Rattle.mf_forms.specs.Numbers.{bound_in}
use Rattle.mf_rules.specs.declared.steps.Formed.{Formed}
use Rattle.mf_rules.specs.Tables.{environment_size}
use Rattle.mf_rules.specs.Values.{value_at, expanded_at, made_at, environment_at}
use Rattle.mf_rules.specs.Categories.{amount_in, setting_by}
use Rattle.mf_rules.specs.Rules.{head_at}

-- the place of a fault in the order of those that stand on one line
abbrev pub rank : MakeFault → ℕ
rank (NotUtf8 at) = 1
rank (OpenQuote line) = 2
rank (UnknownName line name) = 3
rank (OpenParen line) = 4
rank (NoColon line) = 5
rank (NoCommand line) = 6
rank (StrayCommand line) = 7
rank (BadNumber line) = 8
rank (TooLarge limit) = 9
rank Memory = 10

-- the fault of the lower rank, of one rank the first
abbrev pub lower : MakeFault → Option MakeFault → Option MakeFault
lower fault None = Some fault
lower fault (Some other) = if nat_le (rank fault) (rank other) then Some fault else Some other

-- the fault of the least rank, of one rank the first
abbrev pub least : List MakeFault → Option MakeFault
least [] = None
least (fault ∷ more) = lower fault (least more)

-- the fault of an expansion
abbrev pub fault_in : Result (List ℕ) MakeFault → List MakeFault
fault_in (Ok text) = []
fault_in (Err fault) = fault ∷ []

-- the fault, where this holds
abbrev pub where_true : Bool → MakeFault → List MakeFault
where_true true fault = fault ∷ []
where_true false fault = []

-- a command comes before the next head behind a line, where it does so behind the next one
abbrev pub is_answered_by : Form → Bool → Bool
is_answered_by (form.Head text) behind = false
is_answered_by (form.OpenQuote true) behind = false
is_answered_by (form.Command text) behind = true
is_answered_by _ behind = behind

-- in these lines a command comes before the next head
abbrev pub is_answered : List Formed → Bool
is_answered [] = false
is_answered (line ∷ later) = is_answered_by line.form (is_answered later)

-- an amount that is set needs a number
abbrev pub setting_faults : ℕ → Option (Resource × List ℕ) → List MakeFault
setting_faults number None = []
setting_faults number (Some setting) = where_true (not (is_some (amount_in setting.1))) (BadNumber number)

-- the faults of an expanded head
abbrev pub head_faults : ℕ → Result Expanded MakeFault → List MakeFault
head_faults number (Err fault) = fault ∷ []
head_faults number (Ok made) =
    where_true (is_open_at_end made.text) (OpenQuote number) ++ where_true (not (is_some (files_of_head made.text))) (NoColon number)
    ++ where_true made.is_too_large (TooLarge 16777216)

-- the faults of an expanded command
abbrev pub command_faults : ℕ → Result Expanded MakeFault → List MakeFault
command_faults number (Err fault) = fault ∷ []
command_faults number (Ok made) =
    where_true (is_no_command made.text) (NoCommand number) ++ where_true made.is_too_large (TooLarge 16777216)
    ++ where_true (nat_lt 1048576 (length (command_in made.text))) (TooLarge 1048576)

-- the faults of an expanded bound
abbrev pub bound_faults : ℕ → Result Expanded MakeFault → List MakeFault
bound_faults number (Err fault) = fault ∷ []
bound_faults number (Ok made) = where_true (not (is_some (bound_in made.text))) (BadNumber number) ++ where_true made.is_too_large (TooLarge 16777216)

-- the first of these names without a value
abbrev pub first_unknown : (List ℕ → Option (List ℕ)) → ℕ → List (List ℕ) → List MakeFault
first_unknown value number [] = []
first_unknown value number (name ∷ more) =
    if is_some (value name) then first_unknown value number more else (UnknownName number name ∷ [])

module _ (env : List (List ℕ × List ℕ)) where
  -- the faults that stand on a line, behind these lines, where a command comes before the next head or not
  abbrev pub faults_by : Form → ℕ → List Formed → Bool → List MakeFault
  faults_by form.Passed number earlier answered = []
  faults_by (form.OpenQuote is_head) number earlier answered = OpenQuote number ∷ []
  faults_by (form.Command text) number earlier answered =
      command_faults number (made_at env earlier number text)
      ++ where_true (not (is_some (head_at env earlier))) (StrayCommand number)
      ++ where_true (nat_lt 1048576 (environment_size (environment_at env earlier))) (TooLarge 1048576)
  faults_by (form.Assignment marks name appends text) number earlier answered =
      fault_in (expanded_at env earlier number text)
      ++ setting_faults number (setting_by env (form.Assignment marks name appends text) number earlier)
  faults_by (form.Marking names) number earlier answered = first_unknown (value_at env earlier) number names
  faults_by (form.Category text) number earlier answered = fault_in (expanded_at env earlier number text)
  faults_by (form.Amount set text) number earlier answered =
      fault_in (expanded_at env earlier number text) ++ setting_faults number (setting_by env (form.Amount set text) number earlier)
  faults_by (form.SizeBound text) number earlier answered = bound_faults number (made_at env earlier number text)
  faults_by (form.Head text) number earlier answered =
      head_faults number (made_at env earlier number text) ++ where_true (not answered) (NoCommand number)

  -- the fault of the least rank on a line
  abbrev pub line_fault : List Formed → Formed → Bool → Option MakeFault
  line_fault earlier line answered = least (faults_by line.form line.number earlier answered)

  -- the fault of the least line, of the least rank there
  abbrev pub first_fault : List Formed → List Formed → Option MakeFault
  first_fault earlier [] = None
  first_fault earlier (line ∷ later) = or_else (line_fault earlier line (is_answered later)) (first_fault (line ∷ earlier) later)
