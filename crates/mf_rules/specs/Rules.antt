-- The heads, rules and bounds that lines say. Lines before a line come the nearest first.
use Rattle.std.specs.Prelude.{ℕ, List, [], ◌∷◌, ◌++◌, Option, Some, None, unwrap_or}
use Rattle.std.specs.Option.{option_to_list}
use Rattle.flow_types.specs.declared.flow.RawRule.{RawRule}
use Rattle.flow_types.specs.declared.flow.SizeBound.{SizeBound}
use Rattle.mf_forms.specs.declared.form.Form.{Form}
use Rattle.mf_forms.specs.declared.form.Form.TheVariants as form
use Rattle.mf_forms.specs.declared.heads.HeadFiles.{HeadFiles}
use Rattle.mf_forms.specs.Commands.{is_local, command_in}
use Rattle.mf_forms.specs.Heads.{files_of_head}
use Rattle.mf_forms.specs.Numbers.{bound_in}
use Rattle.mf_rules.specs.declared.steps.Formed.{Formed}
use Rattle.mf_rules.specs.declared.drafts.Head.{Head}
use Rattle.mf_rules.specs.declared.drafts.Draft.{Draft}
use Rattle.mf_rules.specs.Values.{or_text, expanded_at, environment_at}
use Rattle.mf_rules.specs.Categories.{category_at, needs_at}

-- the files of a head, none where it has no colon
abbrev pub or_no_files : Option HeadFiles → HeadFiles
or_no_files files = unwrap_or files (record { outputs = []; inputs = [] })

module _ (env : List (List ℕ × List ℕ)) where
  -- the head that waits for its command behind a line, where this one waited before it
  abbrev pub head_by : Form → ℕ → List Formed → Option Head → Option Head
  head_by (form.Head text) number earlier before = Some (record {
    place = number;
    files = or_no_files (files_of_head (or_text (expanded_at env earlier number text)));
    category = category_at env earlier;
  })
  head_by (form.Command text) number earlier before = None
  head_by _ number earlier before = before

  -- the head that waits for its command behind these lines
  abbrev pub head_at : List Formed → Option Head
  head_at [] = None
  head_at (line ∷ earlier) = head_by line.form line.number earlier (head_at earlier)

  -- the rule that a head and the expanded text of a command make
  abbrev pub draft_of : Option Head → List ℕ → List Formed → List Draft
  draft_of None text earlier = []
  draft_of (Some head) text earlier = record {
    head = head;
    command = command_in text;
    local = is_local text;
    env = environment_at env earlier;
  } ∷ []

  -- the rules that a line adds, all but what they need
  abbrev pub drafts_by : Form → ℕ → List Formed → List Draft
  drafts_by (form.Command text) number earlier = draft_of (head_at earlier) (or_text (expanded_at env earlier number text)) earlier
  drafts_by _ number earlier = []

  -- the rules behind these lines, all but what they need
  abbrev pub drafts_at : List Formed → List Draft
  drafts_at [] = []
  drafts_at (line ∷ earlier) = drafts_at earlier ++ drafts_by line.form line.number earlier

  -- the whole rule, with what its category needs at the end of the text
  abbrev pub rule_of : List Formed → Draft → RawRule
  rule_of whole draft = record {
    place = draft.head.place;
    outputs = draft.head.files.outputs;
    inputs = draft.head.files.inputs;
    command = draft.command;
    local = draft.local;
    needs = needs_at env draft.head.category whole;
    env = draft.env;
  }

  -- the bounds that a line adds
  abbrev pub bounds_by : Form → ℕ → List Formed → List SizeBound
  bounds_by (form.SizeBound text) number earlier = option_to_list (bound_in (or_text (expanded_at env earlier number text)))
  bounds_by _ number earlier = []

  -- the bounds behind these lines
  abbrev pub bounds_at : List Formed → List SizeBound
  bounds_at [] = []
  bounds_at (line ∷ earlier) = bounds_at earlier ++ bounds_by line.form line.number earlier
