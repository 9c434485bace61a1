-- Categories and their amounts. Lines before a line come the nearest first.
use Rattle.std.specs.Prelude.{ℕ, Bool, true, false, ◌&&◌, List, [], ◌∷◌, if◌then◌else◌, Option, Some, None, unwrap_or, codes}
use Rattle.std.specs.Option.{option_map}
use Rattle.std.specs.Str.{bytes_eq}
use Rattle.flow_types.specs.declared.numbers.Needs.{Needs}
use Rattle.flow_types.specs.declared.numbers.Needs.TheVariants.{Whole, Stated}
use Rattle.mf_forms.specs.declared.form.Form.{Form}
use Rattle.mf_forms.specs.declared.form.Form.TheVariants as form
use Rattle.mf_forms.specs.declared.form.Resource.{Resource}
use Rattle.mf_forms.specs.declared.form.Resource.TheVariants as resource
use Rattle.mf_forms.specs.Forms.{or_else}
use Rattle.mf_forms.specs.Numbers.{number_within}
use Rattle.mf_rules.specs.declared.steps.Formed.{Formed}
use Rattle.mf_rules.specs.Values.{or_text, assigned, text_value, expanded_at}

-- the resource of which a variable sets an amount
abbrev pub resource_of : List ℕ → Option Resource
resource_of name =
    if bytes_eq name (codes "CORES") then Some resource.Cores
    else (if bytes_eq name (codes "MEMORY") then Some resource.Memory
    else (if bytes_eq name (codes "DISK") then Some resource.Disk
    else None))

-- both are one resource
abbrev pub is_same : Resource → Resource → Bool
is_same resource.Cores resource.Cores = true
is_same resource.Memory resource.Memory = true
is_same resource.Disk resource.Disk = true
is_same _ _ = false

-- the amount that a text states
abbrev pub amount_in : List ℕ → Option ℕ
amount_in text = number_within 1000000000 text

-- the amount that a category gets of a resource, where this resource's amount is set by this text in the current category
abbrev pub amount_by : Resource → List ℕ → List ℕ → Option (Resource × List ℕ) → Option ℕ
amount_by wanted name current None = None
amount_by wanted name current (Some setting) =
    if is_same wanted setting.0 && bytes_eq current name then amount_in setting.1 else None

module _ (env : List (List ℕ × List ℕ)) where
  -- the category that a line makes the current one
  abbrev pub category_by : Form → ℕ → List Formed → Option (List ℕ)
  category_by (form.Category text) number earlier = Some (or_text (expanded_at env earlier number text))
  category_by (form.Assignment marks name appends text) number earlier =
      if bytes_eq name (codes "CATEGORY") then Some (assigned env (text_value env earlier) name appends number text) else None
  category_by _ number earlier = None

  -- the current category behind these lines
  abbrev pub category_at : List Formed → List ℕ
  category_at [] = codes "default"
  category_at (line ∷ earlier) = unwrap_or (category_by line.form line.number earlier) (category_at earlier)

  -- the resource and the text of the amount that a line sets
  abbrev pub setting_by : Form → ℕ → List Formed → Option (Resource × List ℕ)
  setting_by (form.Amount set text) number earlier = Some (set, or_text (expanded_at env earlier number text))
  setting_by (form.Assignment marks name appends text) number earlier =
      option_map (λ (set : Resource). (set, assigned env (text_value env earlier) name appends number text)) (resource_of name)
  setting_by _ number earlier = None

  -- the amount that a category has behind these lines: the last one set while it was current
  abbrev pub amount_at : Resource → List ℕ → List Formed → Option ℕ
  amount_at wanted name [] = None
  amount_at wanted name (line ∷ earlier) =
      or_else (amount_by wanted name (category_at earlier) (setting_by line.form line.number earlier)) (amount_at wanted name earlier)

-- what amounts of cores, memory and disk say that a rule needs
abbrev pub needs_by : Option ℕ → Option ℕ → Option ℕ → Needs
needs_by None None None = Whole
needs_by c m d = Stated (record { cores = unwrap_or c 1; memory = unwrap_or m 0; disk = unwrap_or d 0 })

-- what the rules of a category need behind these lines
abbrev pub needs_at : List (List ℕ × List ℕ) → List ℕ → List Formed → Needs
needs_at env name lines =
    needs_by (amount_at env resource.Cores name lines) (amount_at env resource.Memory name lines) (amount_at env resource.Disk name lines)
