-- The amounts that rules and categories state.
use Rattle.std.specs.Prelude.{ℕ, List, [], ◌∷◌, Option, Some, None, Ok, Err, unwrap_or, codes, if◌then◌else◌}
use Rattle.std.specs.Str.{bytes_eq}
use Rattle.flow_types.specs.declared.numbers.Needs.{Needs}
use Rattle.flow_types.specs.declared.numbers.Needs.TheVariants.{Whole, Stated}
use Rattle.jx_meaning.specs.Values.{Value, Entry, find}
use Rattle.jx_flow.specs.declared.fault.JxFlowFault.TheVariants.{UnknownCategory}
use Rattle.jx_flow.specs.declared.amounts.Resources.{Resources}
use Rattle.jx_flow.specs.declared.amounts.Category.{Category}
use Rattle.jx_flow.specs.Reading.{Found, and_then, each, entries_of, optional_number}

-- no amount
abbrev pub unstated : Resources
unstated = record { cores = None; memory = None; disk = None }

-- the amount of an object under this key
abbrev pub amount_of : Option ℕ → List ℕ → List Entry → Found (Option ℕ)
amount_of rule name es = optional_number rule name 1000000000 es

-- the amounts of an object
abbrev pub amounts_in : Option ℕ → List Entry → Found Resources
amounts_in rule es =
    and_then (amount_of rule (codes "cores") es) (λ cores.
    and_then (amount_of rule (codes "memory") es) (λ memory.
    and_then (amount_of rule (codes "disk") es) (λ disk. Ok (record { cores = cores; memory = memory; disk = disk }))))

-- the amounts that a field holds, none where it isn't there
abbrev pub resources_by : Option ℕ → Option Value → Found Resources
resources_by rule None = Ok unstated
resources_by rule (Some v) = and_then (entries_of rule (codes "resources") v) (amounts_in rule)

-- the amounts of the field `resources`
abbrev pub resources_of : Option ℕ → List Entry → Found Resources
resources_of rule es = resources_by rule (find (codes "resources") es)

-- one amount, or another where it isn't stated
abbrev pub or_general : Option ℕ → Option ℕ → Option ℕ
or_general (Some n) general = Some n
or_general None general = general

-- a rule's own amounts over those of its category
abbrev pub over : Resources → Resources → Resources
over own general = record { cores = or_general own.cores general.cores; memory = or_general own.memory general.memory; disk = or_general own.disk general.disk }

-- what these amounts say that a rule needs: without cores one, without memory or disk none of it
abbrev pub needs_by : Option ℕ → Option ℕ → Option ℕ → Needs
needs_by None None None = Whole
needs_by c m d = Stated (record { cores = unwrap_or c 1; memory = unwrap_or m 0; disk = unwrap_or d 0 })

-- what a rule needs by its amounts
abbrev pub needs_of : Resources → Needs
needs_of r = needs_by r.cores r.memory r.disk

-- ---- categories

-- a category by its key and its object
abbrev pub category_of : Entry → Found Category
category_of e =
    and_then (entries_of None e.0 e.1) (λ es. and_then (resources_of None es) (λ resources. Ok (record { name = e.0; resources = resources })))

-- the categories of a text, none where the field isn't there
abbrev pub categories_by : Option Value → Found (List Category)
categories_by None = Ok []
categories_by (Some v) = and_then (entries_of None (codes "categories") v) (λ es. each category_of es)

-- the amounts of a category that is listed
abbrev pub listed : List ℕ → List Category → Option Resources
listed name [] = None
listed name (c ∷ cs) = if bytes_eq c.name name then Some c.resources else listed name cs

-- the amounts of a category; `default` always is one
abbrev pub known : ℕ → List ℕ → Option Resources → Found Resources
known rule name (Some resources) = Ok resources
known rule name None = if bytes_eq name (codes "default") then Ok unstated else Err (UnknownCategory rule)

-- the amounts of a rule's category
abbrev pub general_of : ℕ → List ℕ → List Category → Found Resources
general_of rule name cs = known rule name (listed name cs)
