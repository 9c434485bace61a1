-- Environments.
use Rattle.std.specs.Prelude.{ℕ, Bool, not, List, [], ◌∷◌, ◌++◌, Option, Some, None, Ok, Err, unwrap_or, is_some, map, filter, nat_lt, codes, if◌then◌else◌}
use Rattle.std.specs.Str.{bytes_eq}
use Rattle.flow_types.specs.declared.flow.Pair.{Pair}
use Rattle.flow_types.specs.Plans.{env_bytes, most_command_bytes}
use Rattle.jx_meaning.specs.Values.{Value, Entry}
use Rattle.jx_flow.specs.declared.fault.JxFlowFault.TheVariants.{TooLarge}
use Rattle.jx_flow.specs.Reading.{Found, and_then, each, entries_of, text_of}

-- a variable by its key and its text
abbrev pub variable_of : Option ℕ → Entry → Found Pair
variable_of rule e = and_then (text_of rule e.0 e.1) (λ t. Ok (record { name = e.0; value = t }))

-- the variables that a field holds, none where it isn't there
abbrev pub variables_by : Option ℕ → Option Value → Found (List Pair)
variables_by rule None = Ok []
variables_by rule (Some v) = and_then (entries_of rule (codes "environment") v) (λ es. each (variable_of rule) es)

-- the first value of a variable
abbrev pub value_in : List ℕ → List Pair → Option (List ℕ)
value_in name [] = None
value_in name (p ∷ ps) = if bytes_eq p.name name then Some p.value else value_in name ps

-- a variable with the rule's own value, where it has one
abbrev pub replaced_by : List Pair → Pair → Pair
replaced_by own p = record { name = p.name; value = unwrap_or (value_in p.name own) p.value }

-- no variable of these has this name
abbrev pub is_new : List Pair → Pair → Bool
is_new general p = not (is_some (value_in p.name general))

-- a rule's own variables over those of all rules: a value of its own stands in the first place of its name
abbrev pub overlaid : List Pair → List Pair → List Pair
overlaid own general = map (replaced_by own) general ++ filter (is_new general) own

-- an environment, where it keeps its limit
abbrev pub fitting : List Pair → Found (List Pair)
fitting ps = if nat_lt most_command_bytes (env_bytes ps) then Err (TooLarge 1048576) else Ok ps

-- the environment of a rule
abbrev pub environment_of : Option ℕ → List Pair → Option Value → Found (List Pair)
environment_of rule general v = and_then (variables_by rule v) (λ own. fitting (overlaid own general))
