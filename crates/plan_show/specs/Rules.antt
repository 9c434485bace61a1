-- The text of rules.
use Rattle.std.specs.Prelude.{ℕ, Bool, List, [], ◌++◌, codes, slice_get, if◌then◌else◌}
use Rattle.std.specs.List.{flat_map, enumerate_from}
use Rattle.std.specs.Option.{option_map_or}
use Rattle.std.specs.Str.{bytes_eq}
use Rattle.std.specs.Fmt.{decimal}
use Rattle.flow_types.specs.declared.plan.Plan.{Plan}
use Rattle.flow_types.specs.declared.plan.Rule.{Rule}
use Rattle.flow_types.specs.declared.plan.Port.{Port}
use Rattle.flow_types.specs.declared.flow.Pair.{Pair}
use Rattle.flow_types.specs.declared.numbers.Needs.{Needs}
use Rattle.flow_types.specs.declared.numbers.Needs.TheVariants.{Whole, Stated}
use Rattle.flow_types.specs.Plans.{bound_of}
use Rattle.plan_show.specs.Shown.{quoted}

-- the plan's name of a file; no bytes where the plan has no such file
abbrev pub file_name : Plan → ℕ → List ℕ
file_name plan file = option_map_or (λ row. row.name) (slice_get plan.files file) []

-- the name that a file has where the command runs, where that is another
abbrev pub alias : List ℕ → List ℕ → List ℕ
alias name remote = if bytes_eq name remote then [] else codes " as " ++ quoted remote

-- a file of a rule
abbrev pub port_text : Plan → Port → List ℕ
port_text plan port = quoted (file_name plan port.file.0) ++ alias (file_name plan port.file.0) port.remote

-- an output, and how many bytes it may have
abbrev pub output_line : Plan → Port → List ℕ
output_line plan port =
    codes "  output " ++ port_text plan port ++ (codes ", at most " ++ decimal (bound_of plan port.file.0) ++ codes " bytes\n")

-- an input
abbrev pub input_line : Plan → Port → List ℕ
input_line plan port = codes "  input " ++ port_text plan port ++ codes "\n"

-- a command
abbrev pub command_line : List ℕ → List ℕ
command_line command = codes "  command " ++ quoted command ++ codes "\n"

-- whether the rule runs on this machine whatever workers there are
abbrev pub local_line : Bool → List ℕ
local_line local = if local then codes "  local\n" else []

-- what a rule needs
abbrev pub needed_text : Needs → List ℕ
needed_text Whole = codes "a whole worker"
needed_text (Stated amounts) =
    decimal amounts.cores ++ codes " cores, " ++ (decimal amounts.memory ++ codes " MB of memory, " ++ (decimal amounts.disk ++ codes " MB of disk"))

-- the line of it
abbrev pub needs_line : Needs → List ℕ
needs_line needs = codes "  needs " ++ needed_text needs ++ codes "\n"

-- a variable of a rule's environment
abbrev pub variable_line : Pair → List ℕ
variable_line pair = codes "  variable " ++ quoted pair.name ++ (codes " is " ++ quoted pair.value ++ codes "\n")

-- the lines of a rule's files
abbrev pub files_lines : Plan → Rule → List ℕ
files_lines plan rule = flat_map (output_line plan) rule.outputs ++ flat_map (input_line plan) rule.inputs

-- the lines of what a rule runs, and by what
abbrev pub job_lines : Rule → List ℕ
job_lines rule = command_line rule.command ++ local_line rule.local ++ (needs_line rule.needs ++ flat_map variable_line rule.env)

-- a rule, with its number
abbrev pub rule_block : Plan → ℕ → Rule → List ℕ
rule_block plan number rule = codes "rule " ++ decimal number ++ (codes ":\n" ++ files_lines plan rule ++ job_lines rule)

-- rules, numbered from 0
abbrev pub numbered_blocks : Plan → List Rule → List ℕ
numbered_blocks plan rules = flat_map (λ numbered. rule_block plan numbered.0 numbered.1) (enumerate_from 0 rules)

-- all rules
abbrev pub rules_text : Plan → List ℕ
rules_text plan = numbered_blocks plan plan.rules
