-- The rules of a text.
use Rattle.std.specs.Prelude.{ℕ, Bool, false, List, Option, Some, Ok, Err, unwrap_or, map, flat_map, length, nat_lt, codes, if◌then◌else◌}
use Rattle.flow_types.specs.declared.flow.RawRule.{RawRule}
use Rattle.flow_types.specs.declared.flow.SizeBound.{SizeBound}
use Rattle.flow_types.specs.Plans.{most_command_bytes}
use Rattle.jx_meaning.specs.Values.{Value, Entry, find}
use Rattle.jx_flow.specs.declared.fault.JxFlowFault.TheVariants.{TooLarge}
use Rattle.jx_flow.specs.declared.rules.Action.{Action}
use Rattle.jx_flow.specs.declared.rules.Setting.{Setting}
use Rattle.jx_flow.specs.declared.rules.General.{General}
use Rattle.jx_flow.specs.declared.rules.Made.{Made}
use Rattle.jx_flow.specs.Reading.{Found, and_then, optional, truth_of, entries_of, optional_text, required_text}
use Rattle.jx_flow.specs.Files.{outputs_of, inputs_of, files_in, bounds_in}
use Rattle.jx_flow.specs.Amounts.{resources_of, over, needs_of, general_of}
use Rattle.jx_flow.specs.Variables.{environment_of}

-- a command, where it keeps its limit
abbrev pub short : List ℕ → Found (List ℕ)
short text = if nat_lt most_command_bytes (length text) then Err (TooLarge 1048576) else Ok text

-- the command of a rule
abbrev pub command_of : Option ℕ → List Entry → Found (List ℕ)
command_of rule es = and_then (required_text rule (codes "command") es) short

-- whether a rule runs at the master
abbrev pub local_of : Option ℕ → List Entry → Found Bool
local_of rule es = and_then (optional (truth_of rule (codes "local_job")) (find (codes "local_job") es)) (λ t. Ok (unwrap_or t false))

-- what a rule does: its command, its files and where it runs
abbrev pub action_of : Option ℕ → List Entry → Found Action
action_of rule es =
    and_then (command_of rule es) (λ command.
    and_then (outputs_of rule es) (λ outputs.
    and_then (inputs_of rule es) (λ inputs.
    and_then (local_of rule es) (λ local. Ok (record { command = command; outputs = outputs; inputs = inputs; local = local })))))

-- what a rule runs in: its environment and what it needs, over what is said of all rules and of its category
abbrev pub setting_of : General → ℕ → List Entry → Found Setting
setting_of g n es =
    and_then (optional_text (Some n) (codes "category") es) (λ category.
    and_then (general_of n (unwrap_or category g.category) g.categories) (λ resources.
    and_then (environment_of (Some n) g.variables (find (codes "environment") es)) (λ env.
    and_then (resources_of (Some n) es) (λ own. Ok (record { env = env; needs = needs_of (over own resources) })))))

-- a whole rule, and the bounds of its outputs
abbrev pub made_of : ℕ → Action → Setting → Made
made_of n a s = record {
  rule = record {
    place = n;
    outputs = files_in a.outputs;
    inputs = a.inputs;
    command = a.command;
    local = a.local;
    needs = s.needs;
    env = s.env;
  };
  bounds = bounds_in a.outputs;
}

-- the rule that an item of `rules` says
abbrev pub rule_of : General → ℕ → Value → Found Made
rule_of g n v =
    and_then (entries_of (Some n) (codes "rules") v) (λ es.
    and_then (action_of (Some n) es) (λ action.
    and_then (setting_of g n es) (λ setting. Ok (made_of n action setting))))

-- the rules in order
abbrev pub rules_in : List Made → List RawRule
rules_in made = map (λ (m : Made). m.rule) made

-- all bounds, in the order of the rules
abbrev pub bounds_of : List Made → List SizeBound
bounds_of made = flat_map (λ (m : Made). m.bounds) made
