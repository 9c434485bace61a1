-- The limits of a flow's rules and of its bounds.
use Rattle.std.specs.Prelude.{◌≤◌, All, IsTrue, length}
use Rattle.flow_types.specs.declared.flow.RawFlow.{RawFlow}
use Rattle.flow_types.specs.declared.flow.RawRule.{RawRule}
use Rattle.flow_types.specs.Plans.{most_bytes, most_command_bytes, env_bytes, fits_amounts}

-- no command, environment or amount of the rule passes its limit
abbrev pub RuleFits : RawRule → Type 0
RuleFits rule = (length rule.command ≤ most_command_bytes) × (env_bytes rule.env ≤ most_command_bytes) × IsTrue (fits_amounts rule.needs)

-- each rule is within the limits
abbrev pub RulesFit : RawFlow → Type 0
RulesFit flow = All RuleFits flow.rules

-- no stated bound passes the most bytes
abbrev pub BoundsFit : RawFlow → Type 0
BoundsFit flow = All (λ line. line.bytes ≤ most_bytes) flow.bounds
