-- The limits that a flow's commands, environments, amounts and stated bounds keep before it is a plan.
use Rattle.std.specs.Prelude.{All, IsTrue, length, nat_le}
use Rattle.flow_types.specs.declared.flow.RawFlow.{RawFlow}
use Rattle.flow_types.specs.Plans.{most_bytes, most_command_bytes, env_bytes, fits_amounts}

-- No command, environment, amount or stated bound of the flow passes its limit.
pub record FitsLimits (flow : RawFlow) : Type 0 where
  pub commands : All (λ rule. IsTrue (nat_le (length rule.command) most_command_bytes)) flow.rules
  pub envs : All (λ rule. IsTrue (nat_le (env_bytes rule.env) most_command_bytes)) flow.rules
  pub amounts : All (λ rule. IsTrue (fits_amounts rule.needs)) flow.rules
  pub bounds : All (λ line. IsTrue (nat_le line.bytes most_bytes)) flow.bounds
