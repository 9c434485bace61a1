use Rattle.std.proofs.Common.{◌≡◌, ◌+◌, take}
use Rattle.flow_types.specs.Plans.{env_bytes, most_command_bytes}
use Rattle.rule_graph.proofs.limits.env_fits.Given as goal

-- what the pairs so far leave
abbrev pub invariant-loop-pair : goal.invariant-loop-pair
invariant-loop-pair l = l.left + env_bytes (take l.pair-index l.pair-items) ≡ most_command_bytes
