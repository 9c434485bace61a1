use Rattle.std.proofs.Common.{◌≡◌, ◌≤◌, ◌+◌, drop}
use Rattle.flow_types.specs.Plans.{env_bytes}
use Rattle.jx_flow.proofs.variables.passes_limit.Given as goal

-- what is left decides
abbrev pub invariant-loop-pair : goal.invariant-loop-pair
invariant-loop-pair l = record {
  whole : l.size + env_bytes (drop l.pair-index l.pairs) ≡ env_bytes l.pairs;
  small : l.size ≤ 1048576;
}
