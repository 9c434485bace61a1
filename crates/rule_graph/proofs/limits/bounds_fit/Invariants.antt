use Rattle.std.proofs.Common.{◌≤◌, take}
use Rattle.std.specs.Prelude.{All}
use Rattle.flow_types.specs.declared.flow.SizeBound.{SizeBound}
use Rattle.flow_types.specs.Plans.{most_bytes}
use Rattle.rule_graph.proofs.limits.bounds_fit.Given as goal

-- the lines so far
abbrev pub invariant-loop-line : goal.invariant-loop-line
invariant-loop-line l = All (λ (line : SizeBound). line.bytes ≤ most_bytes) (take l.line-index l.line-items)
