use Rattle.std.proofs.Common.{◌≡◌, cond, map, take, fold}
use Rattle.flow_types.specs.Plans.{most_bytes}
use Rattle.rule_graph.specs.Flows.{is_text_of}
use Rattle.rule_graph.proofs.numbering.bounds_of.Given as goal

-- each file has the bound that the lines so far state
abbrev pub invariant-loop-line : goal.invariant-loop-line
invariant-loop-line l = l.table.items ≡ map (λ n. fold (λ bound line. cond (is_text_of n line.name) line.bytes bound) most_bytes (take l.line-index l.line-items)) l.names
