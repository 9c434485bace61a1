use Rattle.std.proofs.Common.{◌≡◌, map, take}
use Rattle.std.specs.List.{list_any}
use Rattle.rule_graph.specs.Flows.{has_local, raw_inputs}
use Rattle.rule_graph.proofs.numbering.taken_of.Given as goal

-- the inputs of the rules so far are marked
abbrev pub invariant-loop-rule : goal.invariant-loop-rule
invariant-loop-rule l = l.table.items ≡ map (λ n. list_any (λ rule. has_local n (raw_inputs rule)) (take l.rule-index l.rule-items)) l.names
