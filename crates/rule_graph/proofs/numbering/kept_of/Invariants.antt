use Rattle.std.proofs.Common.{◌≡◌, map, take}
use Rattle.std.specs.List.{list_any}
use Rattle.rule_graph.specs.Flows.{is_text_of}
use Rattle.rule_graph.proofs.numbering.kept_of.Given as goal

-- the names so far are marked
abbrev pub invariant-loop-text : goal.invariant-loop-text
invariant-loop-text l = l.table.items ≡ map (λ n. list_any (is_text_of n) (take l.text-index l.text-items)) l.names
