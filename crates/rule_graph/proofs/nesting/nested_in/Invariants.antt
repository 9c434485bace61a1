use Rattle.std.proofs.Common.{◌≡◌, drop}
use Rattle.rule_graph.specs.Faults.{first_said, nested_under, nested_in}
use Rattle.rule_graph.proofs.nesting.nested_in.Given as goal

-- what is left decides
abbrev pub invariant-loop-folder : goal.invariant-loop-folder
invariant-loop-folder l = first_said (nested_under l.names) (drop l.folder-index l.names) ≡ nested_in l.names
