use Rattle.std.proofs.Common.{◌≡◌, drop}
use Rattle.std.specs.Prelude.{find, nat_eq}
use Rattle.std.specs.List.{starts_with}
use Rattle.rule_graph.proofs.nesting.first_begins.Given as goal

-- what is left decides
abbrev pub invariant-loop-name : goal.invariant-loop-name
invariant-loop-name l = find (λ name. starts_with nat_eq name l.start) (drop l.name-index l.names) ≡ find (λ name. starts_with nat_eq name l.start) l.names
