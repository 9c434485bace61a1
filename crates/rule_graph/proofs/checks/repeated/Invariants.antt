use Rattle.std.proofs.Common.{◌≡◌, ℕ, List, [], drop}
use Rattle.rule_graph.specs.Faults.{first_repeat}
use Rattle.rule_graph.proofs.RuleFaults.{HasPast}
use Rattle.rule_graph.proofs.checks.repeated.Given as goal

-- what is left decides, with the names so far
abbrev pub invariant-loop-name : goal.invariant-loop-name
invariant-loop-name l = (past : List (List ℕ)) × HasPast l.seen past × (first_repeat past (drop l.name-index l.names) ≡ first_repeat [] l.names)
