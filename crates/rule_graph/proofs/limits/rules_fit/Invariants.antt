use Rattle.std.proofs.Common.{take}
use Rattle.std.specs.Prelude.{All}
use Rattle.rule_graph.specs.Limits.{RuleFits}
use Rattle.rule_graph.proofs.limits.rules_fit.Given as goal

-- the rules so far
abbrev pub invariant-loop-rule : goal.invariant-loop-rule
invariant-loop-rule l = All RuleFits (take l.rule-index l.rule-items)
