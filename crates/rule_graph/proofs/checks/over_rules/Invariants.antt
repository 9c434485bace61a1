use Rattle.std.proofs.Common.{◌≡◌, drop}
use Rattle.std.specs.List.{enumerate_from}
use Rattle.rule_graph.specs.Faults.{first_said, over_rules}
use Rattle.rule_graph.proofs.checks.over_rules.Given as goal

-- what is left decides
abbrev pub invariant-rules : goal.invariant-rules
invariant-rules g l =
    first_said (λ numbered. g.C.RuleCheck.says numbered.0 numbered.1) (enumerate_from l.number (drop l.number l.rules)) ≡ over_rules g.C.RuleCheck.says l.flow
