use Rattle.std.proofs.Common.{◌≡◌, drop}
use Rattle.std.specs.Prelude.{find}
use Rattle.flow_types.specs.declared.numbers.RuleNo.{RuleNo}
use Rattle.ready_rules.specs.Shelves.{passes_from}
use Rattle.ready_rules.proofs.pending.first_under.Given as goal

abbrev pub invariant-loop-rule : goal.invariant-loop-rule
invariant-loop-rule l =
    find (λ (rule : RuleNo). passes_from l.shelf.weights l.from.0 l.limits rule.0) (drop l.rule-index l.rules) ≡ find (λ (rule : RuleNo). passes_from l.shelf.weights l.from.0 l.limits rule.0) l.rules
