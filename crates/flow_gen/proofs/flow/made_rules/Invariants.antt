use Rattle.std.proofs.Common.{◌≡◌, map}
use Rattle.flow_types.specs.Plans.{numbers}
use Rattle.flow_gen.specs.Generated.{made_rule}
use Rattle.flow_gen.proofs.flow.made_rules.Given as goal

abbrev pub invariant-loop-rule : goal.invariant-loop-rule
invariant-loop-rule l = l.rules ≡ map made_rule (numbers l.rule)
