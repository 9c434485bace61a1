use Rattle.std.proofs.Common.{◌≡◌, length, map}
use Rattle.flow_types.specs.Plans.{numbers, takes}
use Rattle.rule_progress.proofs.needs.ports_of.Given as goal

abbrev pub invariant-loop-rule : goal.invariant-loop-rule
invariant-loop-rule l = l.ports.items ≡ map (λ r. length (takes l.plan r)) (numbers l.rule)
