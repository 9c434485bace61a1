use Rattle.std.proofs.Common.{◌≡◌, map}
use Rattle.flow_types.specs.Plans.{numbers}
use Rattle.flow_gen.specs.Generated.{made_name}
use Rattle.flow_gen.proofs.flow.made_names.Given as goal

abbrev pub invariant-loop-rule : goal.invariant-loop-rule
invariant-loop-rule l = l.names ≡ map made_name (numbers l.rule)
