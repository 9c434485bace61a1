use Rattle.std.proofs.Common.{◌≡◌, map}
use Rattle.flow_types.specs.Plans.{numbers}
use Rattle.rule_progress.specs.Progress.{need_of}
use Rattle.rule_progress.proofs.needs.needs_of.Given as goal

abbrev pub invariant-loop-rule : goal.invariant-loop-rule
invariant-loop-rule l = l.needs.items ≡ map (need_of l.plan l.options) (numbers l.rule)
