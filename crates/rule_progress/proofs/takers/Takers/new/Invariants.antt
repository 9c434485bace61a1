use Rattle.rule_progress.proofs.Filling.{IsFilled}
use Rattle.rule_progress.proofs.takers.Takers.new.Given as goal

abbrev pub invariant-rules : goal.invariant-rules
invariant-rules l = IsFilled l.plan l.rule l.files.items

abbrev pub decreases-rules : goal.decreases-rules
decreases-rules l = l.rule
