use Rattle.rule_progress.proofs.Stepping.{AreWaiting}
use Rattle.rule_progress.proofs.progress.wait_all.Given as goal

abbrev pub invariant-rules : goal.invariant-rules
invariant-rules l = AreWaiting l.fn.pending l.at l.pending

abbrev pub decreases-rules : goal.decreases-rules
decreases-rules l = l.at
