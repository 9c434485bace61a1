use Rattle.rule_progress.proofs.Stepping.{IsWaitingAgain}
use Rattle.rule_progress.proofs.progress.wait_again.Given as goal

abbrev pub invariant-loop-rule : goal.invariant-loop-rule
invariant-loop-rule l = IsWaitingAgain l.fn.pending l.rules l.rule-index l.pending
