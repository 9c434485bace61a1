use Rattle.rule_progress.proofs.Filling.{IsAdding}
use Rattle.rule_progress.proofs.takers.add_ports.Given as goal

abbrev pub invariant-loop-port : goal.invariant-loop-port
invariant-loop-port l = IsAdding l.fn.files.items l.ports l.rule.0 l.port-index l.files.items
