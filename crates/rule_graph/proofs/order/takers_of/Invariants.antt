use Rattle.rule_graph.specs.Progress.{IsIndexBelow}
use Rattle.rule_graph.proofs.order.takers_of.Given as goal

-- the index of the rules so far
abbrev pub invariant-rules : goal.invariant-rules
invariant-rules l = IsIndexBelow l.plan l.rule l.index.items
