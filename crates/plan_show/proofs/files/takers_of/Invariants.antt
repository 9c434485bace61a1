use Rattle.plan_show.specs.Files.{IsIndexBelow}
use Rattle.plan_show.proofs.files.takers_of.Given as goal

-- the index of the rules so far
abbrev pub invariant-rules : goal.invariant-rules
invariant-rules l = IsIndexBelow l.plan l.rule l.index.items
