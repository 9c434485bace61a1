use Rattle.std.proofs.Common.{length}
use Rattle.mem_links.proofs.Fronts.{HeardSoFar}
use Rattle.mem_links.proofs.hearing.hear_all.Given as goal

-- what was heard so far, and what is left
abbrev pub invariant-loop-message : goal.invariant-loop-message
invariant-loop-message l =
    HeardSoFar l.bytes l.initial.keys.items l.initial.gives.items l.rest l.keys.items l.gives.items

abbrev pub decreases-loop-message : goal.decreases-loop-message
decreases-loop-message l = length l.rest
