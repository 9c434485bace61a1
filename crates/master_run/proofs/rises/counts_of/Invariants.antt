use Rattle.std.proofs.Common.{◌≡◌, map, take}
use Rattle.master_run.proofs.rises.counts_of.Given as goal

-- the counts of the runners so far
abbrev pub invariant-loop-runner : goal.invariant-loop-runner
invariant-loop-runner g l = l.counts ≡ map g.R.Runner.count (take l.runner-index l.runners)
