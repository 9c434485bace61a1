use Rattle.std.proofs.Common.{◌<◌, drop, map, sum}
use Rattle.master_run.proofs.rises.first_rise.Given as goal

-- where they rose in all, those that are left did
abbrev pub invariant-loop-at : goal.invariant-loop-at
invariant-loop-at g l = sum l.before < sum (map g.R.Runner.count l.runners) → sum (drop l.at l.before) < sum (drop l.at (map g.R.Runner.count l.runners))
