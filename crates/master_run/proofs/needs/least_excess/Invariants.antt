use Rattle.std.proofs.Common.{◌≡◌, drop}
use Rattle.master_run.specs.Needs.{excess_among}
use Rattle.master_run.proofs.needs.least_excess.Given as goal

-- no rule so far needs too much
abbrev pub invariant-loop-i : goal.invariant-loop-i
invariant-loop-i l = excess_among l.options 0 l.rules ≡ excess_among l.options l.i (drop l.i l.rules)
