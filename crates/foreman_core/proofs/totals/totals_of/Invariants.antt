use Rattle.std.proofs.Common.{◌≡◌, take}
use Rattle.foreman_core.specs.Foremen.{each_amount, total_by}
use Rattle.foreman_core.proofs.totals.totals_of.Given as goal

abbrev pub invariant-loop-b : goal.invariant-loop-b
invariant-loop-b l = l.total ≡ each_amount (λ amount. total_by amount (take l.b-index l.links))
