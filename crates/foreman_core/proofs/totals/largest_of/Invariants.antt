use Rattle.std.proofs.Common.{◌≡◌, take}
use Rattle.foreman_core.specs.Foremen.{each_amount, largest_by}
use Rattle.foreman_core.proofs.totals.largest_of.Given as goal

abbrev pub invariant-loop-b : goal.invariant-loop-b
invariant-loop-b l = l.greatest ≡ each_amount (λ amount. largest_by amount (take l.b-index l.links))
