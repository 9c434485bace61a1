use Rattle.std.proofs.Common.{◌≡◌, false, take}
use Rattle.std.specs.List.{list_any}
use Rattle.foreman_core.specs.Foremen.{could_hold, others}
use Rattle.foreman_core.proofs.parting.any_other_holds.Given as goal

abbrev pub invariant-loop-b : goal.invariant-loop-b
invariant-loop-b l = list_any (could_hold l.cache.rows l.task) (others l.link (take l.b-index l.links)) ≡ false
