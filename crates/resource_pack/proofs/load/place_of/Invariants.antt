use Rattle.std.proofs.Common.{◌≡◌, ◌<◌, ℕ, false, get_or}
use Rattle.run_history.specs.Links.{Load}
use Rattle.resource_pack.specs.Packing.{is_load}
use Rattle.resource_pack.proofs.load.place_of.Given as goal

abbrev pub invariant-loop-at : goal.invariant-loop-at
invariant-loop-at l = (k : ℕ) (d : Load) → k < l.at → is_load (record { needs = l.needs; bytes = l.bytes }) (get_or l.loads k d) ≡ false
