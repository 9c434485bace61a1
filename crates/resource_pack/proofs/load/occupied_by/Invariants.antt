use Rattle.std.proofs.Common.{◌≡◌, take}
use Rattle.resource_pack.specs.Occupancy.{occupancy_of}
use Rattle.resource_pack.proofs.load.occupied_by.Given as goal

abbrev pub invariant-loop-load : goal.invariant-loop-load
invariant-loop-load l = l.occupied ≡ occupancy_of l.link.0 l.total (take l.load-index l.loads)
