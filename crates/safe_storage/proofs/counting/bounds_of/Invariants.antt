use Rattle.flow_types.specs.Plans.{most_bytes}
use Rattle.safe_storage.specs.Counters.{bound_by, is_left_by}
use Rattle.safe_storage.proofs.Loops.{IsAddedTo}
use Rattle.safe_storage.proofs.counting.bounds_of.Given as goal

abbrev pub invariant-loop-port : goal.invariant-loop-port
invariant-loop-port l = IsAddedTo (bound_by l.plan (is_left_by l.plan l.left)) most_bytes l.ports
    l.port-index l.sum
