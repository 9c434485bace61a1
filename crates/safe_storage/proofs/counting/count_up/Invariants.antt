use Rattle.gc_refcount.proofs.Freeing.{IsCountedUp}
use Rattle.safe_storage.proofs.counting.count_up.Given as goal

abbrev pub invariant-loop-port : goal.invariant-loop-port
invariant-loop-port l = IsCountedUp l.fn.counts.items l.ports l.port-index l.counts.items
