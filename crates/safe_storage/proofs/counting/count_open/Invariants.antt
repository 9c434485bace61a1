use Rattle.std.proofs.Common.{◌≡◌, ℕ, length}
use Rattle.std.specs.Prelude.{slice_index_or}
use Rattle.flow_types.specs.Plans.{most_inputs}
use Rattle.gc_refcount.specs.Counting.{open_ports}
use Rattle.safe_storage.specs.Counters.{counting}
use Rattle.safe_storage.proofs.Loops.{IsSummedTo}
use Rattle.safe_storage.proofs.counting.count_open.Given as goal

abbrev pub invariant-loop-rule : goal.invariant-loop-rule
invariant-loop-rule l = record {
  same : length l.counts.items ≡ length l.fn.counts.items;
  counts : (f : ℕ) → IsSummedTo (open_ports (counting l.plan l.over) f) most_inputs l.rule
      (slice_index_or l.counts.items f 0);
}
