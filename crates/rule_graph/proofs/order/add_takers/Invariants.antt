use Rattle.std.proofs.Common.{◌≡◌, ℕ, ◌+◌, ◌<◌, length, All, [], take, false}
use Rattle.std.specs.Prelude.{◌==◌, slice_index_or}
use Rattle.flow_types.specs.Plans.{files_of}
use Rattle.rule_graph.specs.Progress.{times_in}
use Rattle.rule_graph.proofs.order.add_takers.Given as goal

abbrev pub invariant-loop-port : goal.invariant-loop-port
invariant-loop-port l = record {
  len : length l.index.items ≡ length l.fn.index.items;
  inside : (n : ℕ) → l.rule < n → All (All (λ t. t < n)) l.fn.index.items → All (All (λ t. t < n)) l.index.items;
  own : (f : ℕ) → f < length l.fn.index.items
      → times_in l.rule (slice_index_or l.index.items f []) ≡ times_in l.rule (slice_index_or l.fn.index.items f []) + times_in f (files_of (take l.port-index l.port-items));
  others : (t f : ℕ) → (l.rule == t) ≡ false → times_in t (slice_index_or l.index.items f []) ≡ times_in t (slice_index_or l.fn.index.items f []);
}
