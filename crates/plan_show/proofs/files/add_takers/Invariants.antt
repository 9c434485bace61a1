use Rattle.std.proofs.Common.{◌≡◌, ℕ, length, [], take, true}
use Rattle.std.specs.Prelude.{slice_index_or}
use Rattle.flow_types.specs.Plans.{contains_number, files_of}
use Rattle.plan_show.specs.Files.{are_below, joined_by}
use Rattle.plan_show.proofs.files.add_takers.Given as goal

abbrev pub invariant-loop-port : goal.invariant-loop-port
invariant-loop-port l = record {
  len : length l.index.items ≡ length l.fn.index.items;
  each : (f : ℕ) → are_below l.rule (slice_index_or l.fn.index.items f []) ≡ true
      → slice_index_or l.index.items f [] ≡ joined_by (contains_number f (files_of (take l.port-index l.port-items))) (slice_index_or l.fn.index.items f []) l.rule;
}
