use Rattle.std.proofs.Common.{◌≡◌, ℕ, List, [], ◌<◌, ◌||◌, true, false, take, length}
use Rattle.std.specs.Prelude.{slice_index_or}
use Rattle.flow_types.specs.declared.plan.Plan.{Plan}
use Rattle.flow_types.specs.Plans.{contains_number, files_of}
use Rattle.rule_graph.specs.Progress.{IsIndex, IsUnderWay}
use Rattle.rule_graph.proofs.order.finish.Given as goal

abbrev pub invariant-loop-port : goal.invariant-loop-port
invariant-loop-port l = record {
  under_way : (P : Plan) (taken : List ℕ) → IsIndex P l.index → IsUnderWay P taken [] l.fn.progress → IsUnderWay P taken [] l.progress;
  made : (f : ℕ) → f < length l.fn.progress.made.items
      → slice_index_or l.progress.made.items f false ≡ (slice_index_or l.fn.progress.made.items f false || contains_number f (files_of (take l.port-index l.port-items)));
  files : length l.progress.made.items ≡ length l.fn.progress.made.items;
  rules : length l.progress.missing.items ≡ length l.fn.progress.missing.items;
}
