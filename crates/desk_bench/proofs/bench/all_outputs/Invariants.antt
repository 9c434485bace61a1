use Rattle.std.proofs.Common.{◌≡◌, ℕ, List, Some, length}
use Rattle.std.specs.Prelude.{slice_get}
use Rattle.desk.specs.State.{AreOutputs}
use Rattle.desk_bench.proofs.bench.all_outputs.Given as goal

abbrev pub invariant-loop-rule : goal.invariant-loop-rule
invariant-loop-rule l = record {
  many : length l.outs.items ≡ l.rule;
  fit : (r : ℕ) (made : List (List ℕ)) → slice_get l.outs.items r ≡ Some made → AreOutputs l.plan r made;
}
