use Rattle.std.proofs.Common.{◌≡◌, drop, map, length}
use Rattle.jx_meaning.specs.Values.{plain, values, pairs, all_equal, all_found}
use Rattle.jx_values.specs.Kinds.{plain_pair}
use Rattle.jx_values.proofs.equality.+equal.Given as goal

-- what is left decides
abbrev pub invariant-lists_are_equal-loop-x : goal.invariant-lists_are_equal-loop-x
invariant-lists_are_equal-loop-x l = record {
  same : l.i ≡ l.x-index;
  long : length l.xs ≡ length l.ys;
  rest : all_equal (values (map plain (drop l.x-index l.xs))) (values (map plain (drop l.x-index l.ys))) ≡ all_equal (values (map plain l.xs)) (values (map plain l.ys));
}

-- what is left decides
abbrev pub invariant-objects_are_equal-loop-p : goal.invariant-objects_are_equal-loop-p
invariant-objects_are_equal-loop-p l = all_found (pairs (map plain_pair (drop l.p-index l.ps))) (map plain_pair l.qs) ≡ all_found (pairs (map plain_pair l.ps)) (map plain_pair l.qs)
