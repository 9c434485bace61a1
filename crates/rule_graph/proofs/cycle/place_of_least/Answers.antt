use Rattle.std.proofs.Common.{inl, inr, arith}
use Rattle.rule_graph.proofs.Places.{least_more}
use Rattle.rule_graph.proofs.cycle.place_of_least.Goals as goal
use Rattle.rule_graph.proofs.cycle.place_of_least.Goals.{then-rules-place, else-rules-place}

pub places-preserved : goal.places-preserved
places-preserved c = record {
  so_far = elim c.if-rules-place.branch [ then-rules-place w ↦ omega arith | else-rules-place w ↦ omega arith ];
  inside = elim c.if-rules-place.branch [ then-rules-place w ↦ omega arith | else-rules-place w ↦ omega arith ];
  least =
      least_more c.args.rules.now c.places.place c.places.least c.if-rules-place.least (record { 0 = 0 }) c.places-test.true c.places.invariant.so_far c.places.invariant.least
      (elim c.if-rules-place.branch [
        | then-rules-place w ↦ inl (w.least-is, w.if-rules-place.true)
        | else-rules-place w ↦ inr (w.least-is, w.if-rules-place.false)
      ]);
}
