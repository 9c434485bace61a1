use Rattle.std.proofs.Common.{◌≡◌}
use Rattle.jx_values.proofs.Keys.{IsPassed}
use Rattle.jx_values.proofs.fields.place_of.Given as goal

abbrev pub invariant-loop-pair : goal.invariant-loop-pair
invariant-loop-pair l = record {
  counted : l.at ≡ l.pair-index;
  passed : IsPassed l.pairs l.key l.pair-index;
}
