use Rattle.std.proofs.Common.{◌≡◌, take}
use Rattle.jx_values.proofs.copy.+copied.Given as goal

abbrev pub invariant-loop-item : goal.invariant-loop-item
invariant-loop-item l = l.items ≡ take l.item-index l.item-items

abbrev pub invariant-loop-pair : goal.invariant-loop-pair
invariant-loop-pair l = l.items ≡ take l.pair-index l.pair-items
