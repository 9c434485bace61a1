use Rattle.std.proofs.Common.{◌≡◌, take}
use Rattle.jx_values.proofs.slices.copied_items.Given as goal

abbrev pub invariant-loop-item : goal.invariant-loop-item
invariant-loop-item l = l.copies ≡ take l.item-index l.items
