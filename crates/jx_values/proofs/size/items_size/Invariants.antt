use Rattle.std.proofs.Common.{◌≡◌, take, map}
use Rattle.jx_meaning.specs.Values.{plain, values}
use Rattle.jx_values.specs.Sizes.{items_size}
use Rattle.jx_values.proofs.size.items_size.Given as goal

abbrev pub invariant-loop-item : goal.invariant-loop-item
invariant-loop-item l = l.inside ≡ items_size (values (map plain (take l.item-index l.items)))
