use Rattle.std.proofs.Common.{◌≡◌, take, map}
use Rattle.jx_meaning.specs.Values.{plain, values, pairs}
use Rattle.jx_values.specs.Kinds.{plain_pair}
use Rattle.jx_values.specs.Sizes.{items_size, pairs_size}
use Rattle.jx_values.proofs.size.+size_of.Given as goal

abbrev pub invariant-loop-item : goal.invariant-loop-item
invariant-loop-item l = l.inside ≡ items_size (values (map plain (take l.item-index l.item-items)))

abbrev pub invariant-loop-pair : goal.invariant-loop-pair
invariant-loop-pair l = l.inside ≡ pairs_size (pairs (map plain_pair (take l.pair-index l.pair-items)))
