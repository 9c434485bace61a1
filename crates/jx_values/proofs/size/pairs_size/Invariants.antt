use Rattle.std.proofs.Common.{◌≡◌, take, map}
use Rattle.jx_meaning.specs.Values.{pairs}
use Rattle.jx_values.specs.Kinds.{plain_pair}
use Rattle.jx_values.specs.Sizes.{pairs_size}
use Rattle.jx_values.proofs.size.pairs_size.Given as goal

abbrev pub invariant-loop-pair : goal.invariant-loop-pair
invariant-loop-pair l = l.inside ≡ pairs_size (pairs (map plain_pair (take l.pair-index l.fields)))
