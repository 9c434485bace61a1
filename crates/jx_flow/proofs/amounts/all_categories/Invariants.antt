use Rattle.std.proofs.Common.{◌≡◌, drop, map}
use Rattle.jx_values.specs.Kinds.{plain_pair}
use Rattle.jx_flow.specs.Reading.{each}
use Rattle.jx_flow.specs.Amounts.{category_of}
use Rattle.jx_flow.proofs.Each.{behind}
use Rattle.jx_flow.proofs.amounts.all_categories.Given as goal

-- what is left decides
abbrev pub invariant-loop-pair : goal.invariant-loop-pair
invariant-loop-pair l = behind l.categories.items (each category_of (map plain_pair (drop l.pair-index l.pairs))) ≡ each category_of (map plain_pair l.pairs)
