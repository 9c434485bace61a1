use Rattle.std.proofs.Common.{◌≡◌, drop, map}
use Rattle.jx_meaning.specs.Values.{find}
use Rattle.jx_values.specs.Kinds.{plain_pair}
use Rattle.jx_values.proofs.equality.find.Given as goal

-- what is left decides
abbrev pub invariant-loop-pair : goal.invariant-loop-pair
invariant-loop-pair l = find l.key (map plain_pair (drop l.pair-index l.pairs)) ≡ find l.key (map plain_pair l.pairs)
