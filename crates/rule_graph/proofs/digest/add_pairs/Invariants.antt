use Rattle.std.proofs.Common.{take, length, ◌++◌}
use Rattle.std.specs.Prelude.{flat_map}
use Rattle.std.specs.Int.{to_be_bytes, w32}
use Rattle.rule_graph.specs.Spelling.{pair_bytes}
use Rattle.rule_graph.specs.Hashing.{Adds}
use Rattle.rule_graph.proofs.digest.add_pairs.Given as goal

-- the count and the items so far are taken in
abbrev pub invariant-loop-pair : goal.invariant-loop-pair
invariant-loop-pair l = Adds l.fn.hasher l.hasher (to_be_bytes w32 (length l.pair-items) ++ flat_map pair_bytes (take l.pair-index l.pair-items))
