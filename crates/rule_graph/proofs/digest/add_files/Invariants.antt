use Rattle.std.proofs.Common.{take, length, ◌++◌}
use Rattle.std.specs.Prelude.{flat_map}
use Rattle.std.specs.Int.{to_be_bytes, w32}
use Rattle.rule_graph.specs.Spelling.{file_bytes}
use Rattle.rule_graph.specs.Hashing.{Adds}
use Rattle.rule_graph.proofs.digest.add_files.Given as goal

-- the count and the items so far are taken in
abbrev pub invariant-loop-row : goal.invariant-loop-row
invariant-loop-row l = Adds l.fn.hasher l.hasher (to_be_bytes w32 (length l.row-items) ++ flat_map file_bytes (take l.row-index l.row-items))
