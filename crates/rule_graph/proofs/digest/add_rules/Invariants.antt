use Rattle.std.proofs.Common.{take, length, ◌++◌}
use Rattle.std.specs.Prelude.{flat_map}
use Rattle.std.specs.Int.{to_be_bytes, w32}
use Rattle.rule_graph.specs.Spelling.{rule_bytes}
use Rattle.rule_graph.specs.Hashing.{Adds}
use Rattle.rule_graph.proofs.digest.add_rules.Given as goal

-- the count and the items so far are taken in
abbrev pub invariant-loop-rule : goal.invariant-loop-rule
invariant-loop-rule l = Adds l.fn.hasher l.hasher (to_be_bytes w32 (length l.rule-items) ++ flat_map rule_bytes (take l.rule-index l.rule-items))
