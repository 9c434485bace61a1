use Rattle.std.proofs.Common.{take, length, ◌++◌}
use Rattle.std.specs.Prelude.{flat_map}
use Rattle.std.specs.Int.{to_be_bytes, w32}
use Rattle.rule_graph.specs.Spelling.{port_bytes}
use Rattle.rule_graph.specs.Hashing.{Adds}
use Rattle.rule_graph.proofs.digest.add_ports.Given as goal

-- the count and the items so far are taken in
abbrev pub invariant-loop-port : goal.invariant-loop-port
invariant-loop-port l = Adds l.fn.hasher l.hasher (to_be_bytes w32 (length l.port-items) ++ flat_map port_bytes (take l.port-index l.port-items))
