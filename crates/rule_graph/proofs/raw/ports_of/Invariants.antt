use Rattle.std.proofs.Common.{◌≡◌, map, take}
use Rattle.rule_graph.specs.Flows.{raw_port}
use Rattle.rule_graph.proofs.raw.ports_of.Given as goal

-- the ports of the files so far
abbrev pub invariant-loop-file : goal.invariant-loop-file
invariant-loop-file l = l.ports.items ≡ map raw_port (take l.file-index l.file-items)
