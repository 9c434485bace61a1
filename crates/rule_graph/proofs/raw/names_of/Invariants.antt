use Rattle.std.proofs.Common.{◌≡◌, [], map, fold, take}
use Rattle.std.specs.Prelude.{flat_map}
use Rattle.rule_graph.specs.Flows.{raw_ports, with_port}
use Rattle.rule_graph.proofs.Ports.{bytes_of}
use Rattle.rule_graph.proofs.raw.names_of.Given as goal

-- the names of the rules so far
abbrev pub invariant-loop-rule : goal.invariant-loop-rule
invariant-loop-rule l = map bytes_of l.names.keys ≡ fold with_port [] (flat_map raw_ports (take l.rule-index l.rule-items))
