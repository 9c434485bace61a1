use Rattle.std.proofs.Common.{◌≡◌, map, take}
use Rattle.rule_graph.specs.Flows.{port_for}
use Rattle.rule_graph.proofs.rows.ports_of.Given as goal

-- the ports so far
abbrev pub invariant-loop-port : goal.invariant-loop-port
invariant-loop-port l = l.made.items ≡ map (port_for l.names) (take l.port-index l.ports)
