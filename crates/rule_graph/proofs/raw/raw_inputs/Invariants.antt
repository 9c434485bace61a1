use Rattle.std.proofs.Common.{◌≡◌, map, take}
use Rattle.rule_graph.specs.Flows.{raw_port, each_once}
use Rattle.rule_graph.proofs.Ports.{IsSeen}
use Rattle.rule_graph.proofs.raw.raw_inputs.Given as goal

-- the ports of the files so far, each once
abbrev pub invariant-loop-file : goal.invariant-loop-file
invariant-loop-file l = record {
  seen : IsSeen l.seen (map raw_port (take l.file-index l.file-items));
  once : l.ports.items ≡ each_once (map raw_port (take l.file-index l.file-items));
}
