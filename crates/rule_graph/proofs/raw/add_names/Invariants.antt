use Rattle.std.proofs.Common.{◌≡◌, map, fold, take}
use Rattle.rule_graph.specs.Flows.{raw_port, with_port}
use Rattle.rule_graph.proofs.Ports.{bytes_of}
use Rattle.rule_graph.proofs.raw.add_names.Given as goal

-- the names of the files so far are put in
abbrev pub invariant-loop-file : goal.invariant-loop-file
invariant-loop-file l = map bytes_of l.names.keys ≡ fold with_port (map bytes_of l.fn.names.keys) (map raw_port (take l.file-index l.file-items))
