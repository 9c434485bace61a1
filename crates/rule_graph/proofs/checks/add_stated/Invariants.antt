use Rattle.std.proofs.Common.{◌≡◌, ◌++◌, map, take}
use Rattle.flow_types.specs.Names.{form_of}
use Rattle.rule_graph.specs.Flows.{remote_text}
use Rattle.rule_graph.proofs.checks.add_stated.Given as goal

-- the remote names of the files so far are put behind
abbrev pub invariant-loop-file : goal.invariant-loop-file
invariant-loop-file l = l.names.items ≡ l.fn.names.items ++ map (λ file. form_of (remote_text file)) (take l.file-index l.file-items)
