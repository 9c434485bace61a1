use Rattle.std.proofs.Common.{◌≡◌, true, take}
use Rattle.std.specs.Prelude.{is_none}
use Rattle.std.specs.List.{list_all}
use Rattle.rule_graph.proofs.nesting.has_no_remote.Given as goal

-- no file so far has one
abbrev pub invariant-loop-file : goal.invariant-loop-file
invariant-loop-file l = list_all (λ file. is_none file.remote) (take l.file-index l.file-items) ≡ true
