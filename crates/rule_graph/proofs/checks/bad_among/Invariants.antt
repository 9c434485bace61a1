use Rattle.std.proofs.Common.{◌≡◌, drop}
use Rattle.std.specs.Prelude.{find}
use Rattle.rule_graph.specs.Faults.{is_no_name, file_texts}
use Rattle.rule_graph.proofs.checks.bad_among.Given as goal

-- what is left decides
abbrev pub invariant-loop-file : goal.invariant-loop-file
invariant-loop-file l = find is_no_name (file_texts (drop l.file-index l.file-items)) ≡ find is_no_name (file_texts l.files)
