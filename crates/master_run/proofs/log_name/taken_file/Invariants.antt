use Rattle.std.proofs.Common.{◌≡◌, drop, find, map}
use Rattle.flow_types.specs.declared.plan.FileRow.{FileRow}
use Rattle.master_run.specs.LogNames.{clash}
use Rattle.master_run.proofs.log_name.taken_file.Given as goal

-- what is left decides
abbrev pub invariant-loop-row : goal.invariant-loop-row
invariant-loop-row l = find (clash l.log) (map (λ (row : FileRow). row.name) (drop l.row-index l.files)) ≡ find (clash l.log) (map (λ (row : FileRow). row.name) l.files)
