use Rattle.std.proofs.Common.{◌≡◌, ◌∙◌, List, ℕ, map, find, None, ap, sym, subst}
use Rattle.std.specs.Option.{option_copied}
use Rattle.flow_types.specs.declared.plan.FileRow.{FileRow}
use Rattle.master_run.specs.LogNames.{clash}
use Rattle.master_run.proofs.Folders.{none_named}
use Rattle.master_run.proofs.log_name.beside_files.Goals as goal

pub returns-clause-apart : goal.returns-clause-apart
returns-clause-apart c =
    none_named c.args.plan.files c.args.log.now c.as_bytes-name.ensures.name
    (subst (λ (n : List ℕ). find (clash n) (map (λ (row : FileRow). row.name) c.args.plan.files) ≡ None) c.as_bytes-name.ensures.value
    (ap (λ (rows : List FileRow). find (clash c.as_bytes-name.result.now) (map (λ (row : FileRow). row.name) rows)) (sym c.as_slice.ensures) ∙ sym c.taken_file.ensures ∙ ap option_copied c.in-None.is))
