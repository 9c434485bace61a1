use Rattle.std.proofs.Common.{◌≡◌, ◌++◌, [], drop, string_bytes}
use Rattle.std.specs.Prelude.{slice_index_or}
use Rattle.std.specs.List.{flat_map, enumerate_from}
use Rattle.plan_show.specs.Files.{file_line, numbered_lines}
use Rattle.plan_show.proofs.files.add_files.Given as goal

abbrev pub invariant-loop-file : goal.invariant-loop-file
invariant-loop-file l =
    string_bytes l.out ++ flat_map (λ numbered. file_line numbered.1 (slice_index_or l.index numbered.0 [])) (enumerate_from l.file (drop l.file l.rows))
    ≡ string_bytes l.initial.out ++ numbered_lines l.index l.rows
