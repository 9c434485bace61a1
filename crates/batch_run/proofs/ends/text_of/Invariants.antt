use Rattle.std.proofs.Common.{◌≡◌, ◌++◌, drop, string_bytes}
use Rattle.std.specs.List.{flat_map, enumerate_from}
use Rattle.batch_run.specs.Batch.{line_of, printed}
use Rattle.batch_run.proofs.ends.text_of.Given as goal

-- what is left is written behind
abbrev pub invariant-loop-id : goal.invariant-loop-id
invariant-loop-id l =
    string_bytes l.text ++ flat_map (λ numbered. line_of numbered.0 numbered.1) (enumerate_from l.id (drop l.id l.ends))
    ≡ printed l.ends
