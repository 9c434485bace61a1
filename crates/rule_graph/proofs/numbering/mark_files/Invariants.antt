use Rattle.std.proofs.Common.{◌≡◌, ℕ, List, Bool, ◌||◌, map, take}
use Rattle.rule_graph.specs.Stated.{has_file}
use Rattle.rule_graph.proofs.numbering.mark_files.Given as goal

-- the files so far are marked
abbrev pub invariant-loop-file : goal.invariant-loop-file
invariant-loop-file l = (says : List ℕ → Bool) → l.fn.table ≡ map says l.names → l.table ≡ map (λ n. says n || has_file n (take l.file-index l.file-items)) l.names
