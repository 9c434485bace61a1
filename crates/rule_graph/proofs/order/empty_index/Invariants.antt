use Rattle.std.proofs.Common.{◌≡◌, length, All, []}
use Rattle.rule_graph.proofs.order.empty_index.Given as goal

abbrev pub invariant-files : goal.invariant-files
invariant-files l = record { len : length l.index.items ≡ l._file; empty : All (λ takers. takers ≡ []) l.index.items }
