use Rattle.std.proofs.Common.{◌≡◌, length, All, []}
use Rattle.plan_show.proofs.files.no_takers.Given as goal

abbrev pub invariant-files : goal.invariant-files
invariant-files l = record { len : length l.index.items ≡ l._file; empty : All (λ takers. takers ≡ []) l.index.items }
