use Rattle.std.proofs.Common.{◌≡◌, ℕ, List, [], replicate}
use Rattle.rule_progress.proofs.takers.no_takers.Given as goal

abbrev none : List ℕ
none = []

abbrev pub invariant-loop : goal.invariant-loop
invariant-loop l = l.files.items ≡ replicate l.counter none
