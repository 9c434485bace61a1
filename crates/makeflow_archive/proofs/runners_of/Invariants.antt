use Rattle.std.proofs.Common.{◌≡◌, length}
use Rattle.makeflow_archive.proofs.runners_of.Given as goal

-- so many runners so far
abbrev pub invariant-loop : goal.invariant-loop
invariant-loop g l = length l.runners.items ≡ l.counter
