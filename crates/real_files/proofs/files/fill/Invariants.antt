use Rattle.std.proofs.Common.{◌≤◌}
use Rattle.real_files.proofs.files.fill.Given as goal

abbrev pub invariant-loop : goal.invariant-loop
invariant-loop g l = l.done ≤ l.room
