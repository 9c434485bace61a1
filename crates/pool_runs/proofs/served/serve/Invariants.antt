use Rattle.std.proofs.Common.{◌≡◌}
use Rattle.pool_runs.proofs.served.serve.Given as goal

abbrev pub invariant-loop : goal.invariant-loop
invariant-loop g l = l.pool.line ≡ l.fn.pool.line
