use Rattle.std.proofs.Common.{◌≡◌}
use Rattle.link_cases.proofs.hall_calls.something_comes.Given as goal

-- a look and a wait change nothing
abbrev pub invariant-loop : goal.invariant-loop
invariant-loop g l = l.hall ≡ l.fn.hall
