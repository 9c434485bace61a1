use Rattle.std.proofs.Common.{◌≡◌, ℕ, ◌<◌, false, get_or}
use Rattle.rule_graph.proofs.cycle.first_marked.Given as goal

abbrev pub invariant-rules : goal.invariant-rules
invariant-rules l = (r : ℕ) → r < l.rule → get_or l.marks r false ≡ false
