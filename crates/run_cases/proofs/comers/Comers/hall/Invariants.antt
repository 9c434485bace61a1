use Rattle.mem_links.specs.MemHalls.{AreFresh}
use Rattle.run_cases.proofs.comers.Comers.hall.Given as goal

-- nothing has passed over a link of those that are there already
abbrev pub invariant-loop : goal.invariant-loop
invariant-loop l = AreFresh l.steps.items
