use Rattle.foreman_run.specs.Lowers.{Keeps}
use Rattle.foreman_run.specs.Lost.{seen_of}
use Rattle.foreman_run.proofs.company.Company.check.Given as goal

abbrev pub invariant-loop-at : goal.invariant-loop-at
invariant-loop-at g l = Keeps g.L.Link.tells (seen_of g.L.Link.history g.L.Link.is_closed g.L.Link.count g.L.Link.idle_count) g.L.Link.honest l.fn.self l.self
