use Rattle.std.proofs.Common.{length}
use Rattle.foreman_run.specs.Lost.{seen_of}
use Rattle.foreman_core.specs.Members.{Every, Stands}
use Rattle.foreman_run.specs.Lowers.{KeepsWith}
use Rattle.foreman_run.proofs.company.Company.send_all.Given as goal

abbrev pub invariant-loop-down : goal.invariant-loop-down
invariant-loop-down g l = record {
  keeps : KeepsWith g.L.Link.tells (seen_of g.L.Link.history g.L.Link.is_closed g.L.Link.count g.L.Link.idle_count) g.L.Link.honest l.fn.downs l.fn.self l.self;
  left : Every (λ d. Stands d l.fn.downs) l.left.items;
}

abbrev pub decreases-loop-down : goal.decreases-loop-down
decreases-loop-down g l = length l.left.items
