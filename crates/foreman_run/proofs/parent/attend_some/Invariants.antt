use Rattle.std.proofs.Common.{◌≡◌, ℕ, Bool, false, [], length}
use Rattle.foreman_run.specs.Lost.{seen_of}
use Rattle.peer_run.specs.Works.{way_of}
use Rattle.foreman_run.specs.Tied.{Book}
use Rattle.foreman_run.specs.Works.{Works}
use Rattle.foreman_run.proofs.parent.attend_some.Given as goal

abbrev pub invariant-loop : goal.invariant-loop
invariant-loop g l = record {
  goes : (trusted : Bool) (cap : ℕ) (book : Book g.row.L.Denot) → Works g.F.Commands.gives g.F.Commands.may_fail g.U.Link.tells trusted g.L.Link.tells (seen_of g.L.Link.history g.L.Link.is_closed g.L.Link.count g.L.Link.idle_count) g.L.Link.honest cap book (way_of g.U.Link.history g.U.Link.is_closed g.U.Link.count l.fn.link) l.fn.ear l.fn.core l.fn.company [] [] false → Works g.F.Commands.gives g.F.Commands.may_fail g.U.Link.tells trusted g.L.Link.tells (seen_of g.L.Link.history g.L.Link.is_closed g.L.Link.count g.L.Link.idle_count) g.L.Link.honest cap book (way_of g.U.Link.history g.U.Link.is_closed g.U.Link.count l.link) l.ear l.core l.company [] [] false;
  many : length l.company ≡ length l.fn.company;
}
