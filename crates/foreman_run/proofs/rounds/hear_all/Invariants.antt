use Rattle.std.proofs.Common.{◌≡◌, ℕ, Bool, false, [], length}
use Rattle.foreman_run.specs.Lost.{seen_of}
use Rattle.peer_run.specs.Works.{EarState, way_of}
use Rattle.foreman_run.specs.Tied.{Book}
use Rattle.foreman_run.specs.Works.{Works}
use Rattle.foreman_run.proofs.rounds.hear_all.Given as goal

abbrev pub invariant-loop-at : goal.invariant-loop-at
invariant-loop-at g l = record {
  goes : (trusted : Bool) (cap : ℕ) (book : Book g.row.L.Denot) (ear : EarState) → Works g.F.Commands.gives g.F.Commands.may_fail g.U.Link.tells trusted g.L.Link.tells (seen_of g.L.Link.history g.L.Link.is_closed g.L.Link.count g.L.Link.idle_count) g.L.Link.honest cap book (way_of g.U.Link.history g.U.Link.is_closed g.U.Link.count l.fn.parent) ear l.fn.core l.fn.company [] [] false → Works g.F.Commands.gives g.F.Commands.may_fail g.U.Link.tells trusted g.L.Link.tells (seen_of g.L.Link.history g.L.Link.is_closed g.L.Link.count g.L.Link.idle_count) g.L.Link.honest cap book (way_of g.U.Link.history g.U.Link.is_closed g.U.Link.count l.parent) ear l.core l.company [] [] false;
  many : length l.company ≡ length l.fn.company;
}
