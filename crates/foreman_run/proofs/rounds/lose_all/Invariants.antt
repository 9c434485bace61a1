use Rattle.std.proofs.Common.{◌≡◌, ℕ, Bool, false, [], length}
use Rattle.foreman_run.specs.Lost.{seen_of}
use Rattle.peer_run.specs.Works.{EarState, way_of}
use Rattle.foreman_run.specs.Hosts.{Hosts}
use Rattle.foreman_run.specs.Tied.{Book, with_got}
use Rattle.foreman_run.specs.Works.{Works}
use Rattle.foreman_run.proofs.rounds.lose_all.Given as goal

abbrev pub invariant-loop : goal.invariant-loop
invariant-loop g l = record {
  goes : (trusted : Bool) (cap : ℕ) (book : Book g.row.H-Way.Denot) (ear : EarState) → Works g.F.Commands.gives g.F.Commands.may_fail g.U.Link.tells trusted g.H.Way.Link.tells (seen_of g.H.Way.Link.history g.H.Way.Link.is_closed g.H.Way.Link.count g.H.Way.Link.idle_count) g.H.Way.Link.honest cap (with_got book (g.H.Hall.got l.fn.hall)) (way_of g.U.Link.history g.U.Link.is_closed g.U.Link.count l.fn.parent) ear l.fn.core l.fn.company [] [] false → Works g.F.Commands.gives g.F.Commands.may_fail g.U.Link.tells trusted g.H.Way.Link.tells (seen_of g.H.Way.Link.history g.H.Way.Link.is_closed g.H.Way.Link.count g.H.Way.Link.idle_count) g.H.Way.Link.honest cap (with_got book (g.H.Hall.got l.hall)) (way_of g.U.Link.history g.U.Link.is_closed g.U.Link.count l.parent) ear l.core l.company [] [] false;
  hosts : Hosts (g.H.Hall.count l.fn.hall) (g.H.Hall.count l.hall) (g.H.Hall.got l.fn.hall) (g.H.Hall.got l.hall) (g.H.Hall.given l.fn.hall) (g.H.Hall.given l.hall) (length l.fn.company) (length l.company) 0;
  given : g.H.Hall.given l.hall ≡ g.H.Hall.given l.fn.hall;
  listens : g.H.Hall.listens l.fn.hall → g.H.Hall.listens l.hall;
  honest : g.H.Hall.honest l.fn.hall → g.H.Hall.honest l.hall;
}
