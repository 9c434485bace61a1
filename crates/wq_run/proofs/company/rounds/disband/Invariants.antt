use Rattle.std.proofs.Common.{◌≡◌, ℕ, List, Option, None, [], false, length}
use Rattle.run_history.specs.declared.moves.Move.{Move}
use Rattle.local_run.specs.declared.halt.Halt.{Halt}
use Rattle.wq_run.specs.Dues.{IsIllLink, KeepsDue}
use Rattle.wq_run.specs.Seats.{Meets, gathered, inside_of}
use Rattle.wq_run.specs.Trusted.{StaysOpen}
use Rattle.wq_run.specs.Vain.{HandsBack}
use Rattle.wq_run.proofs.Hands.{HandsOn}
use Rattle.wq_run.proofs.company.rounds.disband.Given as goal

abbrev pub invariant-loop-seat : goal.invariant-loop-seat
invariant-loop-seat g l = record {
  none : gathered l.company.seats ≡ [];
  guests : l.company.guests ≡ l.fn.company.guests;
  hands : g.H.Way.Link.tells → l.company.lost ≡ false → HandsOn g.H.Way.Link.history l.fn.company.seats l.company.seats (g.H.Hall.got l.fn.hall) (g.H.Hall.got l.hall);
  failed : l.company.failed ≡ l.fn.company.failed;
  listens : StaysOpen g.T.Trust.holds (g.H.Hall.listens l.fn.hall) (g.H.Hall.honest l.fn.hall) (g.H.Hall.listens l.hall) (g.H.Hall.honest l.hall);
  due : (limit : ℕ) (moves : List Move) → g.H.Way.Link.tells → (let none : Option Halt = None in KeepsDue (IsIllLink g.F.Commands.gives g.F.Commands.may_fail g.H.Way.Link.history g.H.Way.Link.count g.H.Way.Link.idle_count g.H.Way.Link.is_closed limit) g.H.Way.Link.history moves moves none none l.fn.company l.company (g.H.Hall.got l.fn.hall) (g.H.Hall.got l.hall));
  met : Meets (g.H.Hall.count l.fn.hall) (g.H.Hall.count l.hall) (g.H.Hall.got l.fn.hall) (g.H.Hall.got l.hall) (g.H.Hall.given l.fn.hall) (g.H.Hall.given l.hall) (g.H.Hall.idle_count l.fn.hall) (g.H.Hall.idle_count l.hall) (inside_of l.fn.company) (inside_of l.company) l.fn.company.failed l.company.failed l.fn.company.lost l.company.lost;
}

abbrev pub decreases-loop-seat : goal.decreases-loop-seat
decreases-loop-seat g l = length l.company.seats

abbrev pub invariant-loop-peer : goal.invariant-loop-peer
invariant-loop-peer g l = record {
  seats : l.company.seats ≡ [];
  hands : g.H.Way.Link.tells → l.fn.company.guests ≡ [] → l.company.lost ≡ false → HandsBack g.H.Way.Link.history l.fn.company.seats (g.H.Hall.got l.fn.hall) (g.H.Hall.got l.hall) × (l.company.guests ≡ []);
  failed : l.company.failed ≡ l.fn.company.failed;
  listens : StaysOpen g.T.Trust.holds (g.H.Hall.listens l.fn.hall) (g.H.Hall.honest l.fn.hall) (g.H.Hall.listens l.hall) (g.H.Hall.honest l.hall);
  due : (limit : ℕ) (moves : List Move) → g.H.Way.Link.tells → (let none : Option Halt = None in KeepsDue (IsIllLink g.F.Commands.gives g.F.Commands.may_fail g.H.Way.Link.history g.H.Way.Link.count g.H.Way.Link.idle_count g.H.Way.Link.is_closed limit) g.H.Way.Link.history moves moves none none l.fn.company l.company (g.H.Hall.got l.fn.hall) (g.H.Hall.got l.hall));
  met : Meets (g.H.Hall.count l.fn.hall) (g.H.Hall.count l.hall) (g.H.Hall.got l.fn.hall) (g.H.Hall.got l.hall) (g.H.Hall.given l.fn.hall) (g.H.Hall.given l.hall) (g.H.Hall.idle_count l.fn.hall) (g.H.Hall.idle_count l.hall) (inside_of l.fn.company) (inside_of l.company) l.fn.company.failed l.company.failed l.fn.company.lost l.company.lost;
}

abbrev pub decreases-loop-peer : goal.decreases-loop-peer
decreases-loop-peer g l = length l.company.guests
