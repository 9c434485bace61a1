use Rattle.std.proofs.Common.{None, true, ◌≡◌, Option}
use Rattle.links.specs.Honesty.{OwesNothing}
use Rattle.links.specs.Passings.{received_in, sent_in}
use Rattle.wq_run.specs.Calm.{AddsWell, Asked, IsSureOf, IsSureSeat}
use Rattle.peers.specs.declared.leave.Leave.{Leave}
use Rattle.wq_run.specs.Dues.{FaresSeat, IsIllLink, ended}
use Rattle.local_run.specs.Underway.{IsSurePool}
use Rattle.wq_run.specs.Seats.{KeepsSeat}
use Rattle.wq_run.proofs.seat.Seat.serve.Given as goal

abbrev pub invariant-loop : goal.invariant-loop
invariant-loop g l = record {
  keeps : KeepsSeat g.T.Terms.trust g.F.Commands.gives g.F.Commands.may_fail g.T.Terms.sources g.S.Site.tells g.T.Terms.kept (IsSurePool g.B.Terms.fits) g.S.Site.files g.S.Site.may_leave g.S.Site.moment g.S.Site.images_since l.fn.desk l.desk l.fn.held l.held l.fn.self l.self;
  fares : g.L.Link.tells → FaresSeat (IsIllLink g.F.Commands.gives g.F.Commands.may_fail g.L.Link.history g.L.Link.count g.L.Link.idle_count g.L.Link.is_closed l.fn.limit) g.L.Link.history l.fn.desk.moves l.desk.moves l.fn.held.halt l.held.halt l.fn.self l.self (ended Leave);
  calm : (asked : Option Asked) → g.L.Link.tells → IsSureSeat g.F.Commands.gives g.F.Commands.may_fail g.L.Link.history (IsSureOf g.L.Link.sure g.L.Link.offers asked) l.fn.self → l.held.halt ≡ None → AddsWell l.fn.desk.moves l.desk.moves × IsSureSeat g.F.Commands.gives g.F.Commands.may_fail g.L.Link.history (IsSureOf g.L.Link.sure g.L.Link.offers asked) l.self × (l.was_idle ≡ true → OwesNothing (sent_in (g.L.Link.history l.self.peer.way)) (received_in (g.L.Link.history l.self.peer.way)));
}
