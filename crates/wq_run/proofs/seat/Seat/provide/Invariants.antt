use Rattle.std.proofs.Common.{ℕ, None, drop, ◌≡◌, Option}
use Rattle.peers.specs.Provides.{keys_of}
use Rattle.wq_run.specs.Calm.{AddsWell, Asked, IsSureOf, IsSureToAsk}
use Rattle.peers.specs.declared.leave.Leave.{Leave}
use Rattle.wq_run.specs.Dues.{FaresSeat, IsIllLink, ended}
use Rattle.local_run.specs.Underway.{IsSurePool}
use Rattle.wq_run.specs.Seats.{KeepsSeat}
use Rattle.wq_run.specs.Trusted.{IsFair, IsHeard, MayAsk}
use Rattle.wq_run.proofs.seat.Seat.provide.Given as goal

abbrev pub invariant-loop-file : goal.invariant-loop-file
invariant-loop-file g l = record {
  keeps : KeepsSeat g.T.Terms.trust g.F.Commands.gives g.F.Commands.may_fail g.T.Terms.sources g.S.Site.tells g.T.Terms.kept (IsSurePool g.B.Terms.fits) g.S.Site.files g.S.Site.may_leave g.S.Site.moment g.S.Site.images_since l.fn.desk l.desk l.fn.held l.held l.fn.self l.self;
  asks : l.held.halt ≡ None → IsHeard g.T.Trust.holds g.L.Link.tells → MayAsk g.T.Trust.holds g.F.Commands.gives g.F.Commands.may_fail g.L.Link.history (IsFair g.T.Trust.holds g.L.Link.tells g.L.Link.honest) g.T.Trust.plan g.T.Trust.run g.T.Trust.due l.self l.fn.task (keys_of l.fn.task.run (drop l.file-index l.fn.files));
  fares : (limit : ℕ) → g.L.Link.tells → FaresSeat (IsIllLink g.F.Commands.gives g.F.Commands.may_fail g.L.Link.history g.L.Link.count g.L.Link.idle_count g.L.Link.is_closed limit) g.L.Link.history l.fn.desk.moves l.desk.moves l.fn.held.halt l.held.halt l.fn.self l.self (ended Leave);
  calm : (asked : Option Asked) → g.L.Link.tells → IsSureToAsk g.F.Commands.gives g.F.Commands.may_fail g.L.Link.history (IsSureOf g.L.Link.sure g.L.Link.offers asked) l.fn.self l.fn.task (keys_of l.fn.task.run l.fn.files) → l.held.halt ≡ None → AddsWell l.fn.desk.moves l.desk.moves × IsSureToAsk g.F.Commands.gives g.F.Commands.may_fail g.L.Link.history (IsSureOf g.L.Link.sure g.L.Link.offers asked) l.self l.fn.task (keys_of l.fn.task.run (drop l.file-index l.fn.files));
}
