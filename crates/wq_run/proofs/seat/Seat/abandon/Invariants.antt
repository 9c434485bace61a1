use Rattle.std.proofs.Common.{◌≡◌, List, length}
use Rattle.flow_types.specs.declared.job.Start.{Start}
use Rattle.worker_pool.specs.declared.hand.Tally.{Tally}
use Rattle.desk.specs.declared.attempt.Attempt.{Attempt}
use Rattle.desk.specs.State.{DeskState}
use Rattle.local_run.specs.Underway.{IsSurePool}
use Rattle.wq_run.specs.Dues.{GivesUp}
use Rattle.wq_run.specs.Seats.{AtPlace, Stays}
use Rattle.wq_run.proofs.seat.Seat.abandon.Given as goal

abbrev pub invariant-loop-attempt : goal.invariant-loop-attempt
invariant-loop-attempt g l = record {
  keeps : (front back : List Attempt) (first : DeskState g.row.S.Denot) (waiting : List Start) (heard : Tally)
      → AtPlace g.T.Terms.trust g.F.Commands.gives g.F.Commands.may_fail g.T.Terms.sources g.S.Site.tells g.T.Terms.kept (IsSurePool g.B.Terms.fits) g.S.Site.files g.S.Site.may_leave g.S.Site.moment g.S.Site.images_since front back first l.fn.desk l.fn.held waiting heard l.fn.self
      → AtPlace g.T.Terms.trust g.F.Commands.gives g.F.Commands.may_fail g.T.Terms.sources g.S.Site.tells g.T.Terms.kept (IsSurePool g.B.Terms.fits) g.S.Site.files g.S.Site.may_leave g.S.Site.moment g.S.Site.images_since front back first l.desk l.held waiting heard l.self;
  stays : Stays l.fn.desk l.desk l.fn.self l.self;
  peer : l.self.peer ≡ l.fn.self.peer;
  gives_up : GivesUp l.fn.self.link.0 l.fn.desk.moves l.desk.moves l.fn.held.halt l.held.halt;
}

abbrev pub decreases-loop-attempt : goal.decreases-loop-attempt
decreases-loop-attempt g l = length l.self.attempts
