use Rattle.std.proofs.Common.{ap}
use Rattle.local_run.specs.Underway.{HeldState, IsSurePool}
use Rattle.run_history.specs.Links.{records_of}
use Rattle.wq_run.specs.Trusted.{IsFair}
use Rattle.wq_run.proofs.Closes.{inside, placed}
use Rattle.peers.specs.Provides.{keys_of}
use Rattle.wq_run.proofs.Trusts.{again_asks, alone_at, own_by}
use Rattle.local_run.specs.declared.halt.Halt.TheVariants as halts
use Rattle.wq_run.proofs.Asks.{keeps_want}
use Rattle.wq_run.proofs.Fares.{fares_stopped_same}
use Rattle.wq_run.proofs.seat.Seat.put_again.Goals as goal

pub task-requires-clause-inside : goal.task-requires-clause-inside
task-requires-clause-inside g c κs within =
    let is = c.requires.at in
    inside g.T.Terms.trust g.F.Commands.gives g.F.Commands.may_fail g.T.Terms.sources g.S.Site.tells g.T.Terms.kept (IsSurePool g.B.Terms.fits) g.S.Site.files g.S.Site.may_leave g.S.Site.moment g.S.Site.images_since is.front is.back is.first c.args.desk.now c.args.held.now is.waiting is.heard c.args.self.now (placed g.T.Terms.trust g.F.Commands.gives g.F.Commands.may_fail g.T.Terms.sources g.S.Site.tells g.T.Terms.kept (IsSurePool g.B.Terms.fits) g.S.Site.files g.S.Site.may_leave g.S.Site.moment g.S.Site.images_since is.front is.back is.first c.args.desk.now c.args.held.now is.waiting is.heard c.args.self.now is.at)

pub provide-requires-clause-asks : goal.provide-requires-clause-asks
provide-requires-clause-asks g c κs within held =
    let of = c.in-Some.ensures.of in
    again_asks g.T.Trust.holds g.F.Commands.gives g.F.Commands.may_fail g.L.Link.history (IsFair g.T.Trust.holds g.L.Link.tells g.L.Link.honest) g.T.Trust.plan g.T.Trust.run g.T.Trust.due c.args.self.now c.args.number of.0 of.1 of.2 c.in-Some.task (keys_of c.in-Some.task.run c.args.files.now) of.3 of.4 (alone_at g.T.Terms.trust g.F.Commands.gives g.F.Commands.may_fail g.T.Terms.sources g.S.Site.tells g.T.Terms.kept (IsSurePool g.B.Terms.fits) g.S.Site.files g.S.Site.may_leave g.S.Site.moment g.S.Site.images_since g.T.Trust.holds g.T.Trust.plan g.T.Trust.options g.T.Trust.run g.T.Trust.due c.args.desk.now c.args.held.now c.args.self.now of.0 of.1 of.2 of.3 c.requires.at)
    (own_by c.args.desk.now.plan c.args.desk.now.options (records_of c.args.desk.now.moves) of.1 c.in-Some.task c.requires.of of.5) (c.requires.was held)

pub returns-in-None : goal.returns-in-None
returns-in-None g c = record {
  keeps = keeps_want g.T.Terms.trust g.F.Commands.gives g.F.Commands.may_fail g.T.Terms.sources g.S.Site.tells g.T.Terms.kept (IsSurePool g.B.Terms.fits) g.S.Site.files g.S.Site.may_leave g.S.Site.moment g.S.Site.images_since c.args.desk.now c.args.held.now c.stop.new.self c.args.self.now c.stop.ensures c.requires.at;
  fares = λ limit tells. fares_stopped_same halts.Memory (ap (λ (h : HeldState). h.halt) c.stop.ensures);
}
