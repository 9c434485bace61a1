use Rattle.std.proofs.Common.{[], false, arith}
use Rattle.std.specs.Prelude.{sum_by}
use Rattle.worker_pool.specs.Courses.{Heeds}
use Rattle.worker_pool.specs.Crews.{AllSure}
use Rattle.worker_pool.specs.Tallies.{none}
use Rattle.worker_pool.proofs.Crews.{all_report}
use Rattle.peer_run.specs.Ends.{TellAll}
use Rattle.peer_run.specs.Works.{IsToldPool, way_of}
use Rattle.peer_run.proofs.Going.{wants, work_left}
use Rattle.peer_run.proofs.pool.serve_all.Goals as goal

pub serve_in-requires-clause-runners : goal.serve_in-requires-clause-runners
serve_in-requires-clause-runners g c κs lives =
    all_report g.F.Commands.gives g.F.Commands.may_fail g.R.Runner.tells g.R.Runner.sure (λ job. TellAll g.R.Runner.tells c.args.runners.now) c.args.runners.now (λ job trusted. trusted job)

pub serve_in-requires-clause-shaped : goal.serve_in-requires-clause-shaped
serve_in-requires-clause-shaped g c κs lives job outcome fits = fits.0.0

pub serve_in-requires-clause-works : goal.serve_in-requires-clause-works
serve_in-requires-clause-works g c κs lives = (c.requires.works.0, 0, c.requires.works.1)

pub returns-in_default : goal.returns-in_default
returns-in_default g c = record {
  leaves = λ first works.
      let fits = Heeds g.F.Commands.gives g.F.Commands.may_fail (λ job. TellAll g.R.Runner.tells c.args.runners.now) (AllSure g.R.Runner.sure c.args.runners.now) in
      let way = way_of g.L.Link.history g.L.Link.is_closed g.L.Link.count c.args.link.now in
      work_left g.F.Commands.gives g.F.Commands.may_fail g.L.Link.tells g.R.Runner.tells g.R.Runner.sure c.args.runners.now first way (sum_by g.R.Runner.count c.args.runners.now) (sum_by g.R.Runner.count c.args.runners.now) _
      (none, wants g.F.Commands.gives g.F.Commands.may_fail g.L.Link.tells (IsToldPool g.F.Commands.gives g.F.Commands.may_fail fits) fits first 0 way c.args.ear.now c.args.core.now [] none false works, omega arith);
}

pub returns : goal.returns
returns g c = record {
  leaves = λ first works.
      work_left g.F.Commands.gives g.F.Commands.may_fail g.L.Link.tells g.R.Runner.tells g.R.Runner.sure c.args.runners.now first (way_of g.L.Link.history g.L.Link.is_closed g.L.Link.count c.serve_in.new.link) (sum_by g.R.Runner.count c.args.runners.now) (sum_by g.R.Runner.count c.serve_in.new.runners) c.serve_in.result
      (c.serve_in.ensures.leaves first 0 works);
}
