use Rattle.std.specs.Prelude.{sum_by}
use Rattle.worker_pool.specs.Courses.{Heeds}
use Rattle.worker_pool.specs.Crews.{AllSure, AllTell}
use Rattle.worker_pool.proofs.Crews.{all_report}
use Rattle.local_run.specs.Underway.{IsSurePool}
use Rattle.local_run.proofs.RunsServed.{comes_less, comes_want}
use Rattle.local_run.proofs.serving.serve_all.Goals as goal

pub serve_in-requires-clause-runners : goal.serve_in-requires-clause-runners
serve_in-requires-clause-runners g c κs lives =
    all_report g.F.Commands.gives g.F.Commands.may_fail g.R.Runner.tells g.R.Runner.sure (λ job. g.T.Terms.trust × AllTell g.R.Runner.tells c.args.runners.now job) c.args.runners.now (λ job trusted. trusted.1)

pub serve_in-requires-clause-shaped : goal.serve_in-requires-clause-shaped
serve_in-requires-clause-shaped g c κs lives job outcome fits = fits.0.0

pub serve_in-requires-clause-base : goal.serve_in-requires-clause-base
serve_in-requires-clause-base g c κs lives trusted = let base = c.requires.base trusted in (base.0, base.1)

pub serve_in-requires-clause-told : goal.serve_in-requires-clause-told
serve_in-requires-clause-told g c κs lives trusted r row is may outcome fits = fits.0.1 (trusted, (c.requires.base trusted).2 r row is may)

pub returns-in_default : goal.returns-in_default
returns-in_default g c = record {
  came = comes_want g.T.Terms.trust g.F.Commands.gives g.F.Commands.may_fail g.T.Terms.sources g.S.Site.tells g.T.Terms.kept (AllSure g.R.Runner.sure c.args.runners.now) g.S.Site.files g.S.Site.may_leave g.S.Site.moment g.S.Site.images_since g.A.Admission.admitted c.args.desk.now (sum_by g.R.Runner.count c.args.runners.now) (sum_by g.R.Runner.failures c.args.runners.now) (λ told image. (g.met.S.Site g.world.𝓛 g.world.𝓜 g.world.𝓡 ((λ s x. x), (λ x. x), (λ x. x), λ x. x)).only_now told c.args.desk.now.site image) c.requires.idle;
  stays = λ P stands. stands;
}

pub returns : goal.returns
returns g c = record {
  came = comes_less g.T.Terms.trust g.F.Commands.gives g.F.Commands.may_fail g.T.Terms.sources g.S.Site.tells g.T.Terms.kept (IsSurePool (Heeds g.F.Commands.gives g.F.Commands.may_fail (λ job. g.T.Terms.trust × AllTell g.R.Runner.tells c.args.runners.now job) (AllSure g.R.Runner.sure c.args.runners.now))) g.S.Site.files g.S.Site.may_leave g.S.Site.moment g.S.Site.images_since g.A.Admission.admitted (AllSure g.R.Runner.sure c.args.runners.now) c.args.desk.now c.serve_in.new.desk (sum_by g.R.Runner.count c.args.runners.now) (sum_by g.R.Runner.count c.serve_in.new.runners) (sum_by g.R.Runner.failures c.args.runners.now) (sum_by g.R.Runner.failures c.serve_in.new.runners) c.serve_in.result
      (λ all job outcome fits. fits.1 all) c.serve_in.ensures.came;
  stays = c.serve_in.ensures.stays;
}
