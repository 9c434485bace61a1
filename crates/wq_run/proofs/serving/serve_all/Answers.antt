use Rattle.std.proofs.Common.{refl}
use Rattle.std.specs.Prelude.{sum_by}
use Rattle.worker_pool.specs.Courses.{Heeds}
use Rattle.worker_pool.specs.Crews.{AllSure, AllTell}
use Rattle.worker_pool.proofs.Crews.{all_report}
use Rattle.local_run.specs.Underway.{IsSurePool}
use Rattle.wq_run.proofs.Services.{met_none, on_less, on_want}
use Rattle.local_run.specs.declared.halt.Halt.TheVariants as halts
use Rattle.wq_run.proofs.Duties.{due_halted}
use Rattle.wq_run.proofs.Calmly.{calm_halted}
use Rattle.wq_run.proofs.serving.serve_all.Goals as goal

pub serve_in-requires-clause-runners : goal.serve_in-requires-clause-runners
serve_in-requires-clause-runners g c κs lives =
    all_report g.F.Commands.gives g.F.Commands.may_fail g.R.Runner.tells g.R.Runner.sure (λ job. g.T.Terms.trust × AllTell g.R.Runner.tells c.args.runners.now job) c.args.runners.now (λ job trusted. trusted.1)

pub serve_in-requires-clause-shaped : goal.serve_in-requires-clause-shaped
serve_in-requires-clause-shaped g c κs lives job outcome fits = fits.0.0

pub serve_in-requires-clause-told : goal.serve_in-requires-clause-told
serve_in-requires-clause-told g c κs lives trusted r row is may outcome fits = fits.0.1 (trusted, c.requires.told trusted r row is may)

pub returns-in_default : goal.returns-in_default
returns-in_default g c = record {
  came = on_want g.T.Terms.trust g.F.Commands.gives g.F.Commands.may_fail g.T.Terms.sources g.S.Site.tells g.T.Terms.kept (AllSure g.R.Runner.sure c.args.runners.now) g.S.Site.files g.S.Site.may_leave g.S.Site.moment g.S.Site.images_since c.args.desk.now (sum_by g.R.Runner.count c.args.runners.now) (sum_by g.R.Runner.failures c.args.runners.now) (λ told image. (g.met.S.Site g.world.𝓛 g.world.𝓜 g.world.𝓡 ((λ s x. x), (λ x. x), (λ x. x), λ x. x)).only_now told c.args.desk.now.site image) c.requires.idle;
  sure = λ is. is;
  tells = λ job is. is;
  seats = c.requires.seats;
  none = c.requires.none;
  listens = c.requires.listens;
  met = met_none;
  due = λ tells. due_halted _ _ halts.Memory refl;
  calm = λ asked tells is. calm_halted halts.Memory refl;
  stays = λ P stands. stands;
}

pub returns : goal.returns
returns g c = record {
  came = on_less g.T.Terms.trust g.F.Commands.gives g.F.Commands.may_fail g.T.Terms.sources g.S.Site.tells g.T.Terms.kept (IsSurePool (Heeds g.F.Commands.gives g.F.Commands.may_fail (λ job. g.T.Terms.trust × AllTell g.R.Runner.tells c.args.runners.now job) (AllSure g.R.Runner.sure c.args.runners.now))) g.S.Site.files g.S.Site.may_leave g.S.Site.moment g.S.Site.images_since (AllSure g.R.Runner.sure c.args.runners.now) c.args.desk.now c.serve_in.new.desk (sum_by g.R.Runner.count c.args.runners.now) (sum_by g.R.Runner.count c.serve_in.new.runners) (sum_by g.R.Runner.failures c.args.runners.now) (sum_by g.R.Runner.failures c.serve_in.new.runners) c.serve_in.result
      (λ all job outcome fits. fits.1 all) c.serve_in.ensures.came;
  sure = c.serve_in.ensures.sure;
  tells = c.serve_in.ensures.tells;
  seats = c.serve_in.ensures.seats;
  none = c.serve_in.ensures.none;
  listens = c.serve_in.ensures.listens;
  met = c.serve_in.ensures.met;
  due = c.serve_in.ensures.due;
  calm = λ asked tells is. c.serve_in.ensures.calm asked tells (λ job outcome fits. fits.1 is);
  stays = c.serve_in.ensures.stays;
}
