use Rattle.worker_pool.proofs.Runners.{answered}
use Rattle.worker_pool.proofs.work.work.Goals as goal

pub work_one-requires-clause-fits : goal.work_one-requires-clause-fits
work_one-requires-clause-fits g c κs lives job outcome a = c.requires.fits job outcome
    (answered g.R.Runner.tells g.R.Runner.sure g.F.Commands.gives g.F.Commands.may_fail c.args.runner.now c.loop.runner c.loop.invariant.stays job outcome a)
