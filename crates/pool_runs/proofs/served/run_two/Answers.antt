use Rattle.worker_pool.specs.Crews.{AllTell}
use Rattle.worker_pool.proofs.Crews.{all_report}
use Rattle.pool_runs.proofs.served.run_two.Goals as goal

pub run_served_in-requires-clause-fits : goal.run_served_in-requires-clause-fits
run_served_in-requires-clause-fits g c κs lives =
    all_report g.F.Commands.gives g.F.Commands.may_fail g.R.Runner.tells g.R.Runner.sure (AllTell g.R.Runner.tells c.args.runners.now) c.args.runners.now (λ job t. t)
