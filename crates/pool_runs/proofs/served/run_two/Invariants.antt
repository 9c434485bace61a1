use Rattle.worker_pool.specs.Courses.{Heeds}
use Rattle.worker_pool.specs.Crews.{AllTell, AllSure}
use Rattle.pool_runs.proofs.served.run_two.Given as goal

-- what fits a job that every runner tells of is what the commands say
abbrev pub ghosts-run_served_in : goal.ghosts-run_served_in
ghosts-run_served_in g a = record {
  tickets = a.pass.table_id;
  fits = Heeds g.F.Commands.gives g.F.Commands.may_fail (AllTell g.R.Runner.tells a.runners.now) (AllSure g.R.Runner.sure a.runners.now);
}
