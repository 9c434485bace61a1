use Rattle.worker_pool.specs.Courses.{Heeds}
use Rattle.worker_pool.specs.Crews.{AllSure, AllTell}
use Rattle.wq_run.proofs.serving.serve_all.Given as goal

-- an outcome fits as the runners tell, where commands are trusted, and is a success where all are sure
abbrev pub ghosts-serve_in : goal.ghosts-serve_in
ghosts-serve_in g a = record {
  tickets = a.pass.table_id;
  fits = Heeds g.F.Commands.gives g.F.Commands.may_fail (λ job. g.T.Terms.trust × AllTell g.R.Runner.tells a.runners.now job) (AllSure g.R.Runner.sure a.runners.now);
}
