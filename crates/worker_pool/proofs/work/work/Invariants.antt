use Rattle.std.proofs.Common.{◌≡◌, ◌<◌}
use Rattle.crossbeam_queue.specs.Passes.{view, IsPassOf, IsSamePass}
use Rattle.worker_pool.specs.Courses.{StaysTrue}
use Rattle.worker_pool.specs.Tallies.{GrowsWith}
use Rattle.worker_pool.proofs.work.work.Given as goal

abbrev pub invariant-loop : goal.invariant-loop
invariant-loop g l = record {
  token : IsPassOf l.line.reports l.token × (0 < (view l.token).parts);
  same : IsSamePass l.fn.token l.token;
  hand : ((view l.token).parts ≡ (view l.fn.token).parts) × ((view l.token).taken ≡ (view l.fn.token).taken);
  counted : GrowsWith (view l.fn.token).put (view l.token).put (g.R.Runner.count l.fn.runner) (g.R.Runner.count l.runner) (g.R.Runner.failures l.fn.runner) (g.R.Runner.failures l.runner);
  stays : StaysTrue g.R.Runner.tells g.R.Runner.sure l.fn.runner l.runner;
}
