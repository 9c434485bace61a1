use Rattle.worker_pool.specs.Courses.{Heeds}
use Rattle.worker_pool.specs.Hands.{Crew}
use Rattle.worker_pool.proofs.driving.drive.Given as goal

abbrev pub ghosts-drive_in : goal.ghosts-drive_in
ghosts-drive_in g a = record {
  tickets = a.pass.table_id;
  fits = Heeds g.F.Commands.gives g.F.Commands.may_fail g.C.Course.trust (Crew g.R.Runner.sure a.runners.now);
}
