use Rattle.std.proofs.Common.{false, [], arith, rules}
use Rattle.worker_pool.specs.Hands.{Crew}
use Rattle.worker_pool.specs.Courses.{Heeds}
use Rattle.worker_pool.proofs.Crews.{crew_reports}
use Rattle.worker_pool.specs.Tallies.{none}
use Rattle.worker_pool.proofs.Steps.{steered_self}
use Rattle.worker_pool.proofs.driving.drive.Goals as goal

pub drive_in-requires-clause-runners : goal.drive_in-requires-clause-runners
drive_in-requires-clause-runners g c κs lives =
    crew_reports g.F.Commands.gives g.F.Commands.may_fail g.R.Runner.tells g.R.Runner.sure g.C.Course.trust c.args.runners.now c.requires.trust

pub returns-in_default : goal.returns-in_default
returns-in_default g c = record {
  steered = (false, [], none, steered_self g.C.Course.asked g.C.Course.told g.C.Course.due (Heeds g.F.Commands.gives g.F.Commands.may_fail g.C.Course.trust (Crew g.R.Runner.sure c.args.runners.now)) c.args.course.now, (omega arith, omega arith), search rules);
}
