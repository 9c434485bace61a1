use Rattle.std.proofs.Common.{false, [], arith, rules}
use Rattle.worker_pool.specs.Tallies.{none}
use Rattle.worker_pool.proofs.Steps.{steered_self}
use Rattle.worker_pool.proofs.driving.drive_in.Goals as goal

pub returns-in_default : goal.returns-in_default
returns-in_default g c = record {
  steered = (false, [], none, steered_self g.C.Course.asked g.C.Course.told g.C.Course.due g.B.Terms.fits c.args.course.now, (omega arith, omega arith), search rules);
}
