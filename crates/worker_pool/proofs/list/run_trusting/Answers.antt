use Rattle.std.proofs.Common.{ap, arith}
use Rattle.worker_pool.specs.Courses.{Heeds, NoneHas}
use Rattle.worker_pool.specs.declared.hand.Tally.{Tally}
use Rattle.worker_pool.specs.Hands.{Crew}
use Rattle.worker_pool.proofs.Listed.{listed_all}
use Rattle.worker_pool.proofs.list.run_trusting.Goals as goal

pub returns-clause-reported : goal.returns-clause-reported
returns-clause-reported g c =
    let s = c.in_ok-drive.ensures.steered in
    (listed_all (λ jobs start. NoneHas start.attempt jobs.left) (Heeds g.F.Commands.gives g.F.Commands.may_fail g.B.Trusting.trust (Crew g.R.Runner.sure c.args.runners.now)) c.args.jobs c.in_ok-course.course c.drive.new.course
    s.0 s.1 s.2 c.into_reports.result c.in_ok-course.ensures s.3 s.5.1 s.5.2 c.into_reports.ensures).0

pub returns-clause-counted : goal.returns-clause-counted
returns-clause-counted g c =
    let s = c.in_ok-drive.ensures.steered in
    let all = listed_all (λ jobs start. NoneHas start.attempt jobs.left) (Heeds g.F.Commands.gives g.F.Commands.may_fail g.B.Trusting.trust (Crew g.R.Runner.sure c.args.runners.now)) c.args.jobs c.in_ok-course.course c.drive.new.course
    s.0 s.1 s.2 c.into_reports.result c.in_ok-course.ensures s.3 s.5.1 s.5.2 c.into_reports.ensures in
    let fewer = s.4 in
    (omega (arith, ap (λ (t : Tally). t.unrun) all.1, fewer.0), omega (arith, ap (λ (t : Tally). t.failed) all.1, fewer.1))
