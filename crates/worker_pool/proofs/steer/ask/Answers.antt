use Rattle.std.proofs.Common.{sym, subst, List, false, true}
use Rattle.flow_types.specs.declared.job.Start.{Start}
use Rattle.worker_pool.specs.Steers.{Steered}
use Rattle.worker_pool.proofs.Steps.{steered_give, steered_look, steered_done}
use Rattle.worker_pool.proofs.steer.ask.Goals as goal

pub returns-in-Give-clause-steered : goal.returns-in-Give-clause-steered
returns-in-Give-clause-steered g c first lost was =
    subst (λ (w : List Start). Steered g.C.Course.asked g.C.Course.told g.C.Course.due g.B.Terms.fits first c.next.new.self false w lost) (sym c.give-handed.ensures.waiting)
    (steered_give g.C.Course.asked g.C.Course.told g.C.Course.due g.B.Terms.fits first c.args.course.now c.next.new.self c.args.chief.now lost c.in-Give.start was c.in-Give.ensures.asked c.in-Give.ensures.kept c.in-Give.ensures.gives)

pub returns-in-Look-clause-steered : goal.returns-in-Look-clause-steered
returns-in-Look-clause-steered g c first lost was =
    steered_look g.C.Course.asked g.C.Course.told g.C.Course.due g.B.Terms.fits first c.args.course.now c.next.new.self c.args.chief.now lost was c.in-Look.ensures.asked c.in-Look.ensures.kept

pub returns-in-Done-clause-steered : goal.returns-in-Done-clause-steered
returns-in-Done-clause-steered g c first lost was =
    steered_done g.C.Course.asked g.C.Course.told g.C.Course.due g.B.Terms.fits first c.args.course.now c.next.new.self c.args.chief.now lost was c.in-Done.ensures.asked c.in-Done.ensures.kept
