use Rattle.std.proofs.Common.{ℕ, arith, subst, sym}
use Rattle.wq_submit.specs.Queues.{IsTrusted, QueueState}
use Rattle.batch_run.specs.Ends.{IsBrought, WasIdle, most_idles}
use Rattle.batch_run.proofs.Batches.{brought_fairer, ends_so, new_trusted, run_wider}
use Rattle.batch_run.proofs.running.done_of.Goals as goal

pub returns-clause-ends : goal.returns-clause-ends
returns-clause-ends g c =
    ends_so (IsBrought g.H.Way.Link.tells (g.H.Way.Link.tells × g.H.Hall.honest c.args.hall.now) g.F.Commands.gives g.F.Commands.may_fail g.H.Way.Link.history)
    (IsBrought g.H.Way.Link.tells (g.H.Hall.honest c.args.hall.now × IsTrusted g.H.Way.Link.tells g.F.Commands.gives g.F.Commands.may_fail g.H.Way.Link.honest c.new-queue.result) g.F.Commands.gives g.F.Commands.may_fail g.H.Way.Link.history)
    (brought_fairer g.H.Way.Link.tells g.F.Commands.gives g.F.Commands.may_fail g.H.Way.Link.history _ _
    (λ f. (f.1, new_trusted g.H.Way.Link.tells g.F.Commands.gives g.F.Commands.may_fail g.H.Way.Link.honest c.new-queue.result c.new-queue.ensures.new f.0)))
    c.args.tasks.items c.run_queue-done.new.ends.items c.run_queue-done.ensures.ends

pub returns-clause-cause : goal.returns-clause-cause
returns-clause-cause g c =
    run_wider _ _ (g.H.Hall.count c.args.hall.now) (g.H.Hall.count c.args.hall.now) (g.H.Hall.count c.run_queue-done.new.hall) (g.H.Hall.count c.dismiss.new.hall) c.run_queue-done.result
    (λ was. subst (λ (n : ℕ). WasIdle g.H.Way.Link.idle_count (g.H.Hall.idle_count c.args.hall.now) n most_idles) (sym c.dismiss.ensures.idles) was)
    (omega arith) (omega (arith, c.dismiss.ensures.faults)) c.run_queue-done.ensures.cause

pub returns-clause-manned : goal.returns-clause-manned
returns-clause-manned g c least fit is = c.run_queue-done.ensures.manned least fit (c.new-queue.ensures.staffed least c.args.hall.now is)
