use Rattle.std.proofs.Common.{ℕ, arith, string_bytes, subst}
use Rattle.batch_run.specs.Ends.{IsBrought, WasIdle, most_idles}
use Rattle.batch_run.proofs.Batches.{brought_fairer, fails_wider, run_wider, text_so}
use Rattle.batch_run.proofs.Manned.{never_idle}
use Rattle.batch_run.proofs.running.listen_and_run.Goals as goal

pub returns-in-Ok-clause-ends : goal.returns-in-Ok-clause-ends
returns-in-Ok-clause-ends g c =
    text_so (IsBrought g.H.Way.Link.tells (g.H.Way.Link.tells × g.H.Hall.honest c.args.hall.now) g.F.Commands.gives g.F.Commands.may_fail g.H.Way.Link.history)
    (IsBrought g.H.Way.Link.tells (g.H.Way.Link.tells × g.H.Hall.honest c.listen.new.hall) g.F.Commands.gives g.F.Commands.may_fail g.H.Way.Link.history)
    (brought_fairer g.H.Way.Link.tells g.F.Commands.gives g.F.Commands.may_fail g.H.Way.Link.history _ _ (λ f. (f.0, c.listen.ensures.honest f.1)))
    string_bytes c.args.tasks.items c.run_tasks.result c.run_tasks.ensures.ends

pub returns-in-Ok-clause-cause : goal.returns-in-Ok-clause-cause
returns-in-Ok-clause-cause g c =
    run_wider _ _ (g.H.Hall.count c.args.hall.now) (g.H.Hall.count c.listen.new.hall) (g.H.Hall.count c.run_tasks.new.hall) (g.H.Hall.count c.run_tasks.new.hall) c.run_tasks.result
    (λ was. subst (λ (n : ℕ). WasIdle g.H.Way.Link.idle_count n (g.H.Hall.idle_count c.run_tasks.new.hall) most_idles) c.listen.ensures.idles was)
    c.listen.ensures.rises (omega arith) c.run_tasks.ensures.cause

pub returns-in-Err-clause-cause : goal.returns-in-Err-clause-cause
returns-in-Err-clause-cause g c = fails_wider ⊥ _ (g.H.Hall.count c.args.hall.now) (g.H.Hall.count c.args.hall.now) (g.H.Hall.count c.listen.new.hall) (g.H.Hall.count c.listen.new.hall) c.in-Err.cause (λ never. absurd never) (omega arith) (omega arith) c.in-Err.ensures.cause

pub returns-in-Ok-clause-manned : goal.returns-in-Ok-clause-manned
returns-in-Ok-clause-manned g c least fit is = c.run_tasks.ensures.manned least fit (c.listen.ensures.manned least is)

pub returns-in-Err-clause-manned : goal.returns-in-Err-clause-manned
returns-in-Err-clause-manned g c least fit is = never_idle (g.H.Hall.count c.args.hall.now) (g.H.Hall.count c.listen.new.hall) c.in-Err.cause c.in-Err.ensures.cause
