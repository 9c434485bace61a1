use Rattle.std.proofs.Common.{List, length, ap, sym, subst}
use Rattle.std.specs.Prelude.{replicate}
use Rattle.task_book.specs.Kept.{Kept}
use Rattle.wq_submit.specs.Queues.{IsTrusted}
use Rattle.batch_run.specs.declared.ends.End.{End}
use Rattle.batch_run.specs.Ends.{AreShown, IsBrought, MayEndSo}
use Rattle.batch_run.proofs.Batches.{brought_fairer, ends_so, open_so, shown_none, shown_on}
use Rattle.batch_run.proofs.running.run_queue.Goals as goal

pub returns-in-Ok-clause-ends : goal.returns-in-Ok-clause-ends
returns-in-Ok-clause-ends g c =
    ends_so (IsBrought g.H.Way.Link.tells (g.H.Hall.honest c.args.hall.now × IsTrusted g.H.Way.Link.tells g.F.Commands.gives g.F.Commands.may_fail g.H.Way.Link.honest c.args.queue.now) g.F.Commands.gives g.F.Commands.may_fail g.H.Way.Link.history)
    (IsBrought g.H.Way.Link.tells (g.H.Hall.honest c.args.hall.now × IsTrusted g.H.Way.Link.tells g.F.Commands.gives g.F.Commands.may_fail g.H.Way.Link.honest c.submit_all.new.queue) g.F.Commands.gives g.F.Commands.may_fail g.H.Way.Link.history)
    (brought_fairer g.H.Way.Link.tells g.F.Commands.gives g.F.Commands.may_fail g.H.Way.Link.history _ _ (λ f. (f.0, c.submit_all.ensures.trusted f.1)))
    c.args.tasks.items c.wait_all.new.ends.items
    (c.wait_all.ensures.ends c.args.tasks.items c.in-Ok.ensures.of
    (λ tells. shown_on g.H.Way.Link.history c.args.queue.now.kept.held c.submit_all.new.queue.kept.held c.submit_all.ensures.ends
    (subst (λ (k : Kept). AreShown g.H.Way.Link.history k.held) (sym c.requires.none) (shown_none g.H.Way.Link.history)))
    (subst (λ (es : List End). MayEndSo (IsBrought g.H.Way.Link.tells (g.H.Hall.honest c.args.hall.now × IsTrusted g.H.Way.Link.tells g.F.Commands.gives g.F.Commands.may_fail g.H.Way.Link.honest c.submit_all.new.queue) g.F.Commands.gives g.F.Commands.may_fail g.H.Way.Link.history) c.args.tasks.items es) (sym c.requires.ends) (open_so (IsBrought g.H.Way.Link.tells (g.H.Hall.honest c.args.hall.now × IsTrusted g.H.Way.Link.tells g.F.Commands.gives g.F.Commands.may_fail g.H.Way.Link.honest c.submit_all.new.queue) g.F.Commands.gives g.F.Commands.may_fail g.H.Way.Link.history) c.args.tasks.items)))

pub returns-in-Err-clause-ends : goal.returns-in-Err-clause-ends
returns-in-Err-clause-ends g c =
    subst (λ (es : List End). MayEndSo (IsBrought g.H.Way.Link.tells (g.H.Hall.honest c.args.hall.now × IsTrusted g.H.Way.Link.tells g.F.Commands.gives g.F.Commands.may_fail g.H.Way.Link.honest c.args.queue.now) g.F.Commands.gives g.F.Commands.may_fail g.H.Way.Link.history) c.args.tasks.items es) (sym c.requires.ends) (open_so (IsBrought g.H.Way.Link.tells (g.H.Hall.honest c.args.hall.now × IsTrusted g.H.Way.Link.tells g.F.Commands.gives g.F.Commands.may_fail g.H.Way.Link.honest c.args.queue.now) g.F.Commands.gives g.F.Commands.may_fail g.H.Way.Link.history) c.args.tasks.items)

pub returns-in-Ok-clause-manned : goal.returns-in-Ok-clause-manned
returns-in-Ok-clause-manned g c least fit is = c.wait_all.ensures.manned least (c.submit_all.ensures.staffed least c.args.hall.now fit is)

pub returns-in-Err-clause-manned : goal.returns-in-Err-clause-manned
returns-in-Err-clause-manned g c least fit is = λ idle. let memory = c.in-Err.ensures.cause in let wrong : ⊥ = cc in wrong
