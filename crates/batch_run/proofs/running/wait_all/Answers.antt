use Rattle.std.proofs.Common.{arith, refl, ℕ, [], subst}
use Rattle.wq_submit.specs.Queues.{IsTrusted}
use Rattle.batch_run.specs.Ends.{IsBrought, WasIdle}
use Rattle.batch_run.proofs.Batches.{brought_fairer, run_wider, ends_noted}
use Rattle.batch_run.proofs.running.wait_all.Goals as goal

pub loop-init : goal.loop-init
loop-init g c = record {
  listens = c.requires.listens;
  files = c.requires.files;
  of = λ tasks all. all;
  shown = λ tells all. all;
  ends = λ tasks all shown may. may;
  trusted = λ honest trusted. (trusted, honest);
  rises = omega arith;
  idles = ([], refl, omega arith);
  few = omega arith;
  staffed = λ least is. is;
}

pub loop-preserved : goal.loop-preserved
loop-preserved g c = record {
  listens = c.step.ensures.listens;
  files = c.step.ensures.files;
  of = λ tasks all. c.step.ensures.of tasks (c.loop.invariant.of tasks all);
  shown = λ tells all. c.step.ensures.shown tells (c.loop.invariant.shown tells all);
  ends = λ tasks all shown may.
      ends_noted (IsBrought g.H.Way.Link.tells (g.H.Hall.honest c.args.hall.now × IsTrusted g.H.Way.Link.tells g.F.Commands.gives g.F.Commands.may_fail g.H.Way.Link.honest c.args.queue.now) g.F.Commands.gives g.F.Commands.may_fail g.H.Way.Link.history)
      (IsBrought g.H.Way.Link.tells (g.H.Hall.honest c.loop.hall × IsTrusted g.H.Way.Link.tells g.F.Commands.gives g.F.Commands.may_fail g.H.Way.Link.honest c.loop.queue) g.F.Commands.gives g.F.Commands.may_fail g.H.Way.Link.history)
      (brought_fairer g.H.Way.Link.tells g.F.Commands.gives g.F.Commands.may_fail g.H.Way.Link.history _ _ (λ f. let t = c.loop.invariant.trusted f.0 f.1 in (t.1, t.0)))
      tasks c.loop.ends.items c.step.new.ends.items (c.step.ensures.notes tasks (c.loop.invariant.of tasks all) (λ t. c.loop.invariant.shown t (shown t))) (c.loop.invariant.ends tasks all shown may);
  trusted = λ honest trusted. let t = c.loop.invariant.trusted honest trusted in c.step.ensures.trusted t.1 t.0;
  rises = omega (arith, c.loop.invariant.rises, c.step.ensures.rises);
  idles = c.step.ensures.idles (g.H.Hall.idle_count c.args.hall.now) c.loop.invariant.idles;
  few = c.in-None-step.ensures.few;
  staffed = λ least is. c.in-None-step.ensures.staffed least (c.loop.invariant.staffed least is);
}

pub returns-in-Some-step-clause-ends : goal.returns-in-Some-step-clause-ends
returns-in-Some-step-clause-ends g c tasks all shown may =
    ends_noted (IsBrought g.H.Way.Link.tells (g.H.Hall.honest c.args.hall.now × IsTrusted g.H.Way.Link.tells g.F.Commands.gives g.F.Commands.may_fail g.H.Way.Link.honest c.args.queue.now) g.F.Commands.gives g.F.Commands.may_fail g.H.Way.Link.history)
    (IsBrought g.H.Way.Link.tells (g.H.Hall.honest c.loop.hall × IsTrusted g.H.Way.Link.tells g.F.Commands.gives g.F.Commands.may_fail g.H.Way.Link.honest c.loop.queue) g.F.Commands.gives g.F.Commands.may_fail g.H.Way.Link.history)
    (brought_fairer g.H.Way.Link.tells g.F.Commands.gives g.F.Commands.may_fail g.H.Way.Link.history _ _ (λ f. let t = c.loop.invariant.trusted f.0 f.1 in (t.1, t.0)))
    tasks c.loop.ends.items c.step.new.ends.items (c.step.ensures.notes tasks (c.loop.invariant.of tasks all) (λ t. c.loop.invariant.shown t (shown t))) (c.loop.invariant.ends tasks all shown may)

pub returns-in-Some-step-clause-rises : goal.returns-in-Some-step-clause-rises
returns-in-Some-step-clause-rises g c = omega (arith, c.loop.invariant.rises, c.step.ensures.rises)

pub returns-in-Some-step-clause-cause : goal.returns-in-Some-step-clause-cause
returns-in-Some-step-clause-cause g c =
    run_wider _ _ (g.H.Hall.count c.args.hall.now) (g.H.Hall.count c.loop.hall) (g.H.Hall.count c.step.new.hall) (g.H.Hall.count c.step.new.hall) c.in-Some-step.end
    (λ is. subst (λ (n : ℕ). WasIdle g.H.Way.Link.idle_count (g.H.Hall.idle_count c.args.hall.now) (g.H.Hall.idle_count c.step.new.hall) n) is (c.step.ensures.idles (g.H.Hall.idle_count c.args.hall.now) c.loop.invariant.idles))
    c.loop.invariant.rises (omega arith) c.in-Some-step.ensures.cause

pub returns-in-Some-step-clause-manned : goal.returns-in-Some-step-clause-manned
returns-in-Some-step-clause-manned g c least is = c.in-Some-step.ensures.manned least (c.loop.invariant.staffed least is)
