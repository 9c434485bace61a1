use Rattle.std.proofs.Common.{◌∙◌, arith, subst, sym}
use Rattle.task_book.specs.Kept.{Kept}
use Rattle.wq_submit.specs.Queues.{IsTrusted, IsUnder}
use Rattle.wq_submit.proofs.Waiting.{fault_wider, goes_from, idle_wider, under_here, under_then}
use Rattle.wq_submit.proofs.queue.Queue.look.Goals as goal

pub loop-preserved : goal.loop-preserved
loop-preserved g c =
    let first = c.args.self.now in
    let made = c.make_room.new.self in
    let under = subst (λ (k : Kept). IsUnder first.kept k) (sym c.make_room.ensures.kept) c.loop.invariant.under in
    record {
      listens = c.step.ensures.listens;
      under = under_then first.kept made.kept c.step.new.self.kept under (c.in-None-step.ensures.none (under_here first.kept made.kept under));
      trusted = λ fair trusted. let before = c.loop.invariant.trusted fair trusted in c.step.ensures.trusted (c.make_room.ensures.honest before.1) (c.make_room.ensures.trusted before.0);
      staffed = λ least is. (c.in-None-step.ensures.staffed least (c.make_room.ensures.staffed least (c.loop.invariant.staffed least is))).0;
      files = c.step.ensures.files ∙ c.make_room.ensures.files ∙ c.loop.invariant.files;
      low = c.loop.invariant.low;
      high = omega (arith, c.loop.invariant.high, c.make_room.ensures.faults, c.step.ensures.rises);
      later = omega (arith, c.loop.invariant.later, c.make_room.ensures.idles, c.step.ensures.later);
    }

pub returns-in-Some-step-clause-goes : goal.returns-in-Some-step-clause-goes
returns-in-Some-step-clause-goes g c =
    let first = c.args.self.now in
    let made = c.make_room.new.self in
    let under = subst (λ (k : Kept). IsUnder first.kept k) (sym c.make_room.ensures.kept) c.loop.invariant.under in
    goes_from g.H.Way.Link.tells g.F.Commands.gives g.F.Commands.may_fail g.H.Way.Link.history g.H.Way.Link.honest (g.H.Hall.honest c.args.hall.now × IsTrusted g.H.Way.Link.tells g.F.Commands.gives g.F.Commands.may_fail g.H.Way.Link.honest first)
    (g.H.Hall.honest c.make_room.new.hall × IsTrusted g.H.Way.Link.tells g.F.Commands.gives g.F.Commands.may_fail g.H.Way.Link.honest made)
    first made c.step.new.self c.in-Some-step.answer under (c.make_room.ensures.files ∙ c.loop.invariant.files)
    (λ fair. let before = c.loop.invariant.trusted fair.0 fair.1 in (c.make_room.ensures.honest before.1, c.make_room.ensures.trusted before.0)) c.in-Some-step.ensures.held c.in-Some-step.ensures.goes

pub returns-in-Some-step-clause-idle : goal.returns-in-Some-step-clause-idle
returns-in-Some-step-clause-idle g c =
    idle_wider g.H.Way.Link.idle_count (g.H.Hall.idle_count c.args.hall.now) (g.H.Hall.idle_count c.make_room.new.hall) (g.H.Hall.idle_count c.step.new.hall) c.step.new.self.live c.in-Some-step.answer
    (omega (arith, c.loop.invariant.later, c.make_room.ensures.idles)) c.in-Some-step.ensures.idle

pub returns-in-Some-step-clause-files : goal.returns-in-Some-step-clause-files
returns-in-Some-step-clause-files g c = c.step.ensures.files ∙ c.make_room.ensures.files ∙ c.loop.invariant.files

pub returns-in-Some-step-clause-trusted : goal.returns-in-Some-step-clause-trusted
returns-in-Some-step-clause-trusted g c fair trusted =
    let before = c.loop.invariant.trusted fair trusted in
    c.step.ensures.trusted (c.make_room.ensures.honest before.1) (c.make_room.ensures.trusted before.0)

pub returns-in-Some-step-clause-cause : goal.returns-in-Some-step-clause-cause
returns-in-Some-step-clause-cause g c = fault_wider (g.H.Hall.count c.args.hall.now) _ (g.H.Hall.count c.step.new.hall) c.in-Some-step.answer c.loop.invariant.low c.in-Some-step.ensures.cause

pub returns-in-Some-step-clause-rises : goal.returns-in-Some-step-clause-rises
returns-in-Some-step-clause-rises g c = omega (arith, c.loop.invariant.low, c.loop.invariant.high, c.make_room.ensures.faults, c.step.ensures.rises)

pub returns-in-Some-step-clause-later : goal.returns-in-Some-step-clause-later
returns-in-Some-step-clause-later g c = omega (arith, c.loop.invariant.later, c.make_room.ensures.idles, c.step.ensures.later)

pub returns-in-Some-step-clause-staffed : goal.returns-in-Some-step-clause-staffed
returns-in-Some-step-clause-staffed g c least is = (c.in-Some-step.ensures.staffed least (c.make_room.ensures.staffed least (c.loop.invariant.staffed least is))).1

pub returns-in-Some-step-clause-manned : goal.returns-in-Some-step-clause-manned
returns-in-Some-step-clause-manned g c least is =
    let first = c.args.self.now in
    let made = c.make_room.new.self in
    let under = subst (λ (k : Kept). IsUnder first.kept k) (sym c.make_room.ensures.kept) c.loop.invariant.under in
    c.in-Some-step.ensures.manned least (under_here first.kept made.kept under) (c.make_room.ensures.staffed least (c.loop.invariant.staffed least is))
