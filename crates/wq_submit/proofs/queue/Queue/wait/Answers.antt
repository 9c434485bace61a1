use Rattle.std.proofs.Common.{◌∙◌, ℕ, ap, arith, subst, sym}
use Rattle.task_book.specs.Kept.{Kept}
use Rattle.wq_submit.specs.Queues.{IsHallFault, IsTrusted, IsUnder, QueueState}
use Rattle.wq_submit.proofs.Waiting.{empty_never, empty_parted, goes_parted, idle_never, idle_wider}
use Rattle.wq_submit.proofs.Staffing.{answered, answered_now, came_is, staffed_as}
use Rattle.wq_submit.specs.declared.cause.QueueCame.TheVariants as came
use Rattle.wq_submit.proofs.queue.Queue.wait.Goals as goal

pub returns-in-Some-clause-goes : goal.returns-in-Some-clause-goes
returns-in-Some-clause-goes g c =
    goes_parted g.H.Way.Link.tells g.F.Commands.gives g.F.Commands.may_fail g.H.Way.Link.history g.H.Way.Link.honest (g.H.Hall.honest c.args.hall.now × IsTrusted g.H.Way.Link.tells g.F.Commands.gives g.F.Commands.may_fail g.H.Way.Link.honest c.args.self.now)
    (IsTrusted g.H.Way.Link.tells g.F.Commands.gives g.F.Commands.may_fail g.H.Way.Link.honest c.part.new.self)
    c.args.self.now c.part.new.self c.at_once.new.self _ c.part.ensures.kept c.part.ensures.files (λ fair. c.part.ensures.trusted fair.1) c.in-Some.ensures.goes

pub returns-in-None-clause-goes : goal.returns-in-None-clause-goes
returns-in-None-clause-goes g c =
    goes_parted g.H.Way.Link.tells g.F.Commands.gives g.F.Commands.may_fail g.H.Way.Link.history g.H.Way.Link.honest (g.H.Hall.honest c.args.hall.now × IsTrusted g.H.Way.Link.tells g.F.Commands.gives g.F.Commands.may_fail g.H.Way.Link.honest c.args.self.now)
    (g.H.Hall.honest c.part.new.hall × IsTrusted g.H.Way.Link.tells g.F.Commands.gives g.F.Commands.may_fail g.H.Way.Link.honest c.at_once.new.self)
    c.args.self.now c.at_once.new.self c.look.new.self c.look.result (ap (λ (q : QueueState g.row.H-Way.Denot). q.kept) c.in-None.ensures.none.1 ∙ c.part.ensures.kept) (c.at_once.ensures.files ∙ c.part.ensures.files)
    (λ fair. (c.part.ensures.honest fair.0, c.at_once.ensures.trusted (c.part.ensures.trusted fair.1))) c.look.ensures.goes

pub returns-in-None-clause-empty : goal.returns-in-None-clause-empty
returns-in-None-clause-empty g c =
    let under = subst (λ (k : Kept). IsUnder k k) (ap (λ (q : QueueState g.row.H-Way.Denot). q.kept) c.in-None.ensures.none.1 ∙ c.part.ensures.kept) c.in-None.ensures.none.0 in
    empty_never c.args.self.now.kept c.look.result c.look.ensures.held under.some

pub returns-in-Some-clause-empty : goal.returns-in-Some-clause-empty
returns-in-Some-clause-empty g c = empty_parted c.args.self.now.kept c.part.new.self.kept _ c.part.ensures.kept c.in-Some.ensures.empty

pub returns-in-Some-clause-idle : goal.returns-in-Some-clause-idle
returns-in-Some-clause-idle g c = idle_never g.H.Way.Link.idle_count _ _ _ c.in-Some.came c.in-Some.ensures.busy

pub returns-in-None-clause-idle : goal.returns-in-None-clause-idle
returns-in-None-clause-idle g c =
    idle_wider g.H.Way.Link.idle_count (g.H.Hall.idle_count c.args.hall.now) (g.H.Hall.idle_count c.part.new.hall) (g.H.Hall.idle_count c.look.new.hall) c.look.new.self.live c.look.result (omega (arith, c.part.ensures.idles)) c.look.ensures.idle

pub returns-in-None-clause-cause : goal.returns-in-None-clause-cause
returns-in-None-clause-cause g c = subst (λ (n : ℕ). IsHallFault n (g.H.Hall.count c.look.new.hall) c.look.result) c.part.ensures.faults c.look.ensures.cause

pub returns-in-None-clause-trusted : goal.returns-in-None-clause-trusted
returns-in-None-clause-trusted g c fair trusted = c.look.ensures.trusted (c.part.ensures.honest fair) (c.at_once.ensures.trusted (c.part.ensures.trusted trusted))

pub returns-in-Some-clause-trusted : goal.returns-in-Some-clause-trusted
returns-in-Some-clause-trusted g c fair trusted = (c.at_once.ensures.trusted (c.part.ensures.trusted trusted), c.part.ensures.honest fair)

pub returns-in-Some-clause-later : goal.returns-in-Some-clause-later
returns-in-Some-clause-later g c = omega (arith, c.part.ensures.idles)

pub returns-in-None-clause-later : goal.returns-in-None-clause-later
returns-in-None-clause-later g c = omega (arith, c.part.ensures.idles, c.look.ensures.later)

pub returns-in-Some-clause-staffed : goal.returns-in-Some-clause-staffed
returns-in-Some-clause-staffed g c least is =
    staffed_as g.H.Way.Link.sure g.H.Way.Link.offers g.H.Hall.manned g.H.Hall.staffed least c.part.new.hall c.part.new.self c.at_once.new.self c.at_once.ensures.live (c.at_once.ensures.tasks least) (c.part.ensures.staffed least is)

pub returns-in-None-clause-staffed : goal.returns-in-None-clause-staffed
returns-in-None-clause-staffed g c least is =
    c.look.ensures.staffed least (staffed_as g.H.Way.Link.sure g.H.Way.Link.offers g.H.Hall.manned g.H.Hall.staffed least c.part.new.hall c.part.new.self c.at_once.new.self c.at_once.ensures.live (c.at_once.ensures.tasks least) (c.part.ensures.staffed least is))

pub returns-in-Some-clause-answers : goal.returns-in-Some-clause-answers
returns-in-Some-clause-answers g c least is same = answered_now c.in-Some.came c.in-Some.ensures.busy

pub returns-in-None-clause-answers : goal.returns-in-None-clause-answers
returns-in-None-clause-answers g c least is same =
    answered c.look.result (g.H.Hall.count c.part.new.hall) (g.H.Hall.count c.look.new.hall)
    (c.look.ensures.manned least (staffed_as g.H.Way.Link.sure g.H.Way.Link.offers g.H.Hall.manned g.H.Hall.staffed least c.part.new.hall c.part.new.self c.at_once.new.self c.at_once.ensures.live (c.at_once.ensures.tasks least) (c.part.ensures.staffed least is)))
    c.look.ensures.cause (same ∙ sym c.part.ensures.faults)

pub returns-in-Some-clause-manned : goal.returns-in-Some-clause-manned
returns-in-Some-clause-manned g c least is idle = c.in-Some.ensures.busy (came_is c.in-Some.came came.Idle idle)

pub returns-in-None-clause-manned : goal.returns-in-None-clause-manned
returns-in-None-clause-manned g c least is =
    c.look.ensures.manned least (staffed_as g.H.Way.Link.sure g.H.Way.Link.offers g.H.Hall.manned g.H.Hall.staffed least c.part.new.hall c.part.new.self c.at_once.new.self c.at_once.ensures.live (c.at_once.ensures.tasks least) (c.part.ensures.staffed least is))
