use Rattle.std.proofs.Common.{◌∙◌, ℕ, ap, arith, subst, sym}
use Rattle.std.specs.Prelude.{IfNone}
use Rattle.task_book.specs.Kept.{Kept}
use Rattle.wq_submit.specs.Queues.{IsHallFault, IsTrusted, IsUnder, QueueState}
use Rattle.wq_submit.proofs.Waiting.{empty_never, empty_parted, goes_parted, idle_never, idle_wider}
use Rattle.wq_submit.proofs.Staffing.{answered, answered_now, staffed_as}
use Rattle.wq_submit.proofs.Once.{some_both, some_map}
use Rattle.wq_submit.proofs.queue.Queue.wait_once.Goals as goal

pub returns-in-Some-clause-goes : goal.returns-in-Some-clause-goes
returns-in-Some-clause-goes g c =
    goes_parted g.H.Way.Link.tells g.F.Commands.gives g.F.Commands.may_fail g.H.Way.Link.history g.H.Way.Link.honest (g.H.Hall.honest c.args.hall.now × IsTrusted g.H.Way.Link.tells g.F.Commands.gives g.F.Commands.may_fail g.H.Way.Link.honest c.args.self.now)
    (IsTrusted g.H.Way.Link.tells g.F.Commands.gives g.F.Commands.may_fail g.H.Way.Link.honest c.part.new.self)
    c.args.self.now c.part.new.self c.at_once.new.self _ c.part.ensures.kept c.part.ensures.files (λ fair. c.part.ensures.trusted fair.1) c.in-Some.ensures.goes

pub returns-in-None-clause-goes : goal.returns-in-None-clause-goes
returns-in-None-clause-goes g c =
    some_map _ _ (λ answer is. goes_parted g.H.Way.Link.tells g.F.Commands.gives g.F.Commands.may_fail g.H.Way.Link.history g.H.Way.Link.honest (g.H.Hall.honest c.args.hall.now × IsTrusted g.H.Way.Link.tells g.F.Commands.gives g.F.Commands.may_fail g.H.Way.Link.honest c.args.self.now)
    (g.H.Hall.honest c.part.new.hall × IsTrusted g.H.Way.Link.tells g.F.Commands.gives g.F.Commands.may_fail g.H.Way.Link.honest c.at_once.new.self)
    c.args.self.now c.at_once.new.self c.paced.new.self answer (ap (λ (q : QueueState g.row.H-Way.Denot). q.kept) c.in-None.ensures.none.1 ∙ c.part.ensures.kept) (c.at_once.ensures.files ∙ c.part.ensures.files)
    (λ fair. (c.part.ensures.honest fair.0, c.at_once.ensures.trusted (c.part.ensures.trusted fair.1))) is) c.paced.result c.paced.ensures.goes

pub returns-in-None-clause-none : goal.returns-in-None-clause-none
returns-in-None-clause-none g c =
    subst (λ (k : Kept). IfNone c.paced.result (IsUnder k c.paced.new.self.kept)) (ap (λ (q : QueueState g.row.H-Way.Denot). q.kept) c.in-None.ensures.none.1 ∙ c.part.ensures.kept) (c.paced.ensures.none c.in-None.ensures.none.0)

pub returns-in-None-clause-empty : goal.returns-in-None-clause-empty
returns-in-None-clause-empty g c =
    let under = subst (λ (k : Kept). IsUnder k k) (ap (λ (q : QueueState g.row.H-Way.Denot). q.kept) c.in-None.ensures.none.1 ∙ c.part.ensures.kept) c.in-None.ensures.none.0 in
    some_map _ _ (λ answer never. empty_never c.args.self.now.kept answer never under.some) c.paced.result c.paced.ensures.held

pub returns-in-Some-clause-empty : goal.returns-in-Some-clause-empty
returns-in-Some-clause-empty g c = empty_parted c.args.self.now.kept c.part.new.self.kept _ c.part.ensures.kept c.in-Some.ensures.empty

pub returns-in-Some-clause-idle : goal.returns-in-Some-clause-idle
returns-in-Some-clause-idle g c = idle_never g.H.Way.Link.idle_count _ _ _ c.in-Some.came c.in-Some.ensures.busy

pub returns-in-None-clause-idle : goal.returns-in-None-clause-idle
returns-in-None-clause-idle g c =
    some_map _ _ (λ answer is. idle_wider g.H.Way.Link.idle_count (g.H.Hall.idle_count c.args.hall.now) (g.H.Hall.idle_count c.part.new.hall) (g.H.Hall.idle_count c.paced.new.hall) c.paced.new.self.live answer (omega (arith, c.part.ensures.idles)) is) c.paced.result c.paced.ensures.idle

pub returns-in-None-clause-cause : goal.returns-in-None-clause-cause
returns-in-None-clause-cause g c =
    some_map _ _ (λ answer is. subst (λ (n : ℕ). IsHallFault n (g.H.Hall.count c.paced.new.hall) answer) c.part.ensures.faults is) c.paced.result c.paced.ensures.cause

pub returns-in-None-clause-trusted : goal.returns-in-None-clause-trusted
returns-in-None-clause-trusted g c fair trusted = c.paced.ensures.trusted (c.part.ensures.honest fair) (c.at_once.ensures.trusted (c.part.ensures.trusted trusted))

pub returns-in-Some-clause-trusted : goal.returns-in-Some-clause-trusted
returns-in-Some-clause-trusted g c fair trusted = (c.at_once.ensures.trusted (c.part.ensures.trusted trusted), c.part.ensures.honest fair)

pub returns-in-Some-clause-later : goal.returns-in-Some-clause-later
returns-in-Some-clause-later g c = omega (arith, c.part.ensures.idles)

pub returns-in-None-clause-later : goal.returns-in-None-clause-later
returns-in-None-clause-later g c = omega (arith, c.part.ensures.idles, c.paced.ensures.later)

pub returns-in-Some-clause-staffed : goal.returns-in-Some-clause-staffed
returns-in-Some-clause-staffed g c least is =
    (tt, staffed_as g.H.Way.Link.sure g.H.Way.Link.offers g.H.Hall.manned g.H.Hall.staffed least c.part.new.hall c.part.new.self c.at_once.new.self c.at_once.ensures.live (c.at_once.ensures.tasks least) (c.part.ensures.staffed least is))

pub returns-in-None-clause-staffed : goal.returns-in-None-clause-staffed
returns-in-None-clause-staffed g c least is =
    c.paced.ensures.staffed least (staffed_as g.H.Way.Link.sure g.H.Way.Link.offers g.H.Hall.manned g.H.Hall.staffed least c.part.new.hall c.part.new.self c.at_once.new.self c.at_once.ensures.live (c.at_once.ensures.tasks least) (c.part.ensures.staffed least is))

pub returns-in-Some-clause-answers : goal.returns-in-Some-clause-answers
returns-in-Some-clause-answers g c least is same = answered_now c.in-Some.came c.in-Some.ensures.busy

pub returns-in-None-clause-answers : goal.returns-in-None-clause-answers
returns-in-None-clause-answers g c least is same =
    let now = staffed_as g.H.Way.Link.sure g.H.Way.Link.offers g.H.Hall.manned g.H.Hall.staffed least c.part.new.hall c.part.new.self c.at_once.new.self c.at_once.ensures.live (c.at_once.ensures.tasks least) (c.part.ensures.staffed least is) in
    some_both _ _ _ (λ answer never cause. answered answer (g.H.Hall.count c.part.new.hall) (g.H.Hall.count c.paced.new.hall) never cause (same ∙ sym c.part.ensures.faults)) c.paced.result (c.paced.ensures.manned least c.in-None.ensures.none.0 now) c.paced.ensures.cause
