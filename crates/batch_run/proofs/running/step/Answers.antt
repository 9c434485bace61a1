use Rattle.wq_submit.specs.Queues.{IsStaffed, IsTrusted}
use Rattle.batch_run.specs.Ends.{IsBrought}
use Rattle.batch_run.proofs.Batches.{given_noted, given_so, idle_counted, of_waited, shown_waited}
use Rattle.batch_run.proofs.Manned.{goes_staffed}
use Rattle.batch_run.proofs.running.step.Goals as goal

pub returns-clause-of : goal.returns-clause-of
returns-clause-of g c tasks all =
    of_waited g.H.Way.Link.tells g.F.Commands.gives g.F.Commands.may_fail g.H.Way.Link.history (g.H.Hall.honest c.args.hall.now × IsTrusted g.H.Way.Link.tells g.F.Commands.gives g.F.Commands.may_fail g.H.Way.Link.honest c.args.queue.now)
    tasks c.args.queue.now c.wait-answer.new.self c.wait-answer.result c.wait-answer.ensures.goes all

pub returns-clause-shown : goal.returns-clause-shown
returns-clause-shown g c tells all =
    shown_waited g.H.Way.Link.tells g.F.Commands.gives g.F.Commands.may_fail g.H.Way.Link.history (g.H.Hall.honest c.args.hall.now × IsTrusted g.H.Way.Link.tells g.F.Commands.gives g.F.Commands.may_fail g.H.Way.Link.honest c.args.queue.now)
    c.args.queue.now c.wait-answer.new.self c.wait-answer.result c.wait-answer.ensures.goes tells all

pub returns-clause-notes : goal.returns-clause-notes
returns-clause-notes g c tasks all shown =
    given_noted (IsBrought g.H.Way.Link.tells (g.H.Hall.honest c.args.hall.now × IsTrusted g.H.Way.Link.tells g.F.Commands.gives g.F.Commands.may_fail g.H.Way.Link.honest c.args.queue.now) g.F.Commands.gives g.F.Commands.may_fail g.H.Way.Link.history) tasks c.wait-answer.result c.args.ends.now.items c.heed.new.ends.items
    (given_so g.H.Way.Link.tells g.F.Commands.gives g.F.Commands.may_fail g.H.Way.Link.history (g.H.Hall.honest c.args.hall.now × IsTrusted g.H.Way.Link.tells g.F.Commands.gives g.F.Commands.may_fail g.H.Way.Link.honest c.args.queue.now)
    tasks c.args.queue.now c.wait-answer.new.self c.wait-answer.result c.requires.files c.wait-answer.ensures.goes all shown) c.heed.ensures.notes

pub returns-clause-idles : goal.returns-clause-idles
returns-clause-idles g c before was =
    idle_counted g.H.Way.Link.idle_count before (g.H.Hall.idle_count c.args.hall.now) (g.H.Hall.idle_count c.wait-answer.new.hall) _ _ c.wait-answer.new.self.live c.wait-answer.result c.wait-answer.ensures.later c.wait-answer.ensures.idle c.heed.ensures.idles was

pub returns-clause-cause : goal.returns-clause-cause
returns-clause-cause g c = c.heed.ensures.cause (g.H.Hall.count c.args.hall.now) (g.H.Hall.count c.wait-answer.new.hall) c.wait-answer.ensures.cause

pub returns-clause-staffed : goal.returns-clause-staffed
returns-clause-staffed g c least is =
    goes_staffed c.heed.result c.wait-answer.result (IsStaffed g.H.Way.Link.sure g.H.Way.Link.offers g.H.Hall.manned g.H.Hall.staffed least c.wait-answer.new.hall c.wait-answer.new.self) c.heed.ensures.on (c.wait-answer.ensures.staffed least is)

pub returns-clause-manned : goal.returns-clause-manned
returns-clause-manned g c least is = c.heed.ensures.late (c.wait-answer.ensures.manned least is)
