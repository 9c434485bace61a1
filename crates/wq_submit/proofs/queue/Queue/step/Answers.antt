use Rattle.std.proofs.Common.{rules, ◌≡◌, ◌∙◌, Result, Some, Err, ap, subst, sym}
use Rattle.wq_submit.specs.Queues.{IsStaffed, IsTrusted, IsUnder, QueueState}
use Rattle.wq_submit.proofs.Waiting.{after_files, after_held, goes_after, goes_fault, idle_after, some_left, under_on}
use Rattle.wq_submit.specs.declared.cause.QueueCame.{QueueCame}
use Rattle.wq_submit.specs.declared.cause.QueueCame.TheVariants as came
use Rattle.wq_company.proofs.Beginning.{none_held}
use Rattle.wq_submit.proofs.Staffing.{came_is, staffed_as}
use Rattle.wq_company.specs.declared.company.Stop.{Stop}
use Rattle.wq_company.specs.declared.company.Stop.TheVariants as stops
use Rattle.wq_seats.specs.declared.seat.reading.Look.{Look}
use Rattle.wq_company.specs.Rounds.{UnlessWanting}
use Rattle.wq_submit.proofs.queue.Queue.step.Goals as goal

pub returns-in-Some-clause-goes : goal.returns-in-Some-clause-goes
returns-in-Some-clause-goes g c =
    goes_after g.H.Way.Link.tells g.F.Commands.gives g.F.Commands.may_fail g.H.Way.Link.history g.H.Way.Link.honest (g.H.Hall.honest c.args.hall.now × IsTrusted g.H.Way.Link.tells g.F.Commands.gives g.F.Commands.may_fail g.H.Way.Link.honest c.args.self.now)
    c.args.self.now c.round.new.self c.after.new.self c.in-Some.came c.round.ensures.work c.round.ensures.shows c.round.ensures.files (λ fair. (c.round.ensures.trusted fair.0 fair.1).0) c.in-Some.ensures.goes

pub returns-in-Some-clause-held : goal.returns-in-Some-clause-held
returns-in-Some-clause-held g c = after_held c.round.new.self c.after.new.self c.in-Some.came c.in-Some.ensures.goes

pub returns-in-Some-clause-idle : goal.returns-in-Some-clause-idle
returns-in-Some-clause-idle g c = idle_after g.H.Way.Link.idle_count (g.H.Hall.idle_count c.args.hall.now) (g.H.Hall.idle_count c.round.new.hall) c.round.new.self c.after.new.self c.in-Some.came c.in-Some.ensures.goes
    (λ is. c.in-Ok.ensures.idle (c.in-Some.ensures.idle is))

pub returns-in-Some-clause-files : goal.returns-in-Some-clause-files
returns-in-Some-clause-files g c = after_files c.round.new.self c.after.new.self c.in-Some.came c.in-Some.ensures.goes ∙ c.round.ensures.files

pub returns-in-None-clause-none : goal.returns-in-None-clause-none
returns-in-None-clause-none g c under =
    subst (λ (q : QueueState g.row.H-Way.Denot). IsUnder c.args.self.now.kept q.kept) (sym c.in-None.ensures.none.1)
    (under_on c.args.self.now.kept c.round.new.self.kept c.round.ensures.work c.in-None.ensures.none.0 under)

pub returns-in-Err-Memory-clause-goes : goal.returns-in-Err-Memory-clause-goes
returns-in-Err-Memory-clause-goes g c = goes_fault g.H.Way.Link.tells g.F.Commands.gives g.F.Commands.may_fail g.H.Way.Link.history g.H.Way.Link.honest _ c.args.self.now c.round.new.self _ c.round.ensures.work c.round.ensures.shows

pub returns-in-Err-Hall-clause-goes : goal.returns-in-Err-Hall-clause-goes
returns-in-Err-Hall-clause-goes g c = goes_fault g.H.Way.Link.tells g.F.Commands.gives g.F.Commands.may_fail g.H.Way.Link.history g.H.Way.Link.honest _ c.args.self.now c.round.new.self _ c.round.ensures.work c.round.ensures.shows

pub returns-in-Some-clause-trusted : goal.returns-in-Some-clause-trusted
returns-in-Some-clause-trusted g c fair trusted = let r = c.round.ensures.trusted fair trusted in (c.after.ensures.trusted r.0, r.1)

pub returns-in-None-clause-trusted : goal.returns-in-None-clause-trusted
returns-in-None-clause-trusted g c fair trusted = let r = c.round.ensures.trusted fair trusted in (c.after.ensures.trusted r.0, subst g.H.Hall.honest (sym c.pause.ensures) r.1)

pub returns-in-Some-clause-staffed : goal.returns-in-Some-clause-staffed
returns-in-Some-clause-staffed g c least is =
    (tt, staffed_as g.H.Way.Link.sure g.H.Way.Link.offers g.H.Hall.manned g.H.Hall.staffed least c.round.new.hall c.round.new.self c.after.new.self c.after.ensures.live (c.after.ensures.tasks least) (c.in-Ok.ensures.staffed least is))

pub returns-in-None-clause-staffed : goal.returns-in-None-clause-staffed
returns-in-None-clause-staffed g c least is = (
  subst (λ (h : g.row.H.Denot). IsStaffed g.H.Way.Link.sure g.H.Way.Link.offers g.H.Hall.manned g.H.Hall.staffed least h c.after.new.self) (sym c.pause.ensures)
      (staffed_as g.H.Way.Link.sure g.H.Way.Link.offers g.H.Hall.manned g.H.Hall.staffed least c.round.new.hall c.round.new.self c.after.new.self c.after.ensures.live (c.after.ensures.tasks least) (c.in-Ok.ensures.staffed least is)),
  tt,
)

pub returns-in-Err-Hall-clause-staffed : goal.returns-in-Err-Hall-clause-staffed
returns-in-Err-Hall-clause-staffed g c least is =
    let hall : c.in-Err-Hall.field-0 ≡ stops.Hall = search rules in
    let fact = IsStaffed g.H.Way.Link.sure g.H.Way.Link.offers g.H.Hall.manned g.H.Hall.staffed least c.round.new.hall c.round.new.self in
    (tt, subst (λ (s : Stop). let r : Result Look Stop = Err s in UnlessWanting r fact) hall (c.in-Err-Hall.ensures.staffed least is))

pub returns-in-Some-clause-manned : goal.returns-in-Some-clause-manned
returns-in-Some-clause-manned g c least under is idle =
    let same : c.in-Some.came ≡ came.Idle = came_is c.in-Some.came came.Idle idle in
    let none = c.after.ensures.late (c.in-Some.is ∙ ap (λ (x : QueueCame). Some x) same) in
    let ended = c.in-Ok.ensures.manned least is (c.in-Some.ensures.idle same) in
    some_left c.args.self.now.kept c.round.new.self.kept c.round.ensures.work under.some (none_held c.round.new.self.kept.held ended none)
