use Rattle.std.proofs.Common.{sym, subst}
use Rattle.task_book.specs.Kept.{place_of}
use Rattle.wq_submit.specs.Queues.{IsStaffed, IsTrusted, QueueState}
use Rattle.wq_company.proofs.Knowing.{Known, Within}
use Rattle.wq_submit.proofs.Knowing.{known_cancelled, right_on}
use Rattle.wq_company.proofs.Serving.{before_on, served_on}
use Rattle.wq_submit.proofs.Calling.{cancelled_ends, cancelled_runs}
use Rattle.wq_submit.proofs.Staffing.{cancelled_as, run_on}
use Rattle.wq_submit.proofs.queue.Queue.cancel.Goals as goal

pub invariant_of-self : goal.invariant_of-self
invariant_of-self g c =
    let i = c.self.inside in
    let on = cancelled_runs i.book c.cancel.new.self c.args.id (place_of c.args.id i.book.held) c.cancel.ensures.gone in (
      before_on i.company.next i.book.held c.cancel.new.self.held on c.self.invariant.0,
      known_cancelled (Known i.files) i.book c.cancel.new.self c.args.id (place_of c.args.id i.book.held) c.cancel.ensures.gone c.self.invariant.1,
      λ tells. served_on g.F.Commands.gives g.F.Commands.may_fail g.H.Way.Link.history i.files i.book.held c.cancel.new.self.held i.company.next i.company.seats on (c.self.invariant.2 tells),
      run_on i.book.held c.cancel.new.self.held i.company.seats (cancelled_as i.book c.cancel.new.self c.args.id (place_of c.args.id i.book.held) c.cancel.ensures.gone) c.self.invariant.3,
    )

pub returns-clause-trusted : goal.returns-clause-trusted
returns-clause-trusted g c trusted =
    let i = c.self.inside in
    let was = subst (λ (q : QueueState g.row.H-Way.Denot). IsTrusted g.H.Way.Link.tells g.F.Commands.gives g.F.Commands.may_fail g.H.Way.Link.honest q) (sym c.self.view_is) trusted in
    record {
      told = was.told;
      links = was.links;
      ends = right_on g.F.Commands.gives g.F.Commands.may_fail i.files i.book.held c.cancel.new.self.held (cancelled_ends i.book c.cancel.new.self c.args.id (place_of c.args.id i.book.held) c.cancel.ensures.gone) was.ends;
    }

pub returns-clause-staffed : goal.returns-clause-staffed
returns-clause-staffed g c least hall is =
    let i = c.self.inside in
    let was = subst (λ (q : QueueState g.row.H-Way.Denot). IsStaffed g.H.Way.Link.sure g.H.Way.Link.offers g.H.Hall.manned g.H.Hall.staffed least hall q) (sym c.self.view_is) is in
    record {
      met = was.met;
      links = was.links;
      tasks = known_cancelled (Within least) i.book c.cancel.new.self c.args.id (place_of c.args.id i.book.held) c.cancel.ensures.gone was.tasks;
    }
