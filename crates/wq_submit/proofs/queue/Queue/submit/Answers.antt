use Rattle.std.proofs.Common.{sym, subst}
use Rattle.wq_submit.specs.Queues.{IsStaffed, IsTrusted, QueueState}
use Rattle.wq_company.proofs.Knowing.{Within}
use Rattle.wq_submit.proofs.Knowing.{known_submitted, known_with, right_on}
use Rattle.wq_company.proofs.Serving.{before_on, served_on}
use Rattle.wq_submit.proofs.Calling.{submitted_ends, submitted_runs}
use Rattle.task_book.specs.Kept.{next_id}
use Rattle.wq_submit.proofs.Staffing.{run_on, submitted_as, within_by}
use Rattle.wq_submit.proofs.queue.Queue.submit.Goals as goal

pub invariant_of-self : goal.invariant_of-self
invariant_of-self g c =
    let i = c.self.inside in
    let on = submitted_runs i.book c.submit.new.self c.args.task c.submit.result c.submit.ensures.ok c.submit.ensures.err in (
      before_on i.company.next i.book.held c.submit.new.self.held on c.self.invariant.0,
      known_submitted i.files i.book c.submit.new.self c.args.task c.submit.result c.submit.ensures.ok c.submit.ensures.err c.submit.ensures.taken c.self.invariant.1,
      λ tells. served_on g.F.Commands.gives g.F.Commands.may_fail g.H.Way.Link.history i.files i.book.held c.submit.new.self.held i.company.next i.company.seats on (c.self.invariant.2 tells),
      run_on i.book.held c.submit.new.self.held i.company.seats (submitted_as i.book c.submit.new.self c.args.task c.submit.result c.submit.ensures.ok c.submit.ensures.err) c.self.invariant.3,
    )

pub returns-clause-trusted : goal.returns-clause-trusted
returns-clause-trusted g c trusted =
    let i = c.self.inside in
    let was = subst (λ (q : QueueState g.row.H-Way.Denot). IsTrusted g.H.Way.Link.tells g.F.Commands.gives g.F.Commands.may_fail g.H.Way.Link.honest q) (sym c.self.view_is) trusted in
    record {
      told = was.told;
      links = was.links;
      ends = right_on g.F.Commands.gives g.F.Commands.may_fail i.files i.book.held c.submit.new.self.held (submitted_ends i.book c.submit.new.self c.args.task c.submit.result c.submit.ensures.ok c.submit.ensures.err) was.ends;
    }

pub returns-clause-staffed : goal.returns-clause-staffed
returns-clause-staffed g c least hall within is =
    let i = c.self.inside in
    let was = subst (λ (q : QueueState g.row.H-Way.Denot). IsStaffed g.H.Way.Link.sure g.H.Way.Link.offers g.H.Hall.manned g.H.Hall.staffed least hall q) (sym c.self.view_is) is in
    record {
      met = was.met;
      links = was.links;
      tasks = known_with (Within least) i.book c.submit.new.self c.args.task c.submit.result c.submit.ensures.ok c.submit.ensures.err (within_by least c.args.task (next_id i.book) c.submit.result within) was.tasks;
    }
