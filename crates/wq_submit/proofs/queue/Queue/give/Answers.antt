use Rattle.std.proofs.Common.{map, sym, subst}
use Rattle.wq_company.specs.Companies.{AreWithin}
use Rattle.wq_submit.specs.Queues.{IsTrusted, QueueState}
use Rattle.wq_seats.specs.Works.{work_of}
use Rattle.wq_company.proofs.Serving.{before_on, served_on}
use Rattle.wq_submit.proofs.Calling.{known_given, given_ends, given_runs}
use Rattle.wq_company.proofs.Knowing.{Known, Within}
use Rattle.wq_submit.proofs.Staffing.{given_as, run_on}
use Rattle.wq_submit.proofs.queue.Queue.give.Goals as goal

pub invariant_of-self : goal.invariant_of-self
invariant_of-self g c =
    let i = c.self.inside in
    let on = given_runs i.book c.give.new.self c.give.result c.give.ensures.none c.give.ensures.given in (
      before_on i.company.next i.book.held c.give.new.self.held on c.self.invariant.0,
      known_given (Known i.files) i.book c.give.new.self c.give.result c.give.ensures.none c.give.ensures.given c.self.invariant.1,
      λ tells. served_on g.F.Commands.gives g.F.Commands.may_fail g.H.Way.Link.history i.files i.book.held c.give.new.self.held i.company.next i.company.seats on (c.self.invariant.2 tells),
      run_on i.book.held c.give.new.self.held i.company.seats (given_as i.book c.give.new.self c.give.result c.give.ensures.none c.give.ensures.given) c.self.invariant.3,
    )

pub returns-clause-trusted : goal.returns-clause-trusted
returns-clause-trusted g c trusted =
    let was = subst (λ (q : QueueState g.row.H-Way.Denot). IsTrusted g.H.Way.Link.tells g.F.Commands.gives g.F.Commands.may_fail g.H.Way.Link.honest q) (sym c.self.view_is) trusted in
    record {
      told = was.told;
      links = was.links;
      ends = λ a o s e. was.ends a o s (given_ends c.self.inside.book c.give.new.self c.give.result c.give.ensures.none c.give.ensures.given a o s e);
    }

pub returns-clause-tasks : goal.returns-clause-tasks
returns-clause-tasks g c least within =
    let i = c.self.inside in
    known_given (Within least) i.book c.give.new.self c.give.result c.give.ensures.none c.give.ensures.given (subst (λ (q : QueueState g.row.H-Way.Denot). AreWithin least (map work_of q.kept.held)) (sym c.self.view_is) within)
