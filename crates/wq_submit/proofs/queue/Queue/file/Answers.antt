use Rattle.std.proofs.Common.{map, sym, subst}
use Rattle.wq_submit.specs.Queues.{IsStaffed, IsTrusted, QueueState}
use Rattle.wq_seats.specs.Works.{work_of}
use Rattle.wq_submit.proofs.Knowing.{known_added, right_added}
use Rattle.wq_submit.proofs.Calling.{served_added}
use Rattle.wq_submit.proofs.queue.Queue.file.Goals as goal

pub invariant_of-self : goal.invariant_of-self
invariant_of-self g c =
    let i = c.self.inside in (
      c.self.invariant.0,
      known_added i.files c.add.new.self c.args.content c.add.result (map work_of i.book.held) c.add.ensures.ok c.add.ensures.err c.self.invariant.1,
      λ tells. served_added g.F.Commands.gives g.F.Commands.may_fail g.H.Way.Link.history i.files c.add.new.self c.args.content c.add.result i.book.held i.company.next i.company.seats c.add.ensures.ok c.add.ensures.err
          (c.self.invariant.2 tells),
      c.self.invariant.3,
    )

pub returns-clause-trusted : goal.returns-clause-trusted
returns-clause-trusted g c trusted =
    let i = c.self.inside in
    let was = subst (λ (q : QueueState g.row.H-Way.Denot). IsTrusted g.H.Way.Link.tells g.F.Commands.gives g.F.Commands.may_fail g.H.Way.Link.honest q) (sym c.self.view_is) trusted in
    record {
      told = was.told;
      links = was.links;
      ends = right_added g.F.Commands.gives g.F.Commands.may_fail i.files c.add.new.self c.args.content c.add.result i.book.held c.add.ensures.ok c.add.ensures.err c.self.invariant.1 was.ends;
    }

pub returns-clause-staffed : goal.returns-clause-staffed
returns-clause-staffed g c least hall is =
    let was = subst (λ (q : QueueState g.row.H-Way.Denot). IsStaffed g.H.Way.Link.sure g.H.Way.Link.offers g.H.Hall.manned g.H.Hall.staffed least hall q) (sym c.self.view_is) is in
    record { met = was.met; links = was.links; tasks = was.tasks }
