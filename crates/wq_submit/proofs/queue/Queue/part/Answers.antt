use Rattle.std.proofs.Common.{ℕ, List, sym, subst}
use Rattle.wq_company.specs.Companies.{AreSureOf, RunBefore, live_of}
use Rattle.wq_company.specs.Rounds.{IsMet}
use Rattle.wq_submit.specs.Queues.{IsStaffed, QueueState}
use Rattle.wq_submit.proofs.Staffing.{met_on}
use Rattle.wq_submit.proofs.queue.Queue.part.Goals as goal

pub invariant_of-self : goal.invariant_of-self
invariant_of-self g c =
    let i = c.self.inside in (
      subst (λ (n : ℕ). RunBefore n i.book.held) (sym c.part.ensures.next) c.self.invariant.0,
      c.self.invariant.1,
      λ tells. c.part.ensures.served i.files i.book.held tells (c.self.invariant.2 tells),
      c.part.ensures.run i.book.held c.self.invariant.3,
    )

pub returns-clause-staffed : goal.returns-clause-staffed
returns-clause-staffed g c least is =
    let i = c.self.inside in
    let was = subst (λ (q : QueueState g.row.H-Way.Denot). IsStaffed g.H.Way.Link.sure g.H.Way.Link.offers g.H.Hall.manned g.H.Hall.staffed least c.args.hall.now q) (sym c.self.view_is) is in
    record {
      met = subst (λ (ws : List g.row.H-Way.Denot). IsMet g.H.Hall.manned g.H.Hall.staffed least c.part.new.hall ws) (sym c.part.ensures.live)
          (met_on g.H.Way.Link.sure g.H.Way.Link.offers g.H.Hall.manned g.H.Hall.staffed least c.args.hall.now c.part.new.hall (live_of i.company.seats) (c.part.ensures.manned least) (c.part.ensures.staffed least) was.met);
      links = subst (λ (ws : List g.row.H-Way.Denot). AreSureOf g.H.Way.Link.sure g.H.Way.Link.offers least ws) (sym c.part.ensures.live) was.links;
      tasks = was.tasks;
    }
