use Rattle.std.proofs.Common.{◌<◌, ◌∙◌, ℕ, ap, length, sym, subst}
use Rattle.wq_company.specs.Companies.{AreSureOf, RunBefore, CompanyState, live_of, ways_of}
use Rattle.wq_company.specs.Rounds.{IsIdleHall, IsMet}
use Rattle.wq_submit.specs.Queues.{IsStaffed, QueueState}
use Rattle.wq_seats.specs.Shown.{ShowsEnds}
use Rattle.wq_submit.proofs.Waiting.{shows_came}
use Rattle.wq_submit.proofs.Staffing.{unless_map}
use Rattle.wq_submit.proofs.queue.Queue.meet.Goals as goal

pub invariant_of-self : goal.invariant_of-self
invariant_of-self g c =
    let i = c.self.inside in (
      subst (λ (n : ℕ). RunBefore n i.book.held) (sym c.meet.ensures.next) c.self.invariant.0,
      c.self.invariant.1,
      λ tells. c.meet.ensures.served i.files i.book.held tells (c.self.invariant.2 tells),
      c.meet.ensures.run i.book.held c.self.invariant.3,
    )

pub returns-clause-shows : goal.returns-clause-shows
returns-clause-shows g c k shows =
    let i = c.self.inside in
    let was = subst (λ (q : QueueState g.row.H-Way.Denot). ShowsEnds g.H.Way.Link.history k.held q.kept.held q.ways) (sym c.self.view_is) shows in
    shows_came g.H.Way.Link.history g.H.Way.Link.honest _ _ k.held i.book.held (ways_of i.company.seats) (ways_of c.meet.new.company.seats) c.meet.ensures.comes was

pub returns-clause-idle : goal.returns-clause-idle
returns-clause-idle g c is =
    let was = c.meet.ensures.idle is in (
      ap (λ (s : CompanyState g.row.H-Way.Denot). live_of s.seats) was.0 ∙ ap (λ (q : QueueState g.row.H-Way.Denot). q.live) c.self.view_is,
      subst (λ (q : QueueState g.row.H-Way.Denot). IsIdleHall (g.H.Hall.idle_count c.args.hall.now) (g.H.Hall.idle_count c.meet.new.hall) q.live) c.self.view_is was.1,
    )

pub returns-clause-staffed : goal.returns-clause-staffed
returns-clause-staffed g c least is =
    let i = c.self.inside in
    let was = subst (λ (q : QueueState g.row.H-Way.Denot). IsStaffed g.H.Way.Link.sure g.H.Way.Link.offers g.H.Hall.manned g.H.Hall.staffed least c.args.hall.now q) (sym c.self.view_is) is in
    let live = live_of c.meet.new.company.seats in
    unless_map (AreSureOf g.H.Way.Link.sure g.H.Way.Link.offers least live × IsMet g.H.Hall.manned g.H.Hall.staffed least c.meet.new.hall live) _ c.meet.result
    (λ so. record { met = so.1; links = so.0; tasks = was.tasks }) (c.meet.ensures.staffed least was.links was.met)

pub returns-clause-manned : goal.returns-clause-manned
returns-clause-manned g c least met idle =
    subst (λ (q : QueueState g.row.H-Way.Denot). 0 < length q.live) c.self.view_is
    (c.meet.ensures.manned least (subst (λ (q : QueueState g.row.H-Way.Denot). IsMet g.H.Hall.manned g.H.Hall.staffed least c.args.hall.now q.live) (sym c.self.view_is) met) idle)
