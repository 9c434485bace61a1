use Rattle.std.proofs.Common.{inl, map, sym, subst}
use Rattle.task_book.specs.Kept.{Kept}
use Rattle.wq_company.specs.Companies.{AreSureOf, AreWithin, CompanyState, live_of}
use Rattle.wq_seats.specs.Works.{work_of}
use Rattle.wq_submit.proofs.queue.Queue.new.Goals as goal

pub returns-clause-staffed : goal.returns-clause-staffed
returns-clause-staffed g c least hall is = record {
  met = inl is;
  links = subst (λ (k : CompanyState g.row.H-Way.Denot). AreSureOf g.H.Way.Link.sure g.H.Way.Link.offers least (live_of k.seats)) (sym c.new-3.ensures) tt;
  tasks = subst (λ (k : Kept). AreWithin least (map work_of k.held)) (sym c.new-2.ensures) tt;
}
