use Rattle.std.proofs.Common.{sym, subst}
use Rattle.std.specs.Prelude.{OnOk}
use Rattle.std.specs.List.{AllByRecursion}
use Rattle.wq_company.specs.Companies.{AreReady, AreServed, AreSure, CompanyState, StaySure, ways_of}
use Rattle.wq_company.proofs.company.Company.read_all.Goals as goal

pub returns-clause-served : goal.returns-clause-served
returns-clause-served g c files tells all =
    c.read_seats.ensures.served files c.self.inside.next tells
    (subst (λ (s : CompanyState g.row.L.Denot). AreServed g.F.Commands.gives g.F.Commands.may_fail g.L.Link.history files c.args.book.now.held s.next s.seats) (sym c.self.view_is) all)

pub returns-clause-shows : goal.returns-clause-shows
returns-clause-shows g c files tells all =
    c.read_seats.ensures.shows files c.self.inside.next tells
    (subst (λ (s : CompanyState g.row.L.Denot). AreServed g.F.Commands.gives g.F.Commands.may_fail g.L.Link.history files c.args.book.now.held s.next s.seats) (sym c.self.view_is) all)

pub returns-clause-right : goal.returns-clause-right
returns-clause-right g c files tells fair all =
    c.read_seats.ensures.right files c.self.inside.next tells
    (subst (λ (s : CompanyState g.row.L.Denot). AllByRecursion g.L.Link.honest (ways_of s.seats)) (sym c.self.view_is) fair)
    (subst (λ (s : CompanyState g.row.L.Denot). AreServed g.F.Commands.gives g.F.Commands.may_fail g.L.Link.history files c.args.book.now.held s.next s.seats) (sym c.self.view_is) all)

pub returns-clause-calm : goal.returns-clause-calm
returns-clause-calm g c files least served sure =
    subst (λ (s : CompanyState g.row.L.Denot). OnOk c.read_seats.result (StaySure g.L.Link.sure g.L.Link.offers least s.seats c.read_seats.new.seats.items)) c.self.view_is
    (c.read_seats.ensures.calm files c.self.inside.next least
    (λ tells. subst (λ (s : CompanyState g.row.L.Denot). AreServed g.F.Commands.gives g.F.Commands.may_fail g.L.Link.history files c.args.book.now.held s.next s.seats) (sym c.self.view_is) (served tells))
    (subst (λ (s : CompanyState g.row.L.Denot). AreSure g.L.Link.sure g.L.Link.offers least s.seats) (sym c.self.view_is) sure))

pub returns-clause-ready : goal.returns-clause-ready
returns-clause-ready g c files least served sure idle =
    let is = c.read_seats.ensures.ready files c.self.inside.next least
    (λ tells. subst (λ (s : CompanyState g.row.L.Denot). AreServed g.F.Commands.gives g.F.Commands.may_fail g.L.Link.history files c.args.book.now.held s.next s.seats) (sym c.self.view_is) (served tells))
    (subst (λ (s : CompanyState g.row.L.Denot). AreSure g.L.Link.sure g.L.Link.offers least s.seats) (sym c.self.view_is) sure) idle in
    (subst (λ (s : CompanyState g.row.L.Denot). AreReady least s.seats) c.self.view_is is.0, is.1)
