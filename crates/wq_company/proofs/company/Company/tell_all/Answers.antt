use Rattle.std.proofs.Common.{sym, subst}
use Rattle.std.specs.Prelude.{OnOk}
use Rattle.wq_company.specs.Companies.{AreServed, AreSure, CompanyState, StaySure}
use Rattle.wq_company.proofs.company.Company.tell_all.Goals as goal

pub returns-clause-served : goal.returns-clause-served
returns-clause-served g c tells all =
    c.tell_seats.ensures.served c.self.inside.next tells
    (subst (λ (s : CompanyState g.row.L.Denot). AreServed g.F.Commands.gives g.F.Commands.may_fail g.L.Link.history c.args.files.now c.args.book.now.held s.next s.seats) (sym c.self.view_is) all)

pub returns-clause-calm : goal.returns-clause-calm
returns-clause-calm g c least served sure =
    subst (λ (s : CompanyState g.row.L.Denot). OnOk c.tell_seats.result (StaySure g.L.Link.sure g.L.Link.offers least s.seats c.tell_seats.new.seats.items)) c.self.view_is
    (c.tell_seats.ensures.calm c.self.inside.next least
    (λ tells. subst (λ (s : CompanyState g.row.L.Denot). AreServed g.F.Commands.gives g.F.Commands.may_fail g.L.Link.history c.args.files.now c.args.book.now.held s.next s.seats) (sym c.self.view_is) (served tells))
    (subst (λ (s : CompanyState g.row.L.Denot). AreSure g.L.Link.sure g.L.Link.offers least s.seats) (sym c.self.view_is) sure))
