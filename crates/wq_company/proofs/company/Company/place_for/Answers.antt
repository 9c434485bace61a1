use Rattle.std.proofs.Common.{◌≡◌, ◌∙◌, List, ap, length, subst, sym}
use Rattle.std.specs.Prelude.{IfNone}
use Rattle.wq_company.specs.Companies.{AreReady, AreSure, CompanyState, live_of}
use Rattle.wq_seats.specs.Seats.{SeatState}
use Rattle.wq_company.proofs.company.Company.place_for.Goals as goal

pub returns-clause-room : goal.returns-clause-room
returns-clause-room g c least sure ready within few =
    let same = sym (ap (λ (x : CompanyState g.row.L.Denot). x.seats) c.self.view_is) ∙ sym c.as_slice.ensures.value in
    subst (λ (xs : List (SeatState g.row.L.Denot)). IfNone c.place_in.result (length (live_of xs) ≡ 0)) (sym same)
    (c.place_in.ensures.room least (subst (λ (xs : List (SeatState g.row.L.Denot)). AreSure g.L.Link.sure g.L.Link.offers least xs) same sure)
    (subst (λ (xs : List (SeatState g.row.L.Denot)). AreReady least xs) same ready) within few)
