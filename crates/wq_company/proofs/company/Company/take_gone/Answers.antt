use Rattle.std.proofs.Common.{◌≡◌, ◌∙◌, List, Option, ap, subst, sym, true}
use Rattle.std.specs.Prelude.{IfSome, position}
use Rattle.std.specs.List.{AllByRecursion}
use Rattle.task_book.proofs.Positions.{all_left, found}
use Rattle.wq_company.specs.Companies.{AreRun, AreServed, CompanyState, live_of, ways_of}
use Rattle.wq_seats.specs.Turns.{IsServed}
use Rattle.wq_seats.specs.Seats.{SeatState}
use Rattle.wq_company.proofs.Parting.{ways_left}
use Rattle.wq_company.proofs.Placing.{live_parted, run_parted}
use Rattle.wq_company.proofs.company.Company.take_gone.Goals as goal

pub returns-clause-links : goal.returns-clause-links
returns-clause-links g c fair =
    let i = c.self.inside in
    let was = subst (λ (s : CompanyState g.row.L.Denot). AllByRecursion g.L.Link.honest (ways_of s.seats)) (sym c.self.view_is) fair in
    subst (λ (xs : List (SeatState g.row.L.Denot)). AllByRecursion g.L.Link.honest (ways_of xs)) (sym c.remove.ensures.items) (ways_left g.L.Link.honest i.seats.items c.in-Some.at was)

pub returns-clause-served : goal.returns-clause-served
returns-clause-served g c files held tells all =
    let i = c.self.inside in
    let was = subst (λ (s : CompanyState g.row.L.Denot). AreServed g.F.Commands.gives g.F.Commands.may_fail g.L.Link.history files held s.next s.seats) (sym c.self.view_is) all in
    subst (λ (xs : List (SeatState g.row.L.Denot)). AreServed g.F.Commands.gives g.F.Commands.may_fail g.L.Link.history files held i.next xs) (sym c.remove.ensures.items)
    (all_left (IsServed g.F.Commands.gives g.F.Commands.may_fail g.L.Link.history files held i.next) i.seats.items c.in-Some.at was)

pub returns-clause-run : goal.returns-clause-run
returns-clause-run g c held are =
    let i = c.self.inside in
    let at = c.in-Some.at in
    let f = found (λ (s : SeatState g.row.L.Denot). s.gone) i.seats.items at (ap (position (λ (s : SeatState g.row.L.Denot). s.gone)) (sym c.as_slice.ensures.value) ∙ sym c.place_gone.ensures.place ∙ c.in-Some.is) in
    let gone = subst (λ (p : Option (SeatState g.row.L.Denot)). IfSome p (λ s. s.gone ≡ true)) (sym f.is_there) f.passes in
    subst (λ (xs : List (SeatState g.row.L.Denot)). AreRun held xs) (sym c.remove.ensures.items)
    (run_parted held i.seats.items at gone (subst (λ (x : CompanyState g.row.L.Denot). AreRun held x.seats) (sym c.self.view_is) are))

pub returns-clause-live : goal.returns-clause-live
returns-clause-live g c =
    let i = c.self.inside in
    let at = c.in-Some.at in
    let f = found (λ (s : SeatState g.row.L.Denot). s.gone) i.seats.items at (ap (position (λ (s : SeatState g.row.L.Denot). s.gone)) (sym c.as_slice.ensures.value) ∙ sym c.place_gone.ensures.place ∙ c.in-Some.is) in
    let gone = subst (λ (p : Option (SeatState g.row.L.Denot)). IfSome p (λ s. s.gone ≡ true)) (sym f.is_there) f.passes in
    ap (λ (xs : List (SeatState g.row.L.Denot)). live_of xs) c.remove.ensures.items ∙ live_parted i.seats.items at gone ∙ ap (λ (x : CompanyState g.row.L.Denot). live_of x.seats) c.self.view_is
