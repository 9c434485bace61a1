use Rattle.std.proofs.Common.{◌≡◌, ◌⊎◌, ◌++◌, ◌∷◌, ◌∙◌, [], Bool, List, Result, ap, cond, subst, sym}
use Rattle.std.specs.Prelude.{OnOk, is_ok}
use Rattle.flow_types.specs.declared.lists.Memory.{Memory}
use Rattle.wq_company.specs.Companies.{AreRun, AreServed, CompanyState, live_of, ways_of}
use Rattle.wq_company.proofs.Parting.{ways_pushed}
use Rattle.wq_company.proofs.Placing.{live_came, run_pushed}
use Rattle.wq_company.proofs.Serving.{served_pushed}
use Rattle.wq_seats.specs.Seats.{SeatState}
use Rattle.wq_company.proofs.company.Company.let_in.Goals as goal
use Rattle.wq_company.proofs.company.Company.let_in.Goals.{in-Ok-push, in-Err-push}

pub returns-clause-comes : goal.returns-clause-comes
returns-clause-comes g c =
    let now = c.push.new.self.items in
    let pushed = ways_pushed (is_ok c.push.result) c.self.inside.seats.items now c.in-Ok.seat c.push.ensures.items in
    subst (λ (s : CompanyState g.row.L.Denot). (ways_of now ≡ ways_of s.seats) ⊎ (ways_of now ≡ ways_of s.seats ++ c.args.way ∷ [])) c.self.view_is
    (subst (λ (w : g.row.L.Denot). (ways_of now ≡ ways_of c.self.inside.seats.items) ⊎ (ways_of now ≡ ways_of c.self.inside.seats.items ++ w ∷ [])) c.in-Ok.ensures.way pushed)

pub returns-clause-served : goal.returns-clause-served
returns-clause-served g c files held tells all =
    let i = c.self.inside in
    let was = subst (λ (x : CompanyState g.row.L.Denot). AreServed g.F.Commands.gives g.F.Commands.may_fail g.L.Link.history files held x.next x.seats) (sym c.self.view_is) all in
    served_pushed g.F.Commands.gives g.F.Commands.may_fail g.L.Link.history files held i.next (is_ok c.push.result) i.seats.items c.push.new.self.items c.in-Ok.seat c.push.ensures.items
    (λ here. c.in-Ok.ensures.works files held i.next tells) was

pub returns-clause-run : goal.returns-clause-run
returns-clause-run g c held are =
    run_pushed held (is_ok c.push.result) c.self.inside.seats.items c.push.new.self.items c.in-Ok.seat c.push.ensures.items (subst (λ (x : CompanyState g.row.L.Denot). AreRun held x.seats) (sym c.self.view_is) are)

pub returns-clause-calm : goal.returns-clause-calm
returns-clause-calm g c =
    let i = c.self.inside in
    let s : SeatState g.row.L.Denot = c.in-Ok.seat in
    let seats = c.push.new.self.items in
    let fact = live_of seats ≡ live_of c.args.self.now.seats ++ c.args.way ∷ [] in
    elim c.match-push.branch [
      | in-Ok-push b ↦ subst (λ (r : Result Unit Memory). OnOk r fact) (sym b.result-is)
          (ap (λ (xs : List (SeatState g.row.L.Denot)). live_of xs) (c.push.ensures.items ∙ ap (λ (ok : Bool). cond ok (i.seats.items ++ s ∷ []) i.seats.items) (ap is_ok b.in-Ok-push.is))
          ∙ live_came i.seats.items s c.in-Ok.ensures.lives ∙ ap (λ (w : g.row.L.Denot). live_of i.seats.items ++ w ∷ []) c.in-Ok.ensures.way ∙ ap (λ (x : CompanyState g.row.L.Denot). live_of x.seats ++ c.args.way ∷ []) c.self.view_is)
      | in-Err-push b ↦ subst (λ (r : Result Unit Memory). OnOk r fact) (sym b.result-is) tt
    ]
