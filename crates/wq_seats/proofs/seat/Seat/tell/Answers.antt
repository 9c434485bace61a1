use Rattle.std.proofs.Common.{◌≡◌, ◌∙◌, Option, Some, None, ap, sym, subst}
use Rattle.wq_seats.specs.declared.run.Again.{Again}
use Rattle.wq_seats.specs.Seats.{IsAtWork, SeatState}
use Rattle.wq_seats.proofs.Calls.{asked_by}
use Rattle.wq_seats.proofs.Keeping.{keeps_equal, keeps_then}
use Rattle.wq_seats.proofs.Settling.{is_well}
use Rattle.wq_seats.proofs.seat.Seat.tell.Goals as goal

pub returns-in-Some-clause-works : goal.returns-in-Some-clause-works
returns-in-Some-clause-works g c next tells w =
    let i = c.self.inside in
    let s : SeatState g.row.L.Denot = record { peer = i.peer; stated = i.stated; runs = i.runs.items; again = i.again; health = i.health; gone = i.gone } in
    let files = c.args.files.now in
    let held = c.args.book.now.held in
    let again : Again = c.in-Some.again in
    let cancelled = c.in-Ok.ensures.works files next tells w in
    let inside = subst (λ (x : SeatState g.row.L.Denot). IsAtWork g.F.Commands.gives g.F.Commands.may_fail g.L.Link.history files held next x) (sym c.self.view_is) cancelled in
    let value = c.take.ensures.value in
    let some = c.in-Some.is in
    let owed : i.again ≡ Some again = cc in
    let was = subst (λ (a : Option Again). IsAtWork g.F.Commands.gives g.F.Commands.may_fail g.L.Link.history files held next (record s { again = a })) owed inside in
    let now = c.ask_again.ensures.works next tells was in
    let none : c.ask_again.new.self.again ≡ None = ap (λ (x : SeatState g.row.L.Denot). x.again) c.ask_again.ensures.only ∙ c.take.ensures.after in
    asked_by g.F.Commands.gives g.F.Commands.may_fail g.L.Link.history files held next (record c.ask_again.new.self { again = Some again }) c.ask_again.new.self
    (ap (λ (a : Option Again). record c.ask_again.new.self { again = a }) none) c.ask_again.result now

pub returns-in-Some-clause-keeps : goal.returns-in-Some-clause-keeps
returns-in-Some-clause-keeps g c =
    let held = c.args.book.now.held in
    keeps_then held held held c.args.self.now c.cancel_gone.new.self c.ask_again.new.self c.cancel_gone.ensures.keeps
    (keeps_equal held c.cancel_gone.new.self c.ask_again.new.self
    (ap (λ (x : SeatState g.row.L.Denot). x.gone) c.ask_again.ensures.only ∙ ap (λ (x : SeatState g.row.L.Denot). x.gone) c.self.view_is)
    (ap (λ (x : SeatState g.row.L.Denot). x.runs) c.ask_again.ensures.only ∙ ap (λ (x : SeatState g.row.L.Denot). x.runs) c.self.view_is))

pub returns-in-Some-clause-calm : goal.returns-in-Some-clause-calm
returns-in-Some-clause-calm g c next tells w sure =
    let well = is_well g.F.Commands.gives g.F.Commands.may_fail g.L.Link.history c.args.files.now c.args.book.now.held next c.args.self.now w (c.sure_links_are_orderly.ensures c.args.self.now.peer.way sure).1 in
    let again : Again = c.in-Some.again in
    let value = c.take.ensures.value in
    let some = c.in-Some.is in
    let owed : c.self.inside.again ≡ Some again = cc in
    let none : c.self.inside.again ≡ None = ap (λ (x : SeatState g.row.L.Denot). x.again) c.self.view_is ∙ ap (λ (x : SeatState g.row.L.Denot). x.again) c.cancel_gone.ensures.only ∙ (w.well well).0 in
    let wrong : ⊥ = cc in
    absurd wrong
