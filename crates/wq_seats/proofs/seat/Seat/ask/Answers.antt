use Rattle.std.proofs.Common.{[], Some, refl, sym, subst}
use Rattle.wq_seats.specs.Seats.{IsAtWork, MayAsk, SeatState}
use Rattle.wq_seats.proofs.Calls.{again_works_by, ask_works_by}
use Rattle.wq_seats.proofs.seat.Seat.ask.Goals as goal

pub returns-clause-asked : goal.returns-clause-asked
returns-clause-asked g c files held next tells is own m =
    let i = c.self.inside in
    let s : SeatState g.row.L.Denot = record { peer = i.peer; stated = i.stated; runs = i.runs.items; again = i.again; health = i.health; gone = i.gone } in
    let was = subst (λ (x : SeatState g.row.L.Denot). MayAsk g.F.Commands.gives g.F.Commands.may_fail g.L.Link.history files held next x c.args.task []) (sym c.self.view_is) m in
    ask_works_by g.F.Commands.gives g.F.Commands.may_fail g.L.Link.history files held next s c.ask.new.self c.args.task c.ask.result c.ask.ensures.session is own
    (λ said heard serves. c.ask.ensures.serves said heard tells serves) was

pub returns-clause-once_more : goal.returns-clause-once_more
returns-clause-once_more g c files held next again own tells runs is same w =
    let i = c.self.inside in
    let s : SeatState g.row.L.Denot = record { peer = i.peer; stated = i.stated; runs = i.runs.items; again = i.again; health = i.health; gone = i.gone } in
    let was = subst (λ (x : SeatState g.row.L.Denot). IsAtWork g.F.Commands.gives g.F.Commands.may_fail g.L.Link.history files held next (record x { again = Some again })) (sym c.self.view_is) w in
    again_works_by g.F.Commands.gives g.F.Commands.may_fail g.L.Link.history files held next (record s { again = Some again }) c.ask.new.self again c.args.task own c.ask.result c.ask.ensures.session refl runs is same
    (λ said heard serves among. c.ask.ensures.again said heard tells serves among) was
