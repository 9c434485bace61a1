use Rattle.std.proofs.Common.{None, sym, subst}
use Rattle.wq_seats.specs.Seats.{IsAtWork, SeatState}
use Rattle.wq_seats.proofs.Hearing.{listen_works, where_ok}
use Rattle.wq_seats.proofs.seat.Seat.flush.Goals as goal

pub returns-clause-works : goal.returns-clause-works
returns-clause-works g c files held next tells w =
    let i = c.self.inside in
    let s : SeatState g.row.L.Denot = record { peer = i.peer; stated = i.stated; runs = i.runs.items; again = i.again; health = i.health; gone = i.gone } in
    let was = subst (λ (x : SeatState g.row.L.Denot). IsAtWork g.F.Commands.gives g.F.Commands.may_fail g.L.Link.history files held next x) (sym c.self.view_is) w in
    where_ok c.flush.result (listen_works g.F.Commands.gives g.F.Commands.may_fail g.L.Link.history files held next s c.flush.new.self c.flush.ensures.session (λ said heard serves. c.flush.ensures.serves said heard None tells serves) was)
