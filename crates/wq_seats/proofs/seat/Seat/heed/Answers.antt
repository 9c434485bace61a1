use Rattle.std.proofs.Common.{ap}
use Rattle.wq_seats.specs.Seats.{SeatState}
use Rattle.wq_seats.proofs.Keeping.{keeps_closed}
use Rattle.wq_seats.proofs.seat.Seat.heed.Goals as goal

pub returns-in-Finish-clause-keeps : goal.returns-in-Finish-clause-keeps
returns-in-Finish-clause-keeps g c =
    keeps_closed c.args.book.now.held c.end.new.book.held c.args.self.now c.end.new.self c.in-Finish.attempt c.end.ensures.stops (ap (λ (x : SeatState g.row.L.Denot). x.gone) c.end.ensures.only) (ap (λ (x : SeatState g.row.L.Denot). x.runs) c.end.ensures.only)

pub returns-in-Fail-clause-keeps : goal.returns-in-Fail-clause-keeps
returns-in-Fail-clause-keeps g c =
    keeps_closed c.args.book.now.held c.end-in-Fail.new.book.held c.args.self.now c.end-in-Fail.new.self c.in-Fail.attempt c.end-in-Fail.ensures.stops (ap (λ (x : SeatState g.row.L.Denot). x.gone) c.end-in-Fail.ensures.only) (ap (λ (x : SeatState g.row.L.Denot). x.runs) c.end-in-Fail.ensures.only)

pub returns-in-Lose-clause-keeps : goal.returns-in-Lose-clause-keeps
returns-in-Lose-clause-keeps g c =
    keeps_closed c.args.book.now.held c.lose.new.book.held c.args.self.now c.lose.new.self c.in-Lose.attempt c.lose.ensures.stops (ap (λ (x : SeatState g.row.L.Denot). x.gone) c.lose.ensures.only) (ap (λ (x : SeatState g.row.L.Denot). x.runs) c.lose.ensures.only)
