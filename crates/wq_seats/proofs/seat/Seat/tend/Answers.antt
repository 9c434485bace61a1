use Rattle.std.proofs.Common.{subst, sym}
use Rattle.wq_seats.specs.Seats.{IsAtWork, SeatState}
use Rattle.wq_seats.proofs.Speaking.{works_beat}
use Rattle.wq_seats.proofs.seat.Seat.tend.Goals as goal

pub returns-then-not-is_empty-clause-works : goal.returns-then-not-is_empty-clause-works
returns-then-not-is_empty-clause-works g c files held next tells w =
    let beat = subst (λ (x : SeatState g.row.L.Denot). IsAtWork g.F.Commands.gives g.F.Commands.may_fail g.L.Link.history files held next x) (sym c.beat.ensures.only) (works_beat g.F.Commands.gives g.F.Commands.may_fail g.L.Link.history files held next c.args.self.now c.beat.new.self.health c.beat.ensures.rested w) in
    c.probe.ensures.works files held next tells (c.in-Ok.ensures.works files held next tells beat)

pub returns-clause-works : goal.returns-clause-works
returns-clause-works g c files held next tells w =
    c.in-Ok.ensures.works files held next tells (subst (λ (x : SeatState g.row.L.Denot). IsAtWork g.F.Commands.gives g.F.Commands.may_fail g.L.Link.history files held next x) (sym c.beat.ensures.only) (works_beat g.F.Commands.gives g.F.Commands.may_fail g.L.Link.history files held next c.args.self.now c.beat.new.self.health c.beat.ensures.rested w))
