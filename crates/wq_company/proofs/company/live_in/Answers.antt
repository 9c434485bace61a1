use Rattle.std.proofs.Common.{arith}
use Rattle.wq_company.proofs.Parting.{live_little, live_next}
use Rattle.wq_company.proofs.company.live_in.Goals as goal

pub loop-seat-preserved : goal.loop-seat-preserved
loop-seat-preserved g c =
    let s = c.seat-item.result in
    let next = live_next c.args.seats.now c.loop-seat.seat-index s (omega arith) c.seat-item.is in
    let little = live_little s in
    (omega (arith, c.loop-seat.invariant.0, c.with_seat-live.ensures, little), omega (arith, c.loop-seat.invariant.1, c.with_seat-live.ensures, next))
