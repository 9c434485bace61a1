use Rattle.std.proofs.Common.{None, sym, subst}
use Rattle.peers.specs.States.{PeerState}
use Rattle.wq_seats.specs.Seats.{IsAtWork, SeatState}
use Rattle.wq_seats.proofs.Hearing.{listen_works}
use Rattle.wq_seats.proofs.seat.Seat.listen.Goals as goal

pub returns-in-Ok-Piece-clause-works : goal.returns-in-Ok-Piece-clause-works
returns-in-Ok-Piece-clause-works g c files held next tells w =
    let i = c.self.inside in
    let s : SeatState g.row.L.Denot = record { peer = i.peer; stated = i.stated; runs = i.runs.items; again = i.again; health = i.health; gone = i.gone } in
    let was = subst (λ (x : SeatState g.row.L.Denot). IsAtWork g.F.Commands.gives g.F.Commands.may_fail g.L.Link.history files held next x) (sym c.self.view_is) w in
    let here = subst (λ (q : PeerState g.row.L.Denot). IsAtWork g.F.Commands.gives g.F.Commands.may_fail g.L.Link.history files held next (record s { peer = q })) (sym c.ready.ensures) was in
    listen_works g.F.Commands.gives g.F.Commands.may_fail g.L.Link.history files held next (record s { peer = c.ready.new.self }) c.listen.new.self c.listen.ensures.session (λ said heard serves. c.in-Ok-Piece.ensures.serves said heard None tells serves) here

pub returns-in-Ok-Idle-clause-works : goal.returns-in-Ok-Idle-clause-works
returns-in-Ok-Idle-clause-works g c files held next tells w =
    let i = c.self.inside in
    let s : SeatState g.row.L.Denot = record { peer = i.peer; stated = i.stated; runs = i.runs.items; again = i.again; health = i.health; gone = i.gone } in
    let was = subst (λ (x : SeatState g.row.L.Denot). IsAtWork g.F.Commands.gives g.F.Commands.may_fail g.L.Link.history files held next x) (sym c.self.view_is) w in
    let here = subst (λ (q : PeerState g.row.L.Denot). IsAtWork g.F.Commands.gives g.F.Commands.may_fail g.L.Link.history files held next (record s { peer = q })) (sym c.ready.ensures) was in
    listen_works g.F.Commands.gives g.F.Commands.may_fail g.L.Link.history files held next (record s { peer = c.ready.new.self }) c.listen.new.self c.listen.ensures.session (λ said heard serves. c.in-Ok-Idle.ensures.serves said heard None tells serves) here
