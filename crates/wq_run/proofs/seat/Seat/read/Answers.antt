use Rattle.std.proofs.Common.{◌≡◌, ap, subst, sym, None, ◌∙◌}
use Rattle.peers.specs.States.{PeerState}
use Rattle.wq_run.specs.Trusted.{IsFair, IsTrusted}
use Rattle.wq_run.specs.Calm.{IsSureOf, IsSureSeat}
use Rattle.wq_run.specs.Seats.{SeatState}
use Rattle.wq_run.proofs.Trusts.{come_trusted}
use Rattle.wq_run.proofs.Calm.{sure_of_on, stays_ok, sure_come, wants_memory}
use Rattle.peers.specs.Serves.{Serves}
use Rattle.wq_run.specs.Dues.{StaysHeard}
use Rattle.wq_run.specs.Seats.{SeatState}
use Rattle.wq_run.proofs.Fares.{received_same}
use Rattle.wq_run.proofs.Heards.{heard_served}
use Rattle.wq_run.proofs.seat.Seat.read.Goals as goal

pub invariant_of-self-in-Ok-Piece : goal.invariant_of-self-in-Ok-Piece
invariant_of-self-in-Ok-Piece g c ready held =
    come_trusted g.T.Trust.holds g.F.Commands.gives g.F.Commands.may_fail g.L.Link.history (IsFair g.T.Trust.holds g.L.Link.tells g.L.Link.honest) g.T.Trust.plan g.T.Trust.run g.T.Trust.due (record { peer = c.ready.new.self; link = c.self.inside.link; attempts = c.self.inside.attempts.items; newest = c.self.inside.newest }) c.listen.new.self c.listen.ensures.session (λ said heard waiting honest serves. c.in-Ok-Piece.ensures.serves said heard waiting honest.0 serves) (λ fair. (fair.0, λ held. c.listen.ensures.on.honestly (fair.1 held)))
    (subst (λ (p : PeerState g.row.L.Denot). IsTrusted g.T.Trust.holds g.F.Commands.gives g.F.Commands.may_fail g.L.Link.history (IsFair g.T.Trust.holds g.L.Link.tells g.L.Link.honest) g.T.Trust.plan g.T.Trust.run g.T.Trust.due (record { peer = p; link = c.self.inside.link; attempts = c.self.inside.attempts.items; newest = c.self.inside.newest })) (sym c.ready.ensures) (c.self.invariant ready held))

pub invariant_of-self-in-Ok-Idle : goal.invariant_of-self-in-Ok-Idle
invariant_of-self-in-Ok-Idle g c ready held =
    come_trusted g.T.Trust.holds g.F.Commands.gives g.F.Commands.may_fail g.L.Link.history (IsFair g.T.Trust.holds g.L.Link.tells g.L.Link.honest) g.T.Trust.plan g.T.Trust.run g.T.Trust.due (record { peer = c.ready.new.self; link = c.self.inside.link; attempts = c.self.inside.attempts.items; newest = c.self.inside.newest }) c.listen.new.self c.listen.ensures.session (λ said heard waiting honest serves. c.in-Ok-Idle.ensures.serves said heard waiting honest.0 serves) (λ fair. (fair.0, λ held. c.listen.ensures.on.honestly (fair.1 held)))
    (subst (λ (p : PeerState g.row.L.Denot). IsTrusted g.T.Trust.holds g.F.Commands.gives g.F.Commands.may_fail g.L.Link.history (IsFair g.T.Trust.holds g.L.Link.tells g.L.Link.honest) g.T.Trust.plan g.T.Trust.run g.T.Trust.due (record { peer = p; link = c.self.inside.link; attempts = c.self.inside.attempts.items; newest = c.self.inside.newest })) (sym c.ready.ensures) (c.self.invariant ready held))

pub returns-in-Ok-Piece-clause-heard : goal.returns-in-Ok-Piece-clause-heard
returns-in-Ok-Piece-clause-heard g c tells trusted =
    let same : c.ready.new.self ≡ c.args.self.now.peer = c.ready.ensures ∙ ap (λ (s : SeatState g.row.L.Denot). s.peer) c.self.view_is in
    let was = trusted.spoken.serves in
    let serves = subst (λ (p : PeerState g.row.L.Denot). Serves g.F.Commands.gives g.F.Commands.may_fail (g.L.Link.history p.way) p.feed p.session trusted.said trusted.heard None) (sym same) was in
    subst (λ (p : PeerState g.row.L.Denot). StaysHeard g.L.Link.history p c.listen.new.self) same
    (heard_served g.L.Link.history g.F.Commands.gives g.F.Commands.may_fail c.ready.new.self c.listen.new.self trusted.said trusted.heard None (c.listen.ensures.kept tells) serves (c.in-Ok-Piece.ensures.serves trusted.said trusted.heard None tells serves))

pub returns-in-Ok-Idle-clause-heard : goal.returns-in-Ok-Idle-clause-heard
returns-in-Ok-Idle-clause-heard g c tells trusted =
    let same : c.ready.new.self ≡ c.args.self.now.peer = c.ready.ensures ∙ ap (λ (s : SeatState g.row.L.Denot). s.peer) c.self.view_is in
    let was = trusted.spoken.serves in
    let serves = subst (λ (p : PeerState g.row.L.Denot). Serves g.F.Commands.gives g.F.Commands.may_fail (g.L.Link.history p.way) p.feed p.session trusted.said trusted.heard None) (sym same) was in
    subst (λ (p : PeerState g.row.L.Denot). StaysHeard g.L.Link.history p c.listen.new.self) same
    (heard_served g.L.Link.history g.F.Commands.gives g.F.Commands.may_fail c.ready.new.self c.listen.new.self trusted.said trusted.heard None (c.listen.ensures.kept tells) serves (c.in-Ok-Idle.ensures.serves trusted.said trusted.heard None tells serves))

pub returns-in-Ok-Piece-clause-calm : goal.returns-in-Ok-Piece-clause-calm
returns-in-Ok-Piece-clause-calm g c asked tells was =
    stays_ok (sure_come g.F.Commands.gives g.F.Commands.may_fail g.L.Link.history (IsSureOf g.L.Link.sure g.L.Link.offers asked) (record { peer = c.ready.new.self; link = c.self.inside.link; attempts = c.self.inside.attempts.items; newest = c.self.inside.newest }) c.listen.new.self c.listen.ensures.session (λ said heard waiting serves. c.in-Ok-Piece.ensures.serves said heard waiting tells serves) (sure_of_on c.listen.ensures.on)
    (subst (λ (p : PeerState g.row.L.Denot). IsSureSeat g.F.Commands.gives g.F.Commands.may_fail g.L.Link.history (IsSureOf g.L.Link.sure g.L.Link.offers asked) (record { peer = p; link = c.self.inside.link; attempts = c.self.inside.attempts.items; newest = c.self.inside.newest })) (sym c.ready.ensures) (subst (IsSureSeat g.F.Commands.gives g.F.Commands.may_fail g.L.Link.history (IsSureOf g.L.Link.sure g.L.Link.offers asked)) (sym c.self.view_is) was)))

pub returns-in-Ok-Idle-clause-calm : goal.returns-in-Ok-Idle-clause-calm
returns-in-Ok-Idle-clause-calm g c asked tells was =
    stays_ok (sure_come g.F.Commands.gives g.F.Commands.may_fail g.L.Link.history (IsSureOf g.L.Link.sure g.L.Link.offers asked) (record { peer = c.ready.new.self; link = c.self.inside.link; attempts = c.self.inside.attempts.items; newest = c.self.inside.newest }) c.listen.new.self c.listen.ensures.session (λ said heard waiting serves. c.in-Ok-Idle.ensures.serves said heard waiting tells serves) (sure_of_on c.listen.ensures.on)
    (subst (λ (p : PeerState g.row.L.Denot). IsSureSeat g.F.Commands.gives g.F.Commands.may_fail g.L.Link.history (IsSureOf g.L.Link.sure g.L.Link.offers asked) (record { peer = p; link = c.self.inside.link; attempts = c.self.inside.attempts.items; newest = c.self.inside.newest })) (sym c.ready.ensures) (subst (IsSureSeat g.F.Commands.gives g.F.Commands.may_fail g.L.Link.history (IsSureOf g.L.Link.sure g.L.Link.offers asked)) (sym c.self.view_is) was)))

pub returns-in-Err-clause-calm : goal.returns-in-Err-clause-calm
returns-in-Err-clause-calm g c asked tells was =
    wants_memory c.in-Err.leave (c.in-Err.ensures.sure (subst (λ (p : PeerState g.row.L.Denot). g.L.Link.sure p.way) (sym c.ready.ensures) (subst (IsSureSeat g.F.Commands.gives g.F.Commands.may_fail g.L.Link.history (IsSureOf g.L.Link.sure g.L.Link.offers asked)) (sym c.self.view_is) was).tended.surely.surely))

pub returns-then-not-is_turn-clause-comes : goal.returns-then-not-is_turn-clause-comes
returns-then-not-is_turn-clause-comes g c tells =
    let same : c.ready.new.self ≡ c.args.self.now.peer = c.ready.ensures ∙ ap (λ (s : SeatState g.row.L.Denot). s.peer) c.self.view_is in
    received_same (g.L.Link.history c.args.self.now.peer.way) (g.L.Link.history c.ready.new.self.way) (ap (λ (p : PeerState g.row.L.Denot). g.L.Link.history p.way) same)
