use Rattle.std.proofs.Common.{subst, sym}
use Rattle.peers.specs.States.{PeerState, Rests, Settled}
use Rattle.wq_run.specs.Trusted.{IsFair, IsStranger}
use Rattle.wq_run.proofs.Trusts.{come_stranger}
use Rattle.wq_run.specs.Calm.{IsSureOf, IsSureGuest}
use Rattle.wq_run.proofs.Calm.{guest_come, piece_owes, sure_of_on, stays_ok, wants_memory}
use Rattle.wq_run.proofs.company.guests.listen.Goals as goal

pub returns-in-Ok-Piece-clause-stranger : goal.returns-in-Ok-Piece-clause-stranger
returns-in-Ok-Piece-clause-stranger g c was =
    come_stranger g.F.Commands.gives g.F.Commands.may_fail g.L.Link.history (IsFair g.T.Trust.holds g.L.Link.tells g.L.Link.honest) c.ready.new.self c.listen.new.self c.listen.ensures.session (λ said heard waiting honest serves. c.in-Ok-Piece.ensures.serves said heard waiting honest.0 serves) (λ fair. (fair.0, λ held. c.listen.ensures.on.honestly (fair.1 held)))
    (subst (λ (p : PeerState g.row.L.Denot). IsStranger g.F.Commands.gives g.F.Commands.may_fail g.L.Link.history (IsFair g.T.Trust.holds g.L.Link.tells g.L.Link.honest) p) (sym c.ready.ensures) was)

pub returns-in-Ok-Piece-clause-calm : goal.returns-in-Ok-Piece-clause-calm
returns-in-Ok-Piece-clause-calm g c asked tells was =
    let now = subst (λ (p : PeerState g.row.L.Denot). IsSureGuest g.F.Commands.gives g.F.Commands.may_fail g.L.Link.history g.L.Link.idle_count (IsSureOf g.L.Link.sure g.L.Link.offers asked) p) (sym c.ready.ensures) was in
    stays_ok (guest_come g.F.Commands.gives g.F.Commands.may_fail g.L.Link.history (IsSureOf g.L.Link.sure g.L.Link.offers asked) c.ready.new.self c.listen.new.self c.listen.ensures.session (λ said heard waiting serves. c.in-Ok-Piece.ensures.serves said heard waiting tells serves) (sure_of_on c.listen.ensures.on)
    (λ some. piece_owes (g.L.Link.idle_count c.listen.new.self.way) _ (subst (Rests (g.L.Link.idle_count c.ready.new.self.way) (g.L.Link.idle_count c.listen.new.self.way) c.ready.new.self.feed c.listen.new.self.feed) c.in-Ok-Piece.field-0-is c.in-Ok-Piece.ensures.rests) some) now)

pub returns-in-Ok-Idle-clause-stranger : goal.returns-in-Ok-Idle-clause-stranger
returns-in-Ok-Idle-clause-stranger g c was =
    come_stranger g.F.Commands.gives g.F.Commands.may_fail g.L.Link.history (IsFair g.T.Trust.holds g.L.Link.tells g.L.Link.honest) c.ready.new.self c.listen.new.self c.listen.ensures.session (λ said heard waiting honest serves. c.in-Ok-Idle.ensures.serves said heard waiting honest.0 serves) (λ fair. (fair.0, λ held. c.listen.ensures.on.honestly (fair.1 held)))
    (subst (λ (p : PeerState g.row.L.Denot). IsStranger g.F.Commands.gives g.F.Commands.may_fail g.L.Link.history (IsFair g.T.Trust.holds g.L.Link.tells g.L.Link.honest) p) (sym c.ready.ensures) was)

pub returns-in-Ok-Idle-clause-calm : goal.returns-in-Ok-Idle-clause-calm
returns-in-Ok-Idle-clause-calm g c asked tells was =
    let now = subst (λ (p : PeerState g.row.L.Denot). IsSureGuest g.F.Commands.gives g.F.Commands.may_fail g.L.Link.history g.L.Link.idle_count (IsSureOf g.L.Link.sure g.L.Link.offers asked) p) (sym c.ready.ensures) was in
    stays_ok (guest_come g.F.Commands.gives g.F.Commands.may_fail g.L.Link.history (IsSureOf g.L.Link.sure g.L.Link.offers asked) c.ready.new.self c.listen.new.self c.listen.ensures.session (λ said heard waiting serves. c.in-Ok-Idle.ensures.serves said heard waiting tells serves) (sure_of_on c.listen.ensures.on)
    (λ some. subst (Settled (g.L.Link.history c.listen.new.self.way)) c.in-Ok-Idle.field-0-is (c.in-Ok-Idle.ensures.owes now.tended.surely.surely tells)) now)

pub returns-in-Err-clause-calm : goal.returns-in-Err-clause-calm
returns-in-Err-clause-calm g c asked tells was =
    let now = subst (λ (p : PeerState g.row.L.Denot). IsSureGuest g.F.Commands.gives g.F.Commands.may_fail g.L.Link.history g.L.Link.idle_count (IsSureOf g.L.Link.sure g.L.Link.offers asked) p) (sym c.ready.ensures) was in
    wants_memory c.in-Err.leave (c.in-Err.ensures.sure now.tended.surely.surely)
