use Rattle.std.proofs.Common.{◌≡◌, ◌<◌, true, ap, rules, subst}
use Rattle.flow_types.specs.declared.numbers.AttemptNo.{AttemptNo}
use Rattle.wq_run.proofs.Calm.{newest_none, newest_some}
use Rattle.wq_run.specs.Seats.{SeatState}
use Rattle.wq_run.specs.Trusted.{IsFair, MayOpen}
use Rattle.wq_run.proofs.Trusts.{new_opens, newer_none, newer_some}
use Rattle.wq_run.proofs.seat.Seat.is_new.Goals as goal

pub returns-in-Some-clause-opens : goal.returns-in-Some-clause-opens
returns-in-Some-clause-opens g c newer held =
    let ready : c.self.inside.is_ready ≡ true = search rules in
    let less : c.in-Some.newest.0 < c.args.number.0 = search rules in
    subst (λ (s : SeatState g.row.L.Denot). MayOpen g.T.Trust.holds g.F.Commands.gives g.F.Commands.may_fail g.L.Link.history (IsFair g.T.Trust.holds g.L.Link.tells g.L.Link.honest) g.T.Trust.plan g.T.Trust.run g.T.Trust.due s c.args.number) c.self.view_is
    (new_opens g.T.Trust.holds g.F.Commands.gives g.F.Commands.may_fail g.L.Link.history (IsFair g.T.Trust.holds g.L.Link.tells g.L.Link.honest) g.T.Trust.plan g.T.Trust.run g.T.Trust.due (record { peer = c.self.inside.peer; link = c.self.inside.link; attempts = c.self.inside.attempts.items; newest = c.self.inside.newest }) c.args.number (newer_some c.self.inside.newest c.in-Some.newest c.args.number c.in-Some.is less) (c.self.invariant ready held))

pub returns-in-None-clause-opens : goal.returns-in-None-clause-opens
returns-in-None-clause-opens g c newer held =
    let ready : c.self.inside.is_ready ≡ true = search rules in
    subst (λ (s : SeatState g.row.L.Denot). MayOpen g.T.Trust.holds g.F.Commands.gives g.F.Commands.may_fail g.L.Link.history (IsFair g.T.Trust.holds g.L.Link.tells g.L.Link.honest) g.T.Trust.plan g.T.Trust.run g.T.Trust.due s c.args.number) c.self.view_is
    (new_opens g.T.Trust.holds g.F.Commands.gives g.F.Commands.may_fail g.L.Link.history (IsFair g.T.Trust.holds g.L.Link.tells g.L.Link.honest) g.T.Trust.plan g.T.Trust.run g.T.Trust.due (record { peer = c.self.inside.peer; link = c.self.inside.link; attempts = c.self.inside.attempts.items; newest = c.self.inside.newest }) c.args.number (newer_none c.self.inside.newest c.args.number c.in-None.is) (c.self.invariant ready held))

pub returns-in-Some-clause-newest : goal.returns-in-Some-clause-newest
returns-in-Some-clause-newest g c newer last is =
    let less : c.in-Some.newest.0 < c.args.number.0 = search rules in
    subst (λ (n : AttemptNo). n.0 < c.args.number.0) (newest_some c.self.inside.newest c.args.self.now.newest c.in-Some.newest last (ap (λ (s : SeatState g.row.L.Denot). s.newest) c.self.view_is) c.in-Some.is is) less

pub returns-in-None-clause-newest : goal.returns-in-None-clause-newest
returns-in-None-clause-newest g c newer last is =
    absurd (newest_none c.self.inside.newest c.args.self.now.newest last (ap (λ (s : SeatState g.row.L.Denot). s.newest) c.self.view_is) c.in-None.is is)
