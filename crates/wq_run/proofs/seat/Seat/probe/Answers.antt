use Rattle.std.proofs.Common.{subst, sym}
use Rattle.peers.specs.States.{no_key}
use Rattle.wq_run.specs.Calm.{IsSureOf, IsSureSeat}
use Rattle.wq_run.specs.Seats.{SeatState}
use Rattle.wq_run.specs.Trusted.{IsFair, IsTrusted}
use Rattle.wq_run.proofs.Calm.{stays_ok, sure_of_on, sure_word, wants_memory}
use Rattle.wq_run.proofs.Trusts.{word_trusted}
use Rattle.wq_run.proofs.seat.Seat.probe.Goals as goal

pub invariant_of-self : goal.invariant_of-self
invariant_of-self g c ready held =
    word_trusted g.T.Trust.holds g.F.Commands.gives g.F.Commands.may_fail g.L.Link.history (IsFair g.T.Trust.holds g.L.Link.tells g.L.Link.honest) g.T.Trust.plan g.T.Trust.run g.T.Trust.due (record { peer = c.self.inside.peer; link = c.self.inside.link; attempts = c.self.inside.attempts.items; newest = c.self.inside.newest }) c.probe.new.self no_key c.what_is_due_stays_due.ensures c.probe.ensures.session (λ said heard waiting honest serves. c.in-Ok.ensures.serves said heard waiting honest.0 serves) (λ fair. (fair.0, λ held. c.probe.ensures.on.honestly (fair.1 held))) (c.self.invariant ready held)

pub returns-in-Ok-clause-trusted : goal.returns-in-Ok-clause-trusted
returns-in-Ok-clause-trusted g c tells was =
    word_trusted g.T.Trust.holds g.F.Commands.gives g.F.Commands.may_fail g.L.Link.history (IsFair g.T.Trust.holds g.L.Link.tells g.L.Link.honest) g.T.Trust.plan g.T.Trust.run g.T.Trust.due (record { peer = c.self.inside.peer; link = c.self.inside.link; attempts = c.self.inside.attempts.items; newest = c.self.inside.newest }) c.probe.new.self no_key c.what_is_due_stays_due.ensures c.probe.ensures.session (λ said heard waiting honest serves. c.in-Ok.ensures.serves said heard waiting honest.0 serves) (λ fair. (fair.0, λ held. c.probe.ensures.on.honestly (fair.1 held))) (subst (IsTrusted g.T.Trust.holds g.F.Commands.gives g.F.Commands.may_fail g.L.Link.history (IsFair g.T.Trust.holds g.L.Link.tells g.L.Link.honest) g.T.Trust.plan g.T.Trust.run g.T.Trust.due) (sym c.self.view_is) was)

pub returns-in-Ok-clause-calm : goal.returns-in-Ok-clause-calm
returns-in-Ok-clause-calm g c asked tells was =
    stays_ok (sure_word g.F.Commands.gives g.F.Commands.may_fail g.L.Link.history (IsSureOf g.L.Link.sure g.L.Link.offers asked) (record { peer = c.self.inside.peer; link = c.self.inside.link; attempts = c.self.inside.attempts.items; newest = c.self.inside.newest }) c.probe.new.self no_key c.tasks_come_behind_their_inputs.ensures.said c.probe.ensures.session (λ said heard waiting serves. c.in-Ok.ensures.serves said heard waiting tells serves) (sure_of_on c.probe.ensures.on) (subst (IsSureSeat g.F.Commands.gives g.F.Commands.may_fail g.L.Link.history (IsSureOf g.L.Link.sure g.L.Link.offers asked)) (sym c.self.view_is) was))

pub returns-in-Err-clause-calm : goal.returns-in-Err-clause-calm
returns-in-Err-clause-calm g c asked tells was = wants_memory c.in-Err.leave (c.in-Err.ensures.sure (subst (IsSureSeat g.F.Commands.gives g.F.Commands.may_fail g.L.Link.history (IsSureOf g.L.Link.sure g.L.Link.offers asked)) (sym c.self.view_is) was).tended.surely.surely)

pub returns-in-Ok-clause-surely : goal.returns-in-Ok-clause-surely
returns-in-Ok-clause-surely g c on = c.probe.ensures.on.surely (subst (λ (s : SeatState g.row.L.Denot). g.L.Link.sure s.peer.way) (sym c.self.view_is) on)

pub returns-in-Err-clause-surely : goal.returns-in-Err-clause-surely
returns-in-Err-clause-surely g c on = c.probe.ensures.on.surely (subst (λ (s : SeatState g.row.L.Denot). g.L.Link.sure s.peer.way) (sym c.self.view_is) on)
