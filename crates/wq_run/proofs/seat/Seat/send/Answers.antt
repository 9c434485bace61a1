use Rattle.std.proofs.Common.{◌∷◌, subst, sym}
use Rattle.wq_run.specs.Seats.{SeatState}
use Rattle.wq_run.specs.Trusted.{IsFair, MayAsk}
use Rattle.wq_run.specs.Calm.{IsSureOf, IsSureToAsk}
use Rattle.wq_run.proofs.Trusts.{put_asks, put_trusted}
use Rattle.wq_run.proofs.Calm.{leaves_want, sure_of_on, stays_ok, sure_put, wants_memory}
use Rattle.wq_run.proofs.seat.Seat.send.Goals as goal

pub invariant_of-self : goal.invariant_of-self
invariant_of-self g c ready held =
    put_trusted g.T.Trust.holds g.F.Commands.gives g.F.Commands.may_fail g.L.Link.history (IsFair g.T.Trust.holds g.L.Link.tells g.L.Link.honest) g.T.Trust.plan g.T.Trust.run g.T.Trust.due (record { peer = c.self.inside.peer; link = c.self.inside.link; attempts = c.self.inside.attempts.items; newest = c.self.inside.newest }) c.put.new.self c.args.key c.args.content c.what_is_due_stays_due.ensures c.requires.due c.put.ensures.session
    (λ said heard waiting honest serves. c.in-Ok.ensures.serves said heard waiting honest.0 serves) (λ fair. (fair.0, λ held. c.put.ensures.on.honestly (fair.1 held))) (c.self.invariant ready held)

pub returns-in-Ok-clause-asks : goal.returns-in-Ok-clause-asks
returns-in-Ok-clause-asks g c task left held may =
    put_asks g.T.Trust.holds g.F.Commands.gives g.F.Commands.may_fail g.L.Link.history (IsFair g.T.Trust.holds g.L.Link.tells g.L.Link.honest) g.T.Trust.plan g.T.Trust.run g.T.Trust.due (record { peer = c.self.inside.peer; link = c.self.inside.link; attempts = c.self.inside.attempts.items; newest = c.self.inside.newest }) c.put.new.self c.args.key c.args.content task left c.what_is_due_stays_due.ensures c.requires.due c.put.ensures.session
    (λ said heard waiting honest serves. c.in-Ok.ensures.serves said heard waiting honest.0 serves) (λ fair. (fair.0, λ held. c.put.ensures.on.honestly (fair.1 held))) (subst (λ (s : SeatState g.row.L.Denot). MayAsk g.T.Trust.holds g.F.Commands.gives g.F.Commands.may_fail g.L.Link.history (IsFair g.T.Trust.holds g.L.Link.tells g.L.Link.honest) g.T.Trust.plan g.T.Trust.run g.T.Trust.due s task (c.args.key ∷ left)) (sym c.self.view_is) may)

pub returns-in-Ok-clause-calm : goal.returns-in-Ok-clause-calm
returns-in-Ok-clause-calm g c asked task left tells was =
    stays_ok (sure_put g.F.Commands.gives g.F.Commands.may_fail g.L.Link.history (IsSureOf g.L.Link.sure g.L.Link.offers asked) (record { peer = c.self.inside.peer; link = c.self.inside.link; attempts = c.self.inside.attempts.items; newest = c.self.inside.newest }) c.put.new.self c.args.key c.args.content task left c.tasks_come_behind_their_inputs.ensures.put c.put.ensures.session
    (λ said heard waiting serves. c.in-Ok.ensures.serves said heard waiting tells serves) (sure_of_on c.put.ensures.on) (subst (λ (s : SeatState g.row.L.Denot). IsSureToAsk g.F.Commands.gives g.F.Commands.may_fail g.L.Link.history (IsSureOf g.L.Link.sure g.L.Link.offers asked) s task (c.args.key ∷ left)) (sym c.self.view_is) was))

pub returns-in-Err-clause-calm : goal.returns-in-Err-clause-calm
returns-in-Err-clause-calm g c asked task left tells was =
    wants_memory c.in-Err.leave (c.in-Err.ensures.sure (subst (λ (s : SeatState g.row.L.Denot). IsSureToAsk g.F.Commands.gives g.F.Commands.may_fail g.L.Link.history (IsSureOf g.L.Link.sure g.L.Link.offers asked) s task (c.args.key ∷ left)) (sym c.self.view_is) was).tended.surely.surely)

pub returns-in-Err-clause-wants : goal.returns-in-Err-clause-wants
returns-in-Err-clause-wants g c on = leaves_want ⊥ c.in-Err.leave (c.in-Err.ensures.sure (subst (λ (s : SeatState g.row.L.Denot). g.L.Link.sure s.peer.way) (sym c.self.view_is) on))
