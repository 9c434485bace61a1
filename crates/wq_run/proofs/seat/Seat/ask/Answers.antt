use Rattle.std.proofs.Common.{[], subst, sym}
use Rattle.wq_run.specs.Seats.{SeatState}
use Rattle.wq_run.specs.Trusted.{IsFair, MayAsk}
use Rattle.wq_run.specs.Calm.{IsSureOf, IsSureToAsk}
use Rattle.wq_run.proofs.Trusts.{ask_trusted}
use Rattle.wq_run.proofs.Calm.{sure_of_on, stays_ok, sure_asked, wants_memory}
use Rattle.wq_run.proofs.seat.Seat.ask.Goals as goal

pub invariant_of-self : goal.invariant_of-self
invariant_of-self g c ready held =
    ask_trusted g.T.Trust.holds g.F.Commands.gives g.F.Commands.may_fail g.L.Link.history (IsFair g.T.Trust.holds g.L.Link.tells g.L.Link.honest) g.T.Trust.plan g.T.Trust.run g.T.Trust.due (record { peer = c.self.inside.peer; link = c.self.inside.link; attempts = c.self.inside.attempts.items; newest = c.self.inside.newest }) c.ask.new.self c.args.task c.what_is_due_stays_due.ensures c.ask.ensures.session
    (λ said heard honest serves. c.in-Ok.ensures.serves said heard honest.0 serves)
    (λ said heard honest serves among. c.in-Ok.ensures.again said heard honest.0 serves among) (λ fair. (fair.0, λ held. c.ask.ensures.on.honestly (fair.1 held)))
    (subst (λ (s : SeatState g.row.L.Denot). MayAsk g.T.Trust.holds g.F.Commands.gives g.F.Commands.may_fail g.L.Link.history (IsFair g.T.Trust.holds g.L.Link.tells g.L.Link.honest) g.T.Trust.plan g.T.Trust.run g.T.Trust.due s c.args.task []) (sym c.self.view_is) (c.requires.asks held))

pub returns-in-Ok-clause-calm : goal.returns-in-Ok-clause-calm
returns-in-Ok-clause-calm g c asked tells was =
    stays_ok (sure_asked g.F.Commands.gives g.F.Commands.may_fail g.L.Link.history (IsSureOf g.L.Link.sure g.L.Link.offers asked) (record { peer = c.self.inside.peer; link = c.self.inside.link; attempts = c.self.inside.attempts.items; newest = c.self.inside.newest }) c.ask.new.self c.args.task c.tasks_come_behind_their_inputs.ensures.asked c.ask.ensures.session
    (λ said heard serves. c.in-Ok.ensures.serves said heard tells serves) (sure_of_on c.ask.ensures.on) (subst (λ (s : SeatState g.row.L.Denot). IsSureToAsk g.F.Commands.gives g.F.Commands.may_fail g.L.Link.history (IsSureOf g.L.Link.sure g.L.Link.offers asked) s c.args.task []) (sym c.self.view_is) was))

pub returns-in-Err-clause-calm : goal.returns-in-Err-clause-calm
returns-in-Err-clause-calm g c asked tells was =
    wants_memory c.in-Err.leave (c.in-Err.ensures.sure (subst (λ (s : SeatState g.row.L.Denot). IsSureToAsk g.F.Commands.gives g.F.Commands.may_fail g.L.Link.history (IsSureOf g.L.Link.sure g.L.Link.offers asked) s c.args.task []) (sym c.self.view_is) was).tended.surely.surely)
