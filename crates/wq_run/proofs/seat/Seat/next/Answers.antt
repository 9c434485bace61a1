use Rattle.std.proofs.Common.{Err, Ok, ap, inl, subst, sym, ◌∙◌}
use Rattle.wq_run.specs.Seats.{SeatState}
use Rattle.wq_run.specs.Trusted.{IsFair, IsTrusted}
use Rattle.wq_run.proofs.Trusts.{heard_due, heard_trusted}
use Rattle.wq_run.specs.Calm.{IsSureOf, IsSureSeat}
use Rattle.wq_run.proofs.Fares.{shows_by}
use Rattle.wq_run.proofs.Calm.{sure_heard}
use Rattle.wq_run.specs.Dues.{HearsOffer, StaysHeard}
use Rattle.wq_run.proofs.Heards.{heard_still, hears_less, hears_offer}
use Rattle.wq_run.proofs.seat.Seat.next.Goals as goal

pub invariant_of-self : goal.invariant_of-self
invariant_of-self g c ready held =
    heard_trusted g.T.Trust.holds g.F.Commands.gives g.F.Commands.may_fail g.L.Link.history (IsFair g.T.Trust.holds g.L.Link.tells g.L.Link.honest) g.T.Trust.plan g.T.Trust.run g.T.Trust.due (record { peer = c.self.inside.peer; link = c.self.inside.link; attempts = c.self.inside.attempts.items; newest = c.self.inside.newest }) c.hear.new.self c.in-Ok.told c.in-Ok.ensures.hears
    (λ said heard honest serves. c.in-Ok.ensures.serves said heard honest.0 serves) (λ honest. subst (IsFair g.T.Trust.holds g.L.Link.tells g.L.Link.honest) (sym c.hear.ensures.way) honest) (c.self.invariant ready held)

pub returns-in-Ok-clause-due : goal.returns-in-Ok-clause-due
returns-in-Ok-clause-due g c held =
    heard_due g.T.Trust.holds g.F.Commands.gives g.F.Commands.may_fail g.L.Link.history (IsFair g.T.Trust.holds g.L.Link.tells g.L.Link.honest) g.T.Trust.plan g.T.Trust.run g.T.Trust.due (record { peer = c.self.inside.peer; link = c.self.inside.link; attempts = c.self.inside.attempts.items; newest = c.self.inside.newest }) c.hear.new.self c.in-Ok.told c.in-Ok.ensures.hears
    (λ said heard honest serves. c.in-Ok.ensures.serves said heard honest.0 serves) (λ honest. subst (IsFair g.T.Trust.holds g.L.Link.tells g.L.Link.honest) (sym c.hear.ensures.way) honest)
    (λ held fair. (c.honest_links_were_honest.ensures c.hear.new.self.way (fair.1 held)).1) (subst (IsTrusted g.T.Trust.holds g.F.Commands.gives g.F.Commands.may_fail g.L.Link.history (IsFair g.T.Trust.holds g.L.Link.tells g.L.Link.honest) g.T.Trust.plan g.T.Trust.run g.T.Trust.due) (sym c.self.view_is) (c.requires.trusted held))

pub returns-in-Ok-clause-shows : goal.returns-in-Ok-clause-shows
returns-in-Ok-clause-shows g c tells =
    let was = subst (IsTrusted g.T.Trust.holds g.F.Commands.gives g.F.Commands.may_fail g.L.Link.history (IsFair g.T.Trust.holds g.L.Link.tells g.L.Link.honest) g.T.Trust.plan g.T.Trust.run g.T.Trust.due) (sym c.self.view_is) (c.requires.trusted (inl tells)) in
    shows_by g.F.Commands.gives g.F.Commands.may_fail g.L.Link.history g.L.Link.count g.L.Link.idle_count g.L.Link.is_closed 0 (g.L.Link.history c.hear.new.self.way) was.said was.heard was.spoken.provides.provided c.hear.new.self.feed c.hear.new.self.session (Ok c.in-Ok.told) (c.in-Ok.ensures.serves was.said was.heard tells was.spoken.serves)

pub returns-in-Err-clause-shows : goal.returns-in-Err-clause-shows
returns-in-Err-clause-shows g c tells =
    let was = subst (IsTrusted g.T.Trust.holds g.F.Commands.gives g.F.Commands.may_fail g.L.Link.history (IsFair g.T.Trust.holds g.L.Link.tells g.L.Link.honest) g.T.Trust.plan g.T.Trust.run g.T.Trust.due) (sym c.self.view_is) (c.requires.trusted (inl tells)) in
    shows_by g.F.Commands.gives g.F.Commands.may_fail g.L.Link.history g.L.Link.count g.L.Link.idle_count g.L.Link.is_closed 0 (g.L.Link.history c.hear.new.self.way) was.said was.heard was.spoken.provides.provided c.hear.new.self.feed c.hear.new.self.session (Err c.in-Err.leave) (c.in-Err.ensures.serves was.said was.heard tells was.spoken.serves)

pub returns-in-Ok-clause-spoken : goal.returns-in-Ok-clause-spoken
returns-in-Ok-clause-spoken g c held =
    heard_trusted g.T.Trust.holds g.F.Commands.gives g.F.Commands.may_fail g.L.Link.history (IsFair g.T.Trust.holds g.L.Link.tells g.L.Link.honest) g.T.Trust.plan g.T.Trust.run g.T.Trust.due (record { peer = c.self.inside.peer; link = c.self.inside.link; attempts = c.self.inside.attempts.items; newest = c.self.inside.newest }) c.hear.new.self c.in-Ok.told c.in-Ok.ensures.hears
    (λ said heard honest serves. c.in-Ok.ensures.serves said heard honest.0 serves) (λ honest. subst (IsFair g.T.Trust.holds g.L.Link.tells g.L.Link.honest) (sym c.hear.ensures.way) honest) (subst (IsTrusted g.T.Trust.holds g.F.Commands.gives g.F.Commands.may_fail g.L.Link.history (IsFair g.T.Trust.holds g.L.Link.tells g.L.Link.honest) g.T.Trust.plan g.T.Trust.run g.T.Trust.due) (sym c.self.view_is) (c.requires.trusted held))

pub returns-in-Ok-clause-heard : goal.returns-in-Ok-clause-heard
returns-in-Ok-clause-heard g c tells =
    let was = c.requires.trusted (inl tells) in
    let less = hears_less c.self.inside.peer.feed c.hear.new.self.feed c.self.inside.peer.session c.hear.new.self.session c.in-Ok.told (c.in-Ok.ensures.hears (ap (λ (s : SeatState g.row.L.Denot). s.peer.feed.stop) c.self.view_is ∙ was.spoken.serves.going)) in
    subst (λ (s : SeatState g.row.L.Denot). StaysHeard g.L.Link.history s.peer c.hear.new.self) c.self.view_is (heard_still g.L.Link.history c.self.inside.peer c.hear.new.self c.hear.ensures.way less)

pub returns-in-Ok-clause-offers : goal.returns-in-Ok-clause-offers
returns-in-Ok-clause-offers g c tells =
    let was = subst (IsTrusted g.T.Trust.holds g.F.Commands.gives g.F.Commands.may_fail g.L.Link.history (IsFair g.T.Trust.holds g.L.Link.tells g.L.Link.honest) g.T.Trust.plan g.T.Trust.run g.T.Trust.due) (sym c.self.view_is) (c.requires.trusted (inl tells)) in
    subst (λ (s : SeatState g.row.L.Denot). HearsOffer g.L.Link.history s.peer c.hear.new.self c.in-Ok.told) c.self.view_is
    (hears_offer g.F.Commands.gives g.F.Commands.may_fail g.L.Link.history c.self.inside.peer c.hear.new.self was.said was.heard c.in-Ok.told was.spoken.serves c.hear.ensures.way (c.in-Ok.ensures.hears was.spoken.serves.going))

pub returns-in-Ok-clause-calm : goal.returns-in-Ok-clause-calm
returns-in-Ok-clause-calm g c asked tells was =
    let is = subst (IsSureSeat g.F.Commands.gives g.F.Commands.may_fail g.L.Link.history (IsSureOf g.L.Link.sure g.L.Link.offers asked)) (sym c.self.view_is) was in (
      c.in-Ok.ensures.sure is.said is.heard tells is.tended.serves (c.sure_links_are_orderly.ensures c.self.inside.peer.way is.tended.surely.surely).1,
      sure_heard g.F.Commands.gives g.F.Commands.may_fail g.L.Link.history (IsSureOf g.L.Link.sure g.L.Link.offers asked) (record { peer = c.self.inside.peer; link = c.self.inside.link; attempts = c.self.inside.attempts.items; newest = c.self.inside.newest }) c.hear.new.self c.in-Ok.told c.tasks_come_behind_their_inputs.ensures.heard c.hear.ensures.way c.in-Ok.ensures.hears (λ said heard serves. c.in-Ok.ensures.serves said heard tells serves) is,
    )

pub returns-in-Err-clause-calm : goal.returns-in-Err-clause-calm
returns-in-Err-clause-calm g c asked tells was =
    let is = subst (IsSureSeat g.F.Commands.gives g.F.Commands.may_fail g.L.Link.history (IsSureOf g.L.Link.sure g.L.Link.offers asked)) (sym c.self.view_is) was in
    (c.in-Err.ensures.sure is.said is.heard tells is.tended.serves (c.sure_links_are_orderly.ensures c.self.inside.peer.way is.tended.surely.surely).1, tt)
