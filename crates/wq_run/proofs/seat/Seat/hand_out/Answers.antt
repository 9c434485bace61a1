use Rattle.std.proofs.Common.{◌≡◌, ◌∙◌, ◌∷◌, ◌++◌, [], None, Option, Some, false, true, ap, refl, rules, subst, sym}
use Rattle.std.proofs.lemmas.List.{append-nil}
use Rattle.flow_types.specs.declared.numbers.AttemptNo.{AttemptNo}
use Rattle.desk.specs.declared.attempt.Attempt.{Attempt}
use Rattle.link_session.specs.Sessions.{is_open}
use Rattle.local_run.specs.declared.halt.Halt.{Halt}
use Rattle.local_run.specs.declared.halt.Halt.TheVariants as halts
use Rattle.local_run.specs.Beyond.{lost_by}
use Rattle.local_run.specs.Underway.{HeldState, IsSurePool, halt_after}
use Rattle.local_run.proofs.StandsBegun.{wants_on}
use Rattle.wq_run.specs.Seats.{IsAtSeat, KeepsSeat, SeatState, seat_with}
use Rattle.wq_run.specs.Trusted.{IsFair, MayOpen}
use Rattle.wq_run.specs.Calm.{IsSureOf}
use Rattle.wq_run.proofs.Asks.{keeps_want}
use Rattle.wq_run.proofs.Closes.{away_from, close_keeps, placed, runs}
use Rattle.wq_run.proofs.Trusts.{held_opens}
use Rattle.wq_run.proofs.Fares.{fares_behind, fares_stopped, same_way, spares_same}
use Rattle.wq_run.proofs.Calm.{fares_halted, sure_as}
use Rattle.wq_run.proofs.Heards.{heard_same}
use Rattle.wq_run.proofs.seat.Seat.hand_out.Goals as goal

pub start-requires-clause-fresh : goal.start-requires-clause-fresh
start-requires-clause-fresh g c κs within =
    subst (λ (n : AttemptNo). is_open n c.hold.new.self.peer.session.attempts ≡ false) (sym c.number-number.ensures)
    (subst (λ (s : SeatState g.row.L.Denot). is_open c.args.attempt.number s.peer.session.attempts ≡ false) (sym c.in-Ok.ensures.held) c.requires.fresh)

pub start-requires-clause-at : goal.start-requires-clause-at
start-requires-clause-at g c κs within =
    subst (IsAtSeat g.T.Terms.trust g.F.Commands.gives g.F.Commands.may_fail g.T.Terms.sources g.S.Site.tells g.T.Terms.kept (IsSurePool g.B.Terms.fits) g.S.Site.files g.S.Site.may_leave g.S.Site.moment g.S.Site.images_since c.args.desk.now c.args.held.now) (sym c.in-Ok.ensures.held) c.requires.at

pub lose_away-requires-clause-runs : goal.lose_away-requires-clause-runs
lose_away-requires-clause-runs g c κs within =
    let is = c.requires.at in
    runs g.T.Terms.trust g.F.Commands.gives g.F.Commands.may_fail g.T.Terms.sources g.S.Site.tells g.T.Terms.kept (IsSurePool g.B.Terms.fits) g.S.Site.files g.S.Site.may_leave g.S.Site.moment g.S.Site.images_since is.front is.back is.first c.args.desk.now c.args.held.now is.waiting is.heard (seat_with c.args.self.now (c.args.self.now.attempts ++ (c.args.attempt ∷ []))) c.args.self.now.attempts c.in-Err.back [] (ap (λ (x : Attempt). c.args.self.now.attempts ++ (x ∷ [])) (sym c.in-Err.ensures.back.0))
    (placed g.T.Terms.trust g.F.Commands.gives g.F.Commands.may_fail g.T.Terms.sources g.S.Site.tells g.T.Terms.kept (IsSurePool g.B.Terms.fits) g.S.Site.files g.S.Site.may_leave g.S.Site.moment g.S.Site.images_since is.front is.back is.first c.args.desk.now c.args.held.now is.waiting is.heard (seat_with c.args.self.now (c.args.self.now.attempts ++ (c.args.attempt ∷ []))) is.at)

pub lose_away-requires-clause-keen : goal.lose_away-requires-clause-keen
lose_away-requires-clause-keen g c κs within keen =
    let is = c.requires.at in
    absurd (c.requires.keen c.in-Err.back.link.0
    (away_from g.T.Terms.trust g.F.Commands.gives g.F.Commands.may_fail g.T.Terms.sources g.S.Site.tells g.T.Terms.kept (IsSurePool g.B.Terms.fits) g.S.Site.files g.S.Site.may_leave g.S.Site.moment g.S.Site.images_since is.front is.back is.first c.args.desk.now c.args.held.now is.waiting is.heard (seat_with c.args.self.now (c.args.self.now.attempts ++ (c.args.attempt ∷ []))) c.args.self.now.attempts c.in-Err.back [] (ap (λ (x : Attempt). c.args.self.now.attempts ++ (x ∷ [])) (sym c.in-Err.ensures.back.0))
    (placed g.T.Terms.trust g.F.Commands.gives g.F.Commands.may_fail g.T.Terms.sources g.S.Site.tells g.T.Terms.kept (IsSurePool g.B.Terms.fits) g.S.Site.files g.S.Site.may_leave g.S.Site.moment g.S.Site.images_since is.front is.back is.first c.args.desk.now c.args.held.now is.waiting is.heard (seat_with c.args.self.now (c.args.self.now.attempts ++ (c.args.attempt ∷ []))) is.at)) keen)

pub returns-in-Err : goal.returns-in-Err
returns-in-Err g c = record {
  keeps = close_keeps g.T.Terms.trust g.F.Commands.gives g.F.Commands.may_fail g.T.Terms.sources g.S.Site.tells g.T.Terms.kept (IsSurePool g.B.Terms.fits) g.S.Site.files g.S.Site.may_leave g.S.Site.moment g.S.Site.images_since c.args.desk.now c.lose_away.new.desk c.args.held.now c.stop-in-Err.new.self (seat_with c.args.self.now (c.args.self.now.attempts ++ (c.args.attempt ∷ []))) c.hold.new.self c.args.attempt.number c.in-Err.back c.args.self.now.attempts [] (λ (h : Option Halt). Some halts.Memory)
      (ap (λ (x : Attempt). c.args.self.now.attempts ++ (x ∷ [])) (sym c.in-Err.ensures.back.0)) (ap (λ (x : Attempt). x.number) c.in-Err.ensures.back.0) (c.in-Err.ensures.back.1 ∙ ap (seat_with c.args.self.now) (sym (append-nil c.args.self.now.attempts))) c.requires.fresh (ap (λ (h : HeldState). h.attempts) c.stop-in-Err.ensures) (ap (λ (h : HeldState). h.halt) c.stop-in-Err.ensures)
      (λ away front back first xs waiting heard halt are u. (
        lost_by (front ++ back) away,
        refl,
        refl,
        wants_on g.T.Terms.trust g.F.Commands.gives g.F.Commands.may_fail g.T.Terms.sources g.S.Site.tells g.T.Terms.kept (IsSurePool g.B.Terms.fits) g.S.Site.files g.S.Site.may_leave g.S.Site.moment g.S.Site.images_since (lost_by (front ++ back) away) first c.lose_away.new.desk xs waiting None heard (halt_after c.lose_away.result halt)
            (c.lose_away.ensures.underway away front back first xs waiting heard halt are u),
      )) c.requires.at;
  fares = λ limit tells. fares_stopped halts.Memory (ap (λ (s : SeatState g.row.L.Denot). s.link) c.in-Err.ensures.back.1) (same_way g.L.Link.history c.args.self.now c.hold.new.self (ap (λ (s : SeatState g.row.L.Denot). s.peer.way) c.in-Err.ensures.back.1)) (ap (λ (h : HeldState). h.halt) c.stop-in-Err.ensures);
  calm = λ asked tells was. fares_halted halts.Memory (ap (λ (h : HeldState). h.halt) c.stop-in-Err.ensures);
}

pub start-requires-clause-opens : goal.start-requires-clause-opens
start-requires-clause-opens g c κs within held =
    let new : c.is_new-is_new.result ≡ true = search rules in
    let may : MayOpen g.T.Trust.holds g.F.Commands.gives g.F.Commands.may_fail g.L.Link.history (IsFair g.T.Trust.holds g.L.Link.tells g.L.Link.honest) g.T.Trust.plan g.T.Trust.run g.T.Trust.due c.args.self.now c.args.attempt.number = subst (MayOpen g.T.Trust.holds g.F.Commands.gives g.F.Commands.may_fail g.L.Link.history (IsFair g.T.Trust.holds g.L.Link.tells g.L.Link.honest) g.T.Trust.plan g.T.Trust.run g.T.Trust.due c.args.self.now) c.number-number.ensures (c.is_new-is_new.ensures.opens new held) in
    subst (MayOpen g.T.Trust.holds g.F.Commands.gives g.F.Commands.may_fail g.L.Link.history (IsFair g.T.Trust.holds g.L.Link.tells g.L.Link.honest) g.T.Trust.plan g.T.Trust.run g.T.Trust.due c.hold.new.self) (sym c.number-number.ensures)
    (subst (λ (s : SeatState g.row.L.Denot). MayOpen g.T.Trust.holds g.F.Commands.gives g.F.Commands.may_fail g.L.Link.history (IsFair g.T.Trust.holds g.L.Link.tells g.L.Link.honest) g.T.Trust.plan g.T.Trust.run g.T.Trust.due s c.args.attempt.number) (sym c.in-Ok.ensures.held) (held_opens g.T.Trust.holds g.F.Commands.gives g.F.Commands.may_fail g.L.Link.history (IsFair g.T.Trust.holds g.L.Link.tells g.L.Link.honest) g.T.Trust.plan g.T.Trust.run g.T.Trust.due c.args.self.now c.args.attempt may))

pub returns-then-not-is_new : goal.returns-then-not-is_new
returns-then-not-is_new g c = record {
  keeps = subst (λ (s : SeatState g.row.L.Denot). KeepsSeat g.T.Terms.trust g.F.Commands.gives g.F.Commands.may_fail g.T.Terms.sources g.S.Site.tells g.T.Terms.kept (IsSurePool g.B.Terms.fits) g.S.Site.files g.S.Site.may_leave g.S.Site.moment g.S.Site.images_since c.args.desk.now c.args.desk.now c.args.held.now c.stop.new.self (seat_with c.args.self.now (c.args.self.now.attempts ++ (c.args.attempt ∷ []))) s) (sym c.in-Ok.ensures.held)
      (keeps_want g.T.Terms.trust g.F.Commands.gives g.F.Commands.may_fail g.T.Terms.sources g.S.Site.tells g.T.Terms.kept (IsSurePool g.B.Terms.fits) g.S.Site.files g.S.Site.may_leave g.S.Site.moment g.S.Site.images_since c.args.desk.now c.args.held.now c.stop.new.self (seat_with c.args.self.now (c.args.self.now.attempts ++ (c.args.attempt ∷ []))) c.stop.ensures c.requires.at);
  fares = λ limit tells. fares_stopped halts.Memory (ap (λ (s : SeatState g.row.L.Denot). s.link) c.in-Ok.ensures.held) (same_way g.L.Link.history c.args.self.now c.hold.new.self (ap (λ (s : SeatState g.row.L.Denot). s.peer.way) c.in-Ok.ensures.held)) (ap (λ (h : HeldState). h.halt) c.stop.ensures);
  calm = λ asked tells was. fares_halted halts.Memory (ap (λ (h : HeldState). h.halt) c.stop.ensures);
}

pub returns-else-not-is_new-clause-fares : goal.returns-else-not-is_new-clause-fares
returns-else-not-is_new-clause-fares g c limit tells =
    fares_behind (ap (λ (s : SeatState g.row.L.Denot). s.link) c.in-Ok.ensures.held) (same_way g.L.Link.history c.args.self.now c.hold.new.self (ap (λ (s : SeatState g.row.L.Denot). s.peer.way) c.in-Ok.ensures.held)) (spares_same c.args.desk.now.moves c.args.desk.now.moves refl) refl (heard_same g.L.Link.history c.args.self.now.peer c.hold.new.self.peer (ap (λ (s : SeatState g.row.L.Denot). s.peer) c.in-Ok.ensures.held))
    (c.start.ensures.fares limit tells)

pub returns-else-not-is_new-clause-calm : goal.returns-else-not-is_new-clause-calm
returns-else-not-is_new-clause-calm g c asked tells was =
    let new : c.is_new-is_new.result ≡ true = search rules in
    let held = c.in-Ok.ensures.held in
    c.start.ensures.calm asked tells (sure_as g.F.Commands.gives g.F.Commands.may_fail g.L.Link.history (IsSureOf g.L.Link.sure g.L.Link.offers asked) c.args.self.now c.hold.new.self (ap (λ (s : SeatState g.row.L.Denot). s.peer) held) (ap (λ (s : SeatState g.row.L.Denot). s.newest) held) was)
    (λ last same. c.is_new-is_new.ensures.newest new last (ap (λ (s : SeatState g.row.L.Denot). s.newest) (sym held) ∙ same))
