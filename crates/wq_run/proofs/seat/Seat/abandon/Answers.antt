use Rattle.std.proofs.Common.{Result, [], ap, refl, subst, sym, ◌++◌, ◌∙◌, ◌∷◌, ◌≡◌}
use Rattle.flow_types.specs.Plans.{IsValid}
use Rattle.local_run.specs.declared.halt.Halt.{Halt}
use Rattle.local_run.specs.Beyond.{lost_by}
use Rattle.local_run.specs.Underway.{HeldState, IsSurePool, halt_after}
use Rattle.wq_run.specs.Seats.{AreOn, AtPlace, SeatState}
use Rattle.wq_run.proofs.Closes.{away_from, runs}
use Rattle.wq_run.proofs.Steps.{last_place, last_stays}
use Rattle.std.specs.Prelude.{OnOk}
use Rattle.flow_types.specs.declared.numbers.LinkNo.{LinkNo}
use Rattle.local_run.specs.Losses.{LosesIt}
use Rattle.wq_run.proofs.Places.{on_at}
use Rattle.wq_run.proofs.Fares.{gives_halted, gives_then, loses_gives}
use Rattle.wq_run.proofs.seat.Seat.abandon.Goals as goal

pub lose_away-requires-clause-valid : goal.lose_away-requires-clause-valid
lose_away-requires-clause-valid g c κs within =
    let is = c.requires.at in
    let now = c.loop-attempt.invariant.keeps is.front is.back is.first is.waiting is.heard is.at in subst IsValid (sym (now.under.goes.plan ∙ sym is.at.under.goes.plan)) c.requires.valid

pub lose_away-requires-clause-runs : goal.lose_away-requires-clause-runs
lose_away-requires-clause-runs g c κs within =
    let is = c.requires.at in
    let now = c.loop-attempt.invariant.keeps is.front is.back is.first is.waiting is.heard is.at in
    runs g.T.Terms.trust g.F.Commands.gives g.F.Commands.may_fail g.T.Terms.sources g.S.Site.tells g.T.Terms.kept (IsSurePool g.B.Terms.fits) g.S.Site.files g.S.Site.may_leave g.S.Site.moment g.S.Site.images_since is.front is.back is.first c.loop-attempt.desk c.loop-attempt.held is.waiting is.heard c.loop-attempt.self c.pop.new.self.attempts c.in-Some.attempt [] (ap (λ (s : SeatState g.row.L.Denot). s.attempts) c.in-Some.ensures.some) now

pub lose_away-requires-clause-keen : goal.lose_away-requires-clause-keen
lose_away-requires-clause-keen g c κs within keen =
    let is = c.requires.at in
    let now = c.loop-attempt.invariant.keeps is.front is.back is.first is.waiting is.heard is.at in
    absurd (c.requires.keen c.in-Some.attempt.link.0
    (away_from g.T.Terms.trust g.F.Commands.gives g.F.Commands.may_fail g.T.Terms.sources g.S.Site.tells g.T.Terms.kept (IsSurePool g.B.Terms.fits) g.S.Site.files g.S.Site.may_leave g.S.Site.moment g.S.Site.images_since is.front is.back is.first c.loop-attempt.desk c.loop-attempt.held is.waiting is.heard c.loop-attempt.self c.pop.new.self.attempts c.in-Some.attempt [] (ap (λ (s : SeatState g.row.L.Denot). s.attempts) c.in-Some.ensures.some) now)
    keen)

pub loop-attempt-preserved-in-Err : goal.loop-attempt-preserved-in-Err
loop-attempt-preserved-in-Err g c = record {
  keeps = λ front back first waiting heard at.
      last_place g.T.Terms.trust g.F.Commands.gives g.F.Commands.may_fail g.T.Terms.sources g.S.Site.tells g.T.Terms.kept (IsSurePool g.B.Terms.fits) g.S.Site.files g.S.Site.may_leave g.S.Site.moment g.S.Site.images_since front back first c.loop-attempt.desk c.lose_away.new.desk c.loop-attempt.held c.stop.new.self waiting heard c.loop-attempt.self c.pop.new.self c.in-Some.attempt (halt_after c.lose_away.result) c.in-Some.ensures.some (ap (λ (h : HeldState). h.attempts) c.stop.ensures)
      (ap (λ (h : HeldState). h.halt) c.stop.ensures ∙ sym (ap (λ (r : Result (Unit {0}) Halt). halt_after r c.loop-attempt.held.halt) c.in-Err.is)) (λ away front back first xs waiting heard halt are u. (lost_by (front ++ back) away, refl, refl, c.lose_away.ensures.underway away front back first xs waiting heard halt are u))
      (c.loop-attempt.invariant.keeps front back first waiting heard at);
  stays = (
      let st = last_stays g.T.Terms.trust g.F.Commands.gives g.F.Commands.may_fail g.T.Terms.sources g.S.Site.tells g.T.Terms.kept (IsSurePool g.B.Terms.fits) g.S.Site.files g.S.Site.may_leave g.S.Site.moment g.S.Site.images_since c.loop-attempt.desk c.lose_away.new.desk c.loop-attempt.held c.loop-attempt.self c.pop.new.self c.in-Some.attempt (halt_after c.lose_away.result) c.in-Some.ensures.some (λ away front back first xs waiting heard halt are u. (lost_by (front ++ back) away, refl, refl, c.lose_away.ensures.underway away front back first xs waiting heard halt are u))
      (record { front = c.requires.at.front; back = c.requires.at.back; first = c.requires.at.first; waiting = c.requires.at.waiting; heard = c.requires.at.heard; at = c.loop-attempt.invariant.keeps c.requires.at.front c.requires.at.back c.requires.at.first c.requires.at.waiting c.requires.at.heard c.requires.at.at }) in
      record { live = λ k lives. st.live k (c.loop-attempt.invariant.stays.live k lives); link = st.link ∙ c.loop-attempt.invariant.stays.link }
      );
  peer = sym (ap (λ (s : SeatState g.row.L.Denot). s.peer) c.in-Some.ensures.some) ∙ c.loop-attempt.invariant.peer;
  gives_up = gives_halted c.in-Err.why (ap (λ (h : HeldState). h.halt) c.stop.ensures);
}

pub loop-attempt-preserved : goal.loop-attempt-preserved
loop-attempt-preserved g c = record {
  keeps = λ front back first waiting heard at.
      last_place g.T.Terms.trust g.F.Commands.gives g.F.Commands.may_fail g.T.Terms.sources g.S.Site.tells g.T.Terms.kept (IsSurePool g.B.Terms.fits) g.S.Site.files g.S.Site.may_leave g.S.Site.moment g.S.Site.images_since front back first c.loop-attempt.desk c.lose_away.new.desk c.loop-attempt.held c.loop-attempt.held waiting heard c.loop-attempt.self c.pop.new.self c.in-Some.attempt (halt_after c.lose_away.result) c.in-Some.ensures.some refl
      (sym (ap (λ (r : Result (Unit {0}) Halt). halt_after r c.loop-attempt.held.halt) c.in_default-lose_away.is)) (λ away front back first xs waiting heard halt are u. (lost_by (front ++ back) away, refl, refl, c.lose_away.ensures.underway away front back first xs waiting heard halt are u))
      (c.loop-attempt.invariant.keeps front back first waiting heard at);
  stays = (
      let st = last_stays g.T.Terms.trust g.F.Commands.gives g.F.Commands.may_fail g.T.Terms.sources g.S.Site.tells g.T.Terms.kept (IsSurePool g.B.Terms.fits) g.S.Site.files g.S.Site.may_leave g.S.Site.moment g.S.Site.images_since c.loop-attempt.desk c.lose_away.new.desk c.loop-attempt.held c.loop-attempt.self c.pop.new.self c.in-Some.attempt (halt_after c.lose_away.result) c.in-Some.ensures.some (λ away front back first xs waiting heard halt are u. (lost_by (front ++ back) away, refl, refl, c.lose_away.ensures.underway away front back first xs waiting heard halt are u))
      (record { front = c.requires.at.front; back = c.requires.at.back; first = c.requires.at.first; waiting = c.requires.at.waiting; heard = c.requires.at.heard; at = c.loop-attempt.invariant.keeps c.requires.at.front c.requires.at.back c.requires.at.first c.requires.at.waiting c.requires.at.heard c.requires.at.at }) in
      record { live = λ k lives. st.live k (c.loop-attempt.invariant.stays.live k lives); link = st.link ∙ c.loop-attempt.invariant.stays.link }
      );
  peer = sym (ap (λ (s : SeatState g.row.L.Denot). s.peer) c.in-Some.ensures.some) ∙ c.loop-attempt.invariant.peer;
  gives_up = gives_then c.loop-attempt.invariant.gives_up
      (let split : c.loop-attempt.self.attempts ≡ c.pop.new.self.attempts ++ (c.in-Some.attempt ∷ []) = ap (λ (s : SeatState g.row.L.Denot). s.attempts) c.in-Some.ensures.some in
      let is = c.requires.at in
      let now = c.loop-attempt.invariant.keeps is.front is.back is.first is.waiting is.heard is.at in
      let on = on_at c.loop-attempt.self.link.0 c.pop.new.self.attempts c.in-Some.attempt [] (subst (AreOn c.loop-attempt.self.link.0) split now.place.there) in
      loses_gives c.loop-attempt.desk.moves c.lose_away.new.desk.moves c.args.self.now.link.0 c.in-Some.attempt c.loop-attempt.held.halt (on ∙ ap (λ (k : LinkNo). k.0) c.loop-attempt.invariant.stays.link)
      (subst (λ (r : Result (Unit {0}) Halt). OnOk r (LosesIt c.loop-attempt.desk.moves c.in-Some.attempt c.lose_away.new.desk.moves)) c.in_default-lose_away.is c.lose_away.ensures.loses));
}

pub returns-clause-keeps : goal.returns-clause-keeps
returns-clause-keeps g c front back first waiting heard at =
    subst (AtPlace g.T.Terms.trust g.F.Commands.gives g.F.Commands.may_fail g.T.Terms.sources g.S.Site.tells g.T.Terms.kept (IsSurePool g.B.Terms.fits) g.S.Site.files g.S.Site.may_leave g.S.Site.moment g.S.Site.images_since front back first c.loop-attempt.desk c.loop-attempt.held waiting heard) (sym (c.pop.ensures.none c.in_default.is).1) (c.loop-attempt.invariant.keeps front back first waiting heard at)
