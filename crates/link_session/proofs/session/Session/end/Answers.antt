use Rattle.std.proofs.Common.{rules, ◌≡◌, true, false, Some, Err, sym, subst}
use Rattle.std.specs.Prelude.{slice_get}
use Rattle.link_session.specs.declared.open.Open.{Open}
use Rattle.link_session.specs.declared.word.SessionFault.{SessionFault}
use Rattle.link_session.specs.Fits.{outcome_fits}
use Rattle.link_session.specs.Sessions.{State, AreApart, Comes, ended_at, place}
use Rattle.link_session.proofs.Attempts.{apart_left}
use Rattle.link_session.proofs.Hearing.{stands, unfit, ended}
use Rattle.link_session.proofs.session.Session.end.Goals as goal

pub invariant_of-self : goal.invariant_of-self
invariant_of-self c =
    subst AreApart (sym c.remove.ensures.items) (apart_left c.self.inside.attempts.items c.in-Some.at c.self.invariant)

pub returns-then-not-may_end : goal.returns-then-not-may_end
returns-then-not-may_end c =
    λ outcome is_done is_end.
    let s : State = c.args.self.now in
    let o : Open = c.in-Some-get.open.now in
    let is : place c.args.attempt s.attempts ≡ Some c.in-Some.at = search rules in
    let got : slice_get s.attempts c.in-Some.at ≡ Some o =
    stands s.attempts c.deref.result.now c.in-Some.at o (search rules) c.in-Some-get.ensures.lookup.0 c.in-Some-get.ensures.lookup.1 in
    let fits : outcome_fits o.bounds outcome ≡ false = search rules in
    subst (λ (f : SessionFault). Comes (ended_at s c.args.attempt outcome (place c.args.attempt s.attempts)) s (Err f) c.refuse.new.self)
    (sym c.refuse.ensures.answer) (unfit s c.refuse.new.self c.args.attempt outcome c.in-Some.at o is got fits (search rules))

pub returns : goal.returns
returns c =
    λ outcome is_done is_end.
    let s : State = c.args.self.now in
    let o : Open = c.in-Some-get.open.now in
    let is : place c.args.attempt s.attempts ≡ Some c.in-Some.at = search rules in
    let got : slice_get s.attempts c.in-Some.at ≡ Some o =
    stands s.attempts c.deref.result.now c.in-Some.at o (search rules) c.in-Some-get.ensures.lookup.0 c.in-Some-get.ensures.lookup.1 in
    let fits : outcome_fits o.bounds outcome ≡ true = search rules in
    ended s _ c.args.attempt outcome c.in-Some.at o c.of_end.result is got fits (c.of_end.ensures outcome is_end) (search rules)
