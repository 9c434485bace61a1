use Rattle.std.proofs.Common.{rules, ◌≡◌, false, List, Some, sym, subst}
use Rattle.link_session.specs.declared.open.Open.{Open}
use Rattle.link_session.specs.Sessions.{AreApart, is_open, place}
use Rattle.link_session.proofs.Attempts.{apart_left, closed}
use Rattle.link_session.proofs.session.Session.cancel.Goals as goal

pub invariant_of-self : goal.invariant_of-self
invariant_of-self c =
    subst AreApart (sym c.remove.ensures.items) (apart_left c.self.inside.attempts.items c.in-Some.at c.self.invariant)

pub returns-in-Some-clause-closed : goal.returns-in-Some-clause-closed
returns-in-Some-clause-closed c =
    let is : place c.args.attempt c.self.inside.attempts.items ≡ Some c.in-Some.at = search rules in
    subst (λ (os : List Open). is_open c.args.attempt os ≡ false) (sym c.remove.ensures.items) (closed c.args.attempt c.self.inside.attempts.items c.in-Some.at c.self.invariant is)
