use Rattle.std.proofs.Common.{◌≡◌, true, false, Some, refl, sym, subst, rules}
use Rattle.std.specs.Prelude.{nat_lt, slice_get}
use Rattle.link_session.specs.declared.open.Open.{Open}
use Rattle.link_session.specs.Fits.{has_all}
use Rattle.link_session.specs.Sessions.{State, AreApart, most_misses, place}
use Rattle.link_session.proofs.Attempts.{apart_left, apart_missed_at}
use Rattle.link_session.proofs.Hearing.{stands, put_again, lost}
use Rattle.link_session.proofs.session.Session.miss.Goals as goal

pub invariant_of-self : goal.invariant_of-self
invariant_of-self c =
    let os = c.self.inside.attempts.items in
    subst AreApart (sym c.add_miss.ensures) (apart_missed_at os c.in-Some.at (slice_get os c.in-Some.at) refl c.self.invariant)

pub invariant_of-self-2 : goal.invariant_of-self-2
invariant_of-self-2 c =
    subst AreApart (sym c.remove.ensures.items) (apart_left c.self.inside.attempts.items c.in-Some.at c.self.invariant)

pub returns-then-open-lt-MOST_MISSES : goal.returns-then-open-lt-MOST_MISSES
returns-then-open-lt-MOST_MISSES c =
    let s : State = c.args.self.now in
    let o : Open = c.in-Some-get.open.now in
    let is : place c.args.attempt s.attempts ≡ Some c.in-Some.at = search rules in
    let got : slice_get s.attempts c.in-Some.at ≡ Some o = stands s.attempts c.deref.result.now c.in-Some.at o (search rules) c.in-Some-get.ensures.lookup.0 c.in-Some-get.ensures.lookup.1 in
    let all : has_all o.files c.args.files ≡ true = search rules in
    let few : nat_lt o.misses most_misses ≡ true = search rules in
    put_again s _ c.args.attempt c.args.files c.in-Some.at o is got all few (search rules)

pub returns : goal.returns
returns c =
    let s : State = c.args.self.now in
    let o : Open = c.in-Some-get.open.now in
    let is : place c.args.attempt s.attempts ≡ Some c.in-Some.at = search rules in
    let got : slice_get s.attempts c.in-Some.at ≡ Some o = stands s.attempts c.deref.result.now c.in-Some.at o (search rules) c.in-Some-get.ensures.lookup.0 c.in-Some-get.ensures.lookup.1 in
    let all : has_all o.files c.args.files ≡ true = search rules in
    let few : nat_lt o.misses most_misses ≡ false = search rules in
    lost s _ c.args.attempt c.args.files c.in-Some.at o is got all few (search rules)
