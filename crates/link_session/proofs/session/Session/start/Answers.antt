use Rattle.std.proofs.Common.{◌≡◌, ◌++◌, ◌∷◌, [], sym, subst, rules, false}
use Rattle.link_session.specs.Sessions.{AreApart, opened, is_open}
use Rattle.link_session.proofs.Attempts.{apart_more, has_none}
use Rattle.link_session.proofs.session.Session.start.Goals as goal

pub invariant_of-self-2 : goal.invariant_of-self-2
invariant_of-self-2 c =
    let is : c.push_reserved.new.self.items ≡ c.self.inside.attempts.items ++ opened c.args.task.now ∷ [] = search rules in
    let none : is_open c.args.task.now.attempt c.self.inside.attempts.items ≡ false = search rules in
    subst AreApart (sym is) (apart_more c.self.inside.attempts.items (opened c.args.task.now) c.self.invariant (has_none c.args.task.now.attempt c.self.inside.attempts.items none))
