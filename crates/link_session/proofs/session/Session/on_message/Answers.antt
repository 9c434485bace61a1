use Rattle.std.proofs.Common.{subst}
use Rattle.link_session.specs.Sessions.{State, AreApart, hears}
use Rattle.link_session.proofs.Closing.{hearing_closes, comes_closing}
use Rattle.link_session.proofs.session.Session.on_message.Goals as goal

pub returns-in-Greeted-clause-closes : goal.returns-in-Greeted-clause-closes
returns-in-Greeted-clause-closes c =
    let s : State = c.args.self.now in
    let apart : AreApart s.attempts = subst (λ (t : State). AreApart t.attempts) c.self.view_is c.self.invariant in
    comes_closing (hears s c.args.message.now) s c.hear.new.self c.hear.result (hearing_closes s c.args.message.now apart) c.hear.ensures
