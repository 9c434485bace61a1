use Rattle.std.proofs.Common.{rules, arith, ◌≡◌, None, subst}
use Rattle.peer_run.specs.Ends.{Advanced}
use Rattle.peer_run.specs.Works.{EarState}
use Rattle.peer_run.proofs.Frames.{advanced, ear_of, left_less}
use Rattle.peer_run.proofs.ear.Ear.advance.Goals as goal

pub invariant_of-self : goal.invariant_of-self
invariant_of-self c =
    let going : c.self.inside.feeder.stop ≡ None = search rules in
    let less = left_less c.self.inside.feeder c.advance.new.self c.advance.result going c.self.invariant.1 c.advance.ensures.step in
    (omega (arith, less.0, c.self.invariant.0), less.1)

pub returns : goal.returns
returns c =
    let going : c.self.inside.feeder.stop ≡ None = search rules in
    subst (λ (e : EarState). Advanced e c.advance.result (ear_of c.advance.new.self c.self.inside.fed)) c.self.view_is
    (advanced c.self.inside.feeder c.advance.new.self c.self.inside.fed c.advance.result going c.self.invariant.1 c.advance.ensures.step c.advance.ensures.message)
