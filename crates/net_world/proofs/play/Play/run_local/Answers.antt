use Rattle.net_world.proofs.LocalShows.{fit_here, here_shown}
use Rattle.net_world.proofs.play.Play.run_local.Goals as goal

pub returns-in-Ok-clause-ran : goal.returns-in-Ok-clause-ran
returns-in-Ok-clause-ran g c tells P O w shown =
    let here = c.in-Some.ensures.local P O w shown in
    here_shown g.F.Commands.gives g.F.Commands.may_fail P O w c.args.self.now c.close.new.self c.args.attempt c.in-Some.rule c.in_ok-outcome.outcome here shown
    (c.in_ok-outcome.ensures.end tells)
    (c.in-Ok.ensures P O w shown (fit_here P O w c.args.self.now c.args.attempt c.in-Some.rule c.in_ok-outcome.outcome here shown c.in_ok-outcome.ensures.shape))
