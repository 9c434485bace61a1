use Rattle.net_world.proofs.StepShows.{answered_by, crashed}
use Rattle.net_world.proofs.play.Play.crash.Goals as goal

pub returns-clause-ran : goal.returns-clause-ran
returns-clause-ran g c = answered_by _ _ c.stop.result c.in_world.result c.in_world.ensures
    (crashed g.F.Commands.gives g.F.Commands.may_fail _ c.args.cut c.args.self.now c.cut.new.self c.stop.new.self c.in_ok-cut.ensures.ran)
    c.stop.ensures
