use Rattle.std.proofs.lemmas.Result.{on_ok_weaker}
use Rattle.world_laws.specs.declared.events.WorldEvent.TheVariants as events
use Rattle.net_world.proofs.StepShows.{answered_by, link_lost, up_as}
use Rattle.net_world.proofs.play.Play.step_up.Goals as goal

pub returns-in-RunLocal-clause-ran : goal.returns-in-RunLocal-clause-ran
returns-in-RunLocal-clause-ran g c = on_ok_weaker c.run_local.result
    (up_as g.F.Commands.gives g.F.Commands.may_fail _ c.args.event (events.RunLocal c.in-RunLocal.attempt) c.args.self.now c.run_local.new.self c.in-RunLocal.is)
    c.run_local.ensures.ran

pub returns-in-LoseLink-clause-ran : goal.returns-in-LoseLink-clause-ran
returns-in-LoseLink-clause-ran g c = answered_by _ _ c.lose_link.result c.in_world-in-LoseLink.result c.in_world-in-LoseLink.ensures
    (link_lost g.F.Commands.gives g.F.Commands.may_fail _ c.args.event c.in-LoseLink.link c.args.self.now c.lose_link.new.self c.in-LoseLink.is)
    c.lose_link.ensures

pub returns-in-Run-clause-ran : goal.returns-in-Run-clause-ran
returns-in-Run-clause-ran g c = on_ok_weaker c.run.result
    (up_as g.F.Commands.gives g.F.Commands.may_fail _ c.args.event (events.Run c.in-Run.peer) c.args.self.now c.run.new.self c.in-Run.is)
    c.run.ensures.ran

pub returns-in-Crash-clause-ran : goal.returns-in-Crash-clause-ran
returns-in-Crash-clause-ran g c = on_ok_weaker c.crash.result
    (up_as g.F.Commands.gives g.F.Commands.may_fail _ c.args.event (events.Crash c.in-Crash.cut) c.args.self.now c.crash.new.self c.in-Crash.is)
    c.crash.ensures.ran
