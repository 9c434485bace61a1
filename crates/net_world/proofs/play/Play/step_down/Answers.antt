use Rattle.std.proofs.lemmas.Result.{on_ok_weaker}
use Rattle.world_laws.specs.declared.events.WorldEvent.TheVariants as events
use Rattle.net_world.proofs.StepShows.{down_as}
use Rattle.net_world.proofs.play.Play.step_down.Goals as goal

pub returns-in-Run-clause-ran : goal.returns-in-Run-clause-ran
returns-in-Run-clause-ran g c = on_ok_weaker c.run.result
    (down_as g.F.Commands.gives g.F.Commands.may_fail _ c.args.event (events.Run c.in-Run.peer) c.args.self.now c.run.new.self c.in-Run.is)
    c.run.ensures.ran
