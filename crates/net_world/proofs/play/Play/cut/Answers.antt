use Rattle.std.proofs.lemmas.Result.{on_ok_weaker}
use Rattle.world_laws.specs.declared.events.Cut.TheVariants as cuts
use Rattle.net_world.proofs.StepShows.{cut_as}
use Rattle.net_world.proofs.play.Play.cut.Goals as goal

pub returns-in-RunLocal-clause-ran : goal.returns-in-RunLocal-clause-ran
returns-in-RunLocal-clause-ran g c = on_ok_weaker c.run_local.result
    (cut_as g.F.Commands.gives g.F.Commands.may_fail _ c.args.cut (cuts.RunLocal c.in-RunLocal.attempt) c.args.self.now c.run_local.new.self c.in-RunLocal.is)
    c.run_local.ensures.ran
