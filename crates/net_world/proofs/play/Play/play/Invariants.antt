use Rattle.std.proofs.Common.{◌≤◌, drop}
use Rattle.flow_types.specs.declared.job.Job.{Job}
use Rattle.flow_types.specs.declared.plan.Plan.{Plan}
use Rattle.run_history.specs.declared.options.Options.{Options}
use Rattle.net_world.specs.Plays.{IsShown}
use Rattle.world_laws.specs.Due.{Plays}
use Rattle.world_laws.specs.Worlds.{World}
use Rattle.net_world.proofs.play.Play.play.Given as goal

-- what is left leads from here to where all leads from the beginning
abbrev pub invariant-loop-event : goal.invariant-loop-event
invariant-loop-event g l = record {
  later : g.R.Runner.count l.fn.runner ≤ g.R.Runner.count l.runner;
  tells : (job : Job) → g.R.Runner.tells l.fn.runner job → g.R.Runner.tells l.runner job;
  leads : ((job : Job) → g.R.Runner.tells l.fn.runner job) → (P : Plan) (O : Options) (w : World) → IsShown P O w l.fn.self
      → (u : World) × IsShown P O u l.self
      × ((v : World) → Plays P O g.F.Commands.gives g.F.Commands.may_fail u (drop l.event-index l.events) v → Plays P O g.F.Commands.gives g.F.Commands.may_fail w l.events v);
}
