use Rattle.std.proofs.Common.{◌≡◌, ◌≤◌, length}
use Rattle.std.specs.Prelude.{filter, filter_map}
use Rattle.flow_types.specs.declared.plan.Plan.{Plan}
use Rattle.flow_types.specs.Plans.{numbers}
use Rattle.run_history.specs.declared.options.Options.{Options}
use Rattle.net_world.specs.Plays.{IsShown}
use Rattle.net_world.specs.Results.{is_made, present_holding}
use Rattle.world_laws.specs.Worlds.{World}
use Rattle.net_world.proofs.play.Play.holdings.Given as goal

-- those below the next one are found
abbrev pub invariant-loop-file : goal.invariant-loop-file
invariant-loop-file l = record {
  found : (P : Plan) (O : Options) (w : World) → IsShown P O w l.self → l.files.items ≡ filter_map (present_holding P w) (filter (is_made P) (numbers l.file));
  within : l.file ≤ length l.self.table.plan.files;
}
