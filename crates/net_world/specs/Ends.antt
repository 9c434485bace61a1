-- How a run of a world ends.
use Rattle.std.specs.Prelude.{ℕ, List}
use Rattle.flow_types.specs.declared.plan.Plan.{Plan}
use Rattle.flow_types.specs.Serial.{Function}
use Rattle.link_session.specs.Sessions.{State}
use Rattle.run_history.specs.declared.options.Options.{Options}
use Rattle.world_laws.specs.declared.events.WorldEvent.{WorldEvent}
use Rattle.net_world.specs.declared.world.World.{World as WorldValue}
use Rattle.world_laws.specs.Worlds.{World}
use Rattle.world_peers.specs.Runs.{Failures}
use Rattle.world_laws.specs.Reach.{first_world}
use Rattle.world_laws.specs.Due.{Plays}
use Rattle.world_laws.specs.Laws.{IsTrueWorld}
use Rattle.net_world.specs.Results.{Shows}
use Rattle.world_contents.specs.Sources.{sources_in}

-- The answer shows a world to which just these events lead, in their order, from the first one over
-- these sources, where each job that was to be run ran; and what its records and its messages say is
-- so.
abbrev pub EndsIn : Plan → Options → Function → Failures → List (List ℕ) → List WorldEvent → WorldValue → Type 0
EndsIn P O gives may_fail sources events shown =
    (fresh : State)
    → (w : World) × Plays P O gives may_fail (first_world P O (sources_in P sources) fresh) events w
    × Shows P w shown × IsTrueWorld P gives may_fail (sources_in P sources) w
