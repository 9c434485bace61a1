-- A file that the machines drop.
use Rattle.std.specs.Prelude.{◌≡◌, Option, Some, None}
use Rattle.flow_types.specs.declared.plan.Plan.{Plan}
use Rattle.flow_types.specs.declared.numbers.FileNo.{FileNo}
use Rattle.run_history.specs.declared.options.Options.{Options}
use Rattle.run_history.specs.Storage.{wanted}
use Rattle.net_world.specs.declared.play.Play.{Play}
use Rattle.world_laws.specs.Worlds.{World, collects, drop_logged, dropped, records_in, unlinks}
use Rattle.net_world.specs.Plays.{IsShown}

-- This file is collected, and a collection logs that it is dropped; without one a collection
-- changes nothing.
abbrev pub IsCollected : Plan → Options → World → Option FileNo → Type 0
IsCollected P O w None =
    (collects P w (wanted P O.mode (records_in w)) ≡ w)
    × (drop_logged P w (wanted P O.mode (records_in w)) ≡ w)
IsCollected P O w (Some file) =
    (collects P w (wanted P O.mode (records_in w)) ≡ unlinks (dropped w file.0) file)
    × (drop_logged P w (wanted P O.mode (records_in w)) ≡ dropped w file.0)

-- the world after the drop of this file, if there is one
abbrev pub dropped_or : World → Option FileNo → World
dropped_or w None = w
dropped_or w (Some file) = dropped w file.0

-- Machines that showed a world show it after the collected file, if there is one, was dropped, and
-- nothing sent yet.
abbrev pub Drops : Option FileNo → Play → Play → Type 0
Drops file old new =
    (P : Plan) (O : Options) (w : World) → IsShown P O w old
    → IsCollected P O w file × IsShown P O (dropped_or w file) new
