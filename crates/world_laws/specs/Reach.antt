-- Which worlds a list of events leads to, where each runner keeps to what the commands do.
use Rattle.std.specs.Prelude.{◌≡◌, ℕ, true, List, [], ◌∷◌, Option, Some, None, map, unwrap_or}
use Rattle.flow_types.specs.declared.plan.Plan.{Plan}
use Rattle.flow_types.specs.declared.job.Job.{Job}
use Rattle.flow_types.specs.declared.job.Outcome.{Outcome}
use Rattle.flow_types.specs.declared.numbers.Content.{Content}
use Rattle.flow_types.specs.declared.records.Record.{Record}
use Rattle.flow_types.specs.declared.records.Record.TheVariants as records
use Rattle.flow_types.specs.Plans.{sources_of}
use Rattle.flow_types.specs.Serial.{Contents, Function, of_sources}
use Rattle.link_session.specs.Sessions.{State}
use Rattle.links.specs.Honesty.{HasRun}
use Rattle.rule_graph.specs.Spelling.{plan_digest}
use Rattle.run_history.specs.declared.moves.Move.TheVariants as moves
use Rattle.run_history.specs.declared.options.Options.{Options}
use Rattle.world_peers.specs.Runs.{EndsSo, Failures}
use Rattle.world_laws.specs.declared.events.WorldEvent.{WorldEvent}
use Rattle.world_laws.specs.Worlds.{World, happens, job_run, row_for}

-- A job may end so: it wasn't run, or it ran and ended so.
abbrev pub MayEnd : Function → Failures → Job → Outcome → Type 0
MayEnd gives may_fail job outcome = HasRun outcome → EndsSo gives may_fail job outcome

-- the same where there is a job
abbrev pub MayAnswer : Function → Failures → Option Job → Outcome → Type 0
MayAnswer gives may_fail None outcome = Unit {0}
MayAnswer gives may_fail (Some job) outcome = MayEnd gives may_fail job outcome

-- the source as it is logged; one without a content would count as empty
abbrev pub source_logged : Contents → ℕ → Content
source_logged sources f = row_for (unwrap_or (sources f) [])

-- the record of the first run
abbrev pub opening : Plan → Options → Contents → Record
opening P O sources =
    records.Opened 0 0 O.retries O.limit (record { 0 = plan_digest P })
    (map (source_logged sources) (sources_of P))

-- The first run is opened, the master holds the sources, and nobody has come. Sessions begin with
-- this one.
abbrev pub first_world : Plan → Options → Contents → State → World
first_world P O sources fresh = record {
  moves = moves.Logged (opening P O sources) ∷ [];
  contents = of_sources P sources;
  connections = [];
  peers = [];
  bag = [];
  up = true;
  fresh = fresh;
}

-- These events, in their order, may lead from one world to the other.
abbrev pub Reaches :
    Plan → Options → Function → Failures → World → List WorldEvent → World → Type 0
Reaches P O gives may_fail w [] v = v ≡ w
Reaches P O gives may_fail w (e ∷ es) v =
    (outcome : Outcome) × MayAnswer gives may_fail (job_run P w e) outcome
    × Reaches P O gives may_fail (happens P O w e outcome) es v
