-- Which job an event is to run, and worlds in which what is to run is run.
use Rattle.std.specs.Prelude.{◌≡◌, List, [], ◌∷◌, Option, Some, None, if◌then◌else◌, slice_get}
use Rattle.flow_types.specs.declared.plan.Plan.{Plan}
use Rattle.flow_types.specs.declared.numbers.AttemptNo.{AttemptNo}
use Rattle.flow_types.specs.declared.job.Job.{Job}
use Rattle.flow_types.specs.declared.job.Outcome.{Outcome}
use Rattle.flow_types.specs.Serial.{Function}
use Rattle.run_history.specs.declared.options.Options.{Options}
use Rattle.world_laws.specs.declared.events.Cut.TheVariants as cuts
use Rattle.world_laws.specs.declared.events.WorldEvent.{WorldEvent}
use Rattle.world_laws.specs.declared.events.WorldEvent.TheVariants as events
use Rattle.world_peers.specs.declared.member.Member.{Member}
use Rattle.world_peers.specs.declared.member.Member.TheVariants.{Leads, Works}
use Rattle.world_laws.specs.Worlds.{World, happens, is_local, job_at, job_run, records_in}
use Rattle.world_peers.specs.Company.{next_job}
use Rattle.world_peers.specs.Runs.{EndsSo, Failures}
use Rattle.world_laws.specs.Reach.{MayAnswer}

-- the job of an attempt, where it runs on the local place
abbrev pub local_due : Plan → World → AttemptNo → Option Job
local_due P w attempt =
    if is_local (records_in w) attempt.0 then job_at P w attempt else None

-- the next job of a worker that isn't gone
abbrev pub peer_due : Option Member → Option Job
peer_due None = None
peer_due (Some (Works home machine)) =
    if machine.gone then None else next_job (Some (Works home machine))
peer_due (Some (Leads lead)) = None

-- the job that an event is to run while the master runs
abbrev pub due_up : Plan → World → WorldEvent → Option Job
due_up P w (events.RunLocal attempt) = local_due P w attempt
due_up P w (events.Crash (cuts.RunLocal attempt)) = local_due P w attempt
due_up P w (events.Run p) = peer_due (slice_get w.peers p)
due_up P w _ = None

-- the same from a crash to a resume
abbrev pub due_down : World → WorldEvent → Option Job
due_down w (events.Run p) = peer_due (slice_get w.peers p)
due_down w _ = None

-- The job that an event is to run; one that isn't enabled is to run none.
abbrev pub job_due : Plan → World → WorldEvent → Option Job
job_due P w e = if w.up then due_up P w e else due_down w e

-- a job that was to be run ran, and ended so
abbrev pub Ended : Function → Failures → Option Job → Outcome → Type 0
Ended gives may_fail None outcome = Unit {0}
Ended gives may_fail (Some job) outcome = EndsSo gives may_fail job outcome

-- The job that there is may answer so; and if it is due, it ran and ended so.
abbrev pub RunsSo : Function → Failures → Option Job → Option Job → Outcome → Type 0
RunsSo gives may_fail job due outcome =
    MayAnswer gives may_fail job outcome × Ended gives may_fail due outcome

-- These events, in their order, lead from one world to the other, and each job that was to be run
-- ran.
abbrev pub Plays :
    Plan → Options → Function → Failures → World → List WorldEvent → World → Type 0
Plays P O gives may_fail w [] v = v ≡ w
Plays P O gives may_fail w (e ∷ es) v =
    (outcome : Outcome) × RunsSo gives may_fail (job_run P w e) (job_due P w e) outcome
    × Plays P O gives may_fail (happens P O w e outcome) es v
