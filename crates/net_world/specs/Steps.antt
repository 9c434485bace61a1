-- Steps of the machines that run a job, and the job of a rule as the machines hold it.
use Rattle.std.specs.Prelude.{◌≡◌, ℕ, true, List, Option, Some, None, Result, Ok, Err, slice_get}
use Rattle.std.specs.Option.{option_map}
use Rattle.flow_types.specs.declared.lists.Memory.{Memory}
use Rattle.flow_types.specs.declared.plan.Plan.{Plan}
use Rattle.flow_types.specs.declared.job.Job.{Job}
use Rattle.flow_types.specs.declared.job.Outcome.{Outcome}
use Rattle.flow_types.specs.declared.numbers.AttemptNo.{AttemptNo}
use Rattle.flow_types.specs.declared.numbers.RuleNo.{RuleNo}
use Rattle.flow_types.specs.Serial.{Function, job_of}
use Rattle.run_history.specs.declared.options.Options.{Options}
use Rattle.world_laws.specs.declared.events.WorldEvent.{WorldEvent}
use Rattle.world_peers.specs.declared.fault.WorldFault.{WorldFault}
use Rattle.world_peers.specs.declared.fault.WorldFault.TheVariants as faults
use Rattle.net_world.specs.declared.play.Play.{Play}
use Rattle.world_laws.specs.Worlds.{World, happens, is_local, job_run, records_in, rule_at, runs_local}
use Rattle.world_peers.specs.Runs.{Failures}
use Rattle.world_laws.specs.Due.{Plays, RunsSo, job_due, local_due}
use Rattle.net_world.specs.Plays.{IsShown}
use Rattle.world_contents.specs.Holdings.{held_in}

-- the job of a rule over the contents that are kept
abbrev pub job_in : Play → ℕ → Option Job
job_in play r =
    option_map (λ rule. job_of play.table.plan rule (held_in play.contents.items))
    (slice_get play.table.plan.rules r)

-- Machines that showed a world show what this makes of it, once this job, if there is one, answered
-- as it may; and if it is due, it ran.
abbrev pub RunsAs : Function → Failures → (Plan → World → Option Job)
    → (Plan → World → Option Job) → (Plan → Options → World → Outcome → World)
    → Play → Play → Type 0
RunsAs gives may_fail job due change old new =
    (P : Plan) (O : Options) (w : World) → IsShown P O w old
    → (outcome : Outcome) × RunsSo gives may_fail (job P w) (due P w) outcome
    × IsShown P O (change P O w outcome) new

-- Machines that showed a world show it after this event.
abbrev pub StepsBy : Function → Failures → WorldEvent → Play → Play → Type 0
StepsBy gives may_fail e old new =
    RunsAs gives may_fail (λ P w. job_run P w e) (λ P w. job_due P w e)
    (λ P O w outcome. happens P O w e outcome) old new

-- This is the rule that the attempt runs on the local place; where there is none, a run of the
-- attempt there changes nothing.
abbrev pub RunsLocally : Plan → World → AttemptNo → Option RuleNo → Type 0
RunsLocally P w attempt None = (outcome : Outcome) → runs_local P w attempt outcome ≡ w
RunsLocally P w attempt (Some rule) =
    (is_local (records_in w) attempt.0 ≡ true) × (rule_at (records_in w) attempt.0 ≡ Some rule.0)

-- where there is no such rule, no job is due
abbrev pub NoneDue : Plan → World → AttemptNo → Option RuleNo → Type 0
NoneDue P w attempt None = local_due P w attempt ≡ None
NoneDue P w attempt (Some rule) = Unit {0}

-- the answer of a call that runs no job, as one of a world
abbrev pub in_world : {T : Type 0} → Result T Memory → Result T WorldFault
in_world (Ok answer) = Ok answer
in_world (Err lack) = Err faults.Memory

-- Machines that showed a world show one to which these events lead, where each job that was to be run
-- ran.
abbrev pub Leads : Function → Failures → List WorldEvent → Play → Play → Type 0
Leads gives may_fail events old new =
    (P : Plan) (O : Options) (w : World) → IsShown P O w old
    → (v : World) × Plays P O gives may_fail w events v × IsShown P O v new
