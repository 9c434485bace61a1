-- How a job ends, and how a peer runs its next one.
use Rattle.std.specs.Prelude.{◌≡◌, List, [], Option, Some, None}
use Rattle.flow_types.specs.declared.job.Failure.{Failure}
use Rattle.flow_types.specs.declared.job.Job.{Job}
use Rattle.flow_types.specs.declared.job.Outcome.{Outcome}
use Rattle.flow_types.specs.Serial.{Function, given_by}
use Rattle.outside.specs.Jobs.{IsHonest, IsShaped}
use Rattle.flow_types.specs.declared.job.Start.{Start}
use Rattle.flow_types.specs.declared.messages.Message.{Message}
use Rattle.worker_core.specs.Workers.{reports}
use Rattle.world_peers.specs.Peers.{Machine, stepped, without_job}

-- with which failures a job may end
abbrev pub Failures : Type 1
Failures = Job → Failure → Type 0

-- A job ran and ended so: its outcome has the shape that was asked for, and is what the commands
-- give, or a failure with which the job may end.
abbrev pub EndsSo : Function → Failures → Job → Outcome → Type 0
EndsSo gives may_fail job outcome =
    IsShaped job outcome × IsHonest (given_by gives job) (may_fail job) outcome

-- Without a job nothing is done. Else the job ended as it may, the peer reported that, and the rest
-- are its jobs from then on.
abbrev pub RunsNext : (Job → Outcome → Type 0)
    → Machine → Option Start → List Message → Machine → Type 0
RunsNext may_end old None sent new = (sent ≡ []) × (new ≡ old)
RunsNext may_end old (Some s) sent new =
    (outcome : Outcome) × may_end s.job outcome
    × (sent ≡ (reports old.worker s.attempt outcome).acts.send)
    × (new ≡ stepped old (without_job s.attempt old.jobs) (reports old.worker s.attempt outcome))
