-- A next message that can't be taken makes a worker leave.
use Rattle.std.proofs.Common.{ℕ, false, List, Option, Result, Err}
use Rattle.flow_types.specs.declared.job.Failure.{Failure}
use Rattle.flow_types.specs.declared.job.Job.{Job}
use Rattle.flow_types.specs.declared.job.Outcome.{Outcome}
use Rattle.flow_types.specs.declared.job.Start.{Start}
use Rattle.flow_types.specs.declared.messages.Message.{Message}
use Rattle.flow_types.specs.Serial.{Function}
use Rattle.worker_core.specs.Workers.{Worker}
use Rattle.worker_pool.specs.declared.hand.Tally.{Tally}
use Rattle.peer_run.specs.declared.halt.Halt.{Halt}
use Rattle.peer_run.specs.declared.halt.Halt.TheVariants as halts
use Rattle.peer_run.specs.Ends.{Leaves, Takes}
use Rattle.peer_run.specs.Works.{EarState, Way, Works}
use Rattle.peer_run.proofs.Going.{is_broken, wants}

pub takes_not : (gives : Function) (may_fail : Job → Failure → Type 0) (tells told : Type 0) (fits : Job → Outcome → Type 0) (first : Worker) (faults : ℕ) (way : Way) (ear next : EarState) (core : Worker) (waiting : List Start) (heard : Tally) (halt : Halt)
    → (let r : Result (Option Message) Halt = Err halt in Takes ear r next) → Works gives may_fail tells told fits first faults way ear core waiting heard false
    → Leaves gives may_fail tells told fits first faults way heard halt
takes_not gives may_fail tells told fits first faults way ear next core waiting heard halts.Bye took works = absurd took
takes_not gives may_fail tells told fits first faults way ear next core waiting heard halts.Closed took works = absurd took
takes_not gives may_fail tells told fits first faults way ear next core waiting heard halts.Link took works = absurd took
takes_not gives may_fail tells told fits first faults way ear next core waiting heard (halts.Bad at) took works =
    is_broken gives may_fail tells told fits first faults way ear core waiting heard at took.0 took.1 works
takes_not gives may_fail tells told fits first faults way ear next core waiting heard halts.Memory took works =
    wants gives may_fail tells told fits first faults way ear core waiting heard false works
