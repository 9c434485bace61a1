-- What a worker's call promises.
use Rattle.std.specs.Prelude.{◌≡◌, ◌<◌, ◌≤◌, ◌*◌, ℕ, List, ◌++◌, take, Option, Some, None, Result, Ok, IsErrOf}
use Rattle.flow_types.specs.declared.job.Failure.{Failure}
use Rattle.flow_types.specs.declared.job.Job.{Job}
use Rattle.flow_types.specs.Serial.{Function}
use Rattle.outside.specs.declared.fault.Fault.{Fault}
use Rattle.outside.specs.declared.fault.Fault.TheVariants as faults
use Rattle.command_words.specs.declared.options.WorkerOptions.{WorkerOptions}
use Rattle.worker_core.specs.Workers.{Worker}
use Rattle.peer_run.specs.declared.cause.PeerCause.{PeerCause}
use Rattle.peer_run.specs.declared.cause.PeerCause.TheVariants as causes
use Rattle.peer_run.specs.declared.halt.Halt.{Halt}
use Rattle.peer_run.specs.Causes.{cause_of, printed_cause}
use Rattle.peer_run.specs.Ends.{WorkLeft}
use Rattle.peer_run.specs.Met.{new_worker}
use Rattle.peer_run.specs.Works.{Way}

-- Some answer of the sink led from the one cause to the other: the sink fails only where its count
-- rises, and what it has taken grew by the line, which it took whole where the first
-- cause stands.
pub record IsPrinted (tells : Type 0) (before after : ℕ) (old new : List ℕ)
    (line : List ℕ) (cause stands : PeerCause) : Type 0 where
  pub printed : Result (Unit {0}) Fault
  pub is_cause : stands ≡ printed_cause before after cause printed
  pub rose : IsErrOf printed faults.Failed → before < after
  pub later : before ≤ after
  pub part : tells → (n : ℕ) × (new ≡ old ++ take n line)
  pub whole : (printed ≡ Ok tt) → tells → new ≡ old ++ line

-- the worker that these words ask for, before anything came
abbrev pub worker_by : WorkerOptions → Worker
worker_by options = new_worker options.total (options.cache * 1048576)

-- Why a worker ends that has no link, by what the words choose and the dial's counts: the words are
-- none, the dial failed or memory was wanting.
abbrev pub NoLink : Option WorkerOptions → ℕ → ℕ → PeerCause → Type 0
NoLink options before after causes.Usage = options ≡ None
NoLink options before after (causes.DialFault b a) =
    (b ≡ before) × (a ≡ after) × (before < after)
    × ((chosen : WorkerOptions) × (options ≡ Some chosen))
NoLink options before after causes.Memory = Unit {0}
NoLink options before after _ = ⊥

-- Why a worker ends before its line is printed: without a link as above, and with one it has left it
-- for this cause.
abbrev pub EndsBy : {L R : Type 0} → Function → (Job → Failure → Type 0) → Type 0
    → (L → Way) → (R → Job → Type 0) → (R → Type 0) → List R → Option WorkerOptions
    → ℕ → ℕ → ℕ → ℕ → Option L → PeerCause → Type 0
EndsBy gives may_fail tells way told sure runners options dialled dials before after None cause =
    NoLink options dialled dials cause
EndsBy gives may_fail tells way told sure runners options dialled dials before after (Some link) cause =
    (chosen : WorkerOptions) × (options ≡ Some chosen)
    × ((halt : Halt) × (cause ≡ cause_of (Way.faults (way link)) halt)
    × WorkLeft gives may_fail tells told sure runners (worker_by chosen) (way link) before after halt)
