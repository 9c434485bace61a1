-- The peers of a world: workers and foremen, the links between them, and what they send.
use Rattle.std.specs.Prelude.{ℕ, ◌+◌, Bool, true, false, not, ◌&&◌, ◌||◌, List, [], ◌++◌, ◌==◌, Option, nat_le, nat_lt, find, position, remove}
use Rattle.std.specs.List.{list_all}
use Rattle.std.specs.Option.{option_map_or}
use Rattle.flow_types.specs.declared.numbers.Amounts.{Amounts}
use Rattle.flow_types.specs.declared.numbers.AttemptNo.{AttemptNo}
use Rattle.flow_types.specs.declared.numbers.LinkNo.{LinkNo}
use Rattle.flow_types.specs.declared.job.Start.{Start}
use Rattle.flow_types.specs.declared.messages.Message.{Message}
use Rattle.flow_types.specs.declared.messages.Message.TheVariants as messages
use Rattle.worker_core.specs.Workers.{Acted, Worker}
use Rattle.foreman_core.specs.Foremen.{Foreman, new_foreman}
use Rattle.foreman_core.specs.Steps.{Led}
use Rattle.world_peers.specs.declared.sent.Party.{Party}
use Rattle.world_peers.specs.declared.sent.Party.TheVariants.{Master, Peer}
use Rattle.world_peers.specs.declared.sent.Sent.{Sent}

-- A worker among the peers: its machine, the jobs that it was told to start and that haven't ended,
-- and whether it is gone.
pub record Machine : Type 0 where
  pub worker : Worker
  pub jobs : List Start
  pub gone : Bool

-- A foreman among the peers: its machine, how many times somebody came to it, and whether it is gone.
pub record Lead : Type 0 where
  pub foreman : Foreman
  pub came : ℕ
  pub gone : Bool

-- ---- messages

-- a message to a peer
abbrev pub down_to : ℕ → Message → Sent
down_to p message = record { from = Master; to = Peer p; message = message }

-- a message of a peer to this end
abbrev pub told_to : Party → ℕ → Message → Sent
told_to to p message = record { from = Peer p; to = to; message = message }

-- a message of a peer to the master
abbrev pub up_from : ℕ → Message → Sent
up_from p message = told_to Master p message

-- ---- workers

-- a worker that holds and runs nothing
abbrev pub new_worker : Amounts → ℕ → Worker
new_worker total cap =
    record { total = total; cache = record { cap = cap; rows = [] }; running = [] }

-- a worker among the peers that runs nothing
abbrev pub new_machine : Worker → Machine
new_machine worker = record { worker = worker; jobs = []; gone = false }

-- a worker that is gone
abbrev pub gone_worker : Machine → Machine
gone_worker machine = record machine { gone = true }

-- a worker's first message
abbrev pub hello_of : Worker → Message
hello_of worker = messages.Hello worker.total worker.total worker.cache.cap

-- A worker after a step of its machine, with these of its jobs. One that was told Bye is gone.
abbrev pub stepped : Machine → List Start → Acted → Machine
stepped machine jobs did = record {
  worker = did.worker;
  jobs = jobs ++ did.acts.start;
  gone = did.acts.bye || machine.gone;
}

-- no job has an attempt below this one
abbrev pub is_least : List Start → Start → Bool
is_least jobs s = list_all (λ other. nat_le s.attempt.0 other.attempt.0) jobs

-- the job of the least attempt
abbrev pub least_job : List Start → Option Start
least_job jobs = find (is_least jobs) jobs

-- it is the job of an attempt
abbrev pub is_job_of : AttemptNo → Start → Bool
is_job_of attempt s = s.attempt.0 == attempt.0

-- the jobs without that of an attempt
abbrev pub without_job : AttemptNo → List Start → List Start
without_job attempt jobs = option_map_or (remove jobs) (position (is_job_of attempt) jobs) jobs

-- ---- foremen

-- a foreman among the peers to which nobody came
abbrev pub new_lead : ℕ → Lead
new_lead cap = record { foreman = new_foreman cap; came = 0; gone = false }

-- a foreman that is gone
abbrev pub gone_lead : Lead → Lead
gone_lead lead = record lead { gone = true }

-- nothing of each amount, which a new foreman states
abbrev pub nothing : Amounts
nothing = record { cores = 0; memory = 0; disk = 0 }

-- A foreman after a step of its machine. One that was told Bye is gone.
abbrev pub stepped_lead : Lead → Led → Lead
stepped_lead lead did = record {
  foreman = did.foreman;
  came = lead.came;
  gone = did.acts.bye || lead.gone;
}

-- as often as this somebody comes to a foreman at most
abbrev pub most_came : ℕ
most_came = 4294967295

-- a foreman that isn't gone, and to which somebody may come
abbrev pub is_open : Lead → Bool
is_open lead = not lead.gone && nat_lt lead.came most_came

-- the number of the next link at a foreman
abbrev pub next_below : Lead → LinkNo
next_below lead = record { 0 = lead.came + 1 }

-- a foreman to which one more came
abbrev pub with_one_more : Lead → Lead
with_one_more lead = record lead { came = lead.came + 1 }
