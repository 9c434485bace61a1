-- What comes back.
use Rattle.std.specs.Prelude.{ℕ}
use Rattle.flow_types.specs.declared.job.Job.{Job}
use Rattle.flow_types.specs.declared.job.Outcome.{Outcome}
use Rattle.atomic_table.specs.Seated.{TableId}
use Rattle.worker_pool.specs.declared.ran.Ran.{Ran}
use Rattle.worker_pool.specs.Tickets.{IsTicketOf}

-- It has the ticket of its start, and its outcome fits the start's job.
abbrev pub IsBack : TableId → (Job → Outcome → Type 0) → Ran → Type 0
IsBack table fits ran = IsTicketOf table ran.ticket ran.start × fits ran.start.job ran.outcome
