-- What is so of a foreman at every step, by what it heard and what it sent down.
use Rattle.std.specs.Prelude.{◌≡◌, ◌<◌, ◌⊎◌, ◌++◌, ℕ, List, Some}
use Rattle.flow_types.specs.declared.job.Outcome.{Outcome}
use Rattle.flow_types.specs.declared.job.Outcome.TheVariants as outcomes
use Rattle.flow_types.specs.declared.job.Task.{Task}
use Rattle.flow_types.specs.declared.messages.Key.{Key}
use Rattle.flow_types.specs.declared.messages.Message.{Message}
use Rattle.flow_types.specs.declared.messages.Message.TheVariants as messages
use Rattle.foreman_core.specs.declared.acts.Down.{Down}
use Rattle.foreman_core.specs.declared.links.Spot.{Spot}
use Rattle.foreman_core.specs.declared.links.Upstream.{Upstream}
use Rattle.foreman_core.specs.Foremen.{Foreman}
use Rattle.foreman_core.specs.Members.{Stands, Every}
use Rattle.foreman_core.specs.Steps.{Led, renumbered}

-- The task came from above.
abbrev pub IsAsked : List Message → Task → Type 0
IsAsked above task = Stands (messages.Task task) above

-- The content came from above under the key.
abbrev pub IsPut : List Message → Key → List ℕ → Type 0
IsPut above key content = Stands (messages.Put key content) above

-- the task as it goes to a spot
abbrev pub task_at : Task → Spot → Down
task_at task spot =
    record { link = spot.link; message = messages.Task (renumbered task spot.number) }

-- A task that went down is that of the attempt which owns its number.
abbrev pub IsOwned : List Message → (ℕ → Task) → ℕ → Down → Type 0
IsOwned above owner next sent =
    (task : Task) → sent.message ≡ messages.Task task
    → (task.attempt.0 < next) × (task ≡ renumbered (owner task.attempt.0) task.attempt)
    × IsAsked above (owner task.attempt.0)

-- An attempt that is placed has its task sent there, under a number that was given.
abbrev pub IsSpotted : List Down → ℕ → Upstream → Type 0
IsSpotted sent next u =
    (spot : Spot) → u.spot ≡ Some spot
    → Stands (task_at u.task spot) sent × (spot.number.0 < next)

-- What is held and asked came from above; each number below belongs to one attempt from above; and
-- what is placed was sent there.
pub record IsRight (above : List Message) (sent : List Down) (f : Foreman) : Type 0 where
  pub held : Every (λ row. IsPut above row.0 row.1.content) f.cache.rows
  pub asked : Every (λ u. IsAsked above u.task) f.attempts
  pub owner : ℕ → Task
  pub owned : Every (IsOwned above owner f.next) sent
  pub spots : Every (IsSpotted sent f.next) f.attempts

-- The worker to which the task went told this end of it.
abbrev pub IsTold : List Down → List Down → Task → Outcome → Type 0
IsTold below sent task outcome =
    (spot : Spot) × Stands (task_at task spot) sent
    × Stands (record { link = spot.link; message = messages.Done spot.number outcome }) below

-- What goes up of an attempt is about a task from above: it came to no end, or the worker to which
-- this very task went told its end.
abbrev pub IsRightUp : List Message → List Down → List Down → Message → Type 0
IsRightUp above below sent (messages.Done attempt outcome) =
    (task : Task) × (task.attempt ≡ attempt) × IsAsked above task
    × ((outcome ≡ outcomes.NotRun) ⊎ IsTold below sent task outcome)
IsRightUp above below sent _ = Unit {0}

-- A content that goes down came from above under its key.
abbrev pub IsRightDown : List Message → Message → Type 0
IsRightDown above (messages.Put key content) = IsPut above key content
IsRightDown above _ = Unit {0}

-- A foreman after a step, and all that it does there, are right, where these went down by then.
pub record IsRightLed (above : List Message) (below sent : List Down) (led : Led) : Type 0 where
  pub foreman : IsRight above sent led.foreman
  pub down : Every (λ s. IsRightDown above s.message) led.acts.down
  pub up : Every (IsRightUp above below sent) led.acts.up

-- The same, where these went down before the step.
abbrev pub IsRightAfter : List Message → List Down → List Down → Led → Type 0
IsRightAfter above below sent led = IsRightLed above below (sent ++ led.acts.down) led
