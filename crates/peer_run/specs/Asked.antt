-- What a worker runs, it was asked for.
use Rattle.std.specs.Prelude.{◌≡◌, ℕ, List, [], ◌∷◌}
use Rattle.flow_types.specs.declared.job.Start.{Start}
use Rattle.flow_types.specs.declared.job.Task.{Task}
use Rattle.flow_types.specs.declared.messages.Key.{Key}
use Rattle.flow_types.specs.declared.messages.Message.TheVariants as messages
use Rattle.flow_types.specs.Serial.{Contents}
use Rattle.message_forms.specs.Streams.{Carries}
use Rattle.links.specs.Honesty.{WerePut, task_job}
use Rattle.worker_cache.specs.Caches.{Rows}

-- Among these bytes is a task of its attempt, and its job is that task's over contents put under its keys.
pub record IsAsked (down : List ℕ) (start : Start) : Type 0 where
  pub task : Task
  pub of_attempt : task.attempt ≡ start.attempt
  pub asked : Carries down (messages.Task task)
  pub contents : Contents
  pub were_put : WerePut down task contents
  pub job_is : start.job ≡ task_job task contents

-- the content was put under the key
abbrev pub WasPut : List ℕ → Key → List ℕ → Type 0
WasPut down key content = Carries down (messages.Put key content)

-- each was asked for
abbrev pub AreAsked : List ℕ → List Start → Type 0
AreAsked down [] = Unit {0}
AreAsked down (start ∷ starts) = IsAsked down start × AreAsked down starts

-- each row has the fact
abbrev pub AllRows : (Key → List ℕ → Type 0) → Rows → Type 0
AllRows P [] = Unit {0}
AllRows P (row ∷ rows) = P row.0 row.1.content × AllRows P rows
