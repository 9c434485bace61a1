-- What is so of every runner.
use Rattle.std.specs.Prelude.{List}
use Rattle.flow_types.specs.declared.job.Job.{Job}
use Rattle.worker_pool.specs.Hands.{Crew}

-- Each runner tells of the job.
abbrev pub AllTell : {R : Type 0} → (R → Job → Type 0) → List R → Job → Type 0
AllTell {R} tells runners job = Crew (λ r. tells r job) runners

-- Each runner is sure.
abbrev pub AllSure : {R : Type 0} → (R → Type 0) → List R → Type 0
AllSure {R} sure runners = Crew sure runners
