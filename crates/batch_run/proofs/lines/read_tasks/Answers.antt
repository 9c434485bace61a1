use Rattle.std.proofs.Common.{◌≡◌, ◌⊎◌, ◌∙◌, List, ℕ, Bor, None, Some, ap, map, subst}
use Rattle.std.specs.Prelude.{IfErr, IfOk}
use Rattle.std.specs.List.{flat_map}
use Rattle.batch_run.specs.declared.cause.BatchCause.TheVariants as causes
use Rattle.batch_run.specs.Batch.{line_tasks, lines_refusal}
use Rattle.batch_run.proofs.lines.read_tasks.Goals as goal

pub returns-clause-tasks : goal.returns-clause-tasks
returns-clause-tasks c =
    subst (λ (lines : List (List ℕ)). IfOk c.tasks_of_lines.result (λ tasks. (lines_refusal lines ≡ None) × (tasks.items ≡ flat_map line_tasks lines)))
    (ap (λ (lines : List (Bor (List ℕ))). map (λ (line : Bor (List ℕ)). line.now) lines) c.as_slice.ensures.value ∙ c.in-Ok.ensures) c.tasks_of_lines.ensures.tasks

pub returns-clause-refused : goal.returns-clause-refused
returns-clause-refused c =
    subst (λ (lines : List (List ℕ)). IfErr c.tasks_of_lines.result (λ why. (why ≡ causes.Memory) ⊎ (lines_refusal lines ≡ Some why)))
    (ap (λ (lines : List (Bor (List ℕ))). map (λ (line : Bor (List ℕ)). line.now) lines) c.as_slice.ensures.value ∙ c.in-Ok.ensures) c.tasks_of_lines.ensures.refused
