-- The task of one of some attempts.
use Rattle.std.proofs.Common.{◌≡◌, ◌≤◌, ◌∙◌, ℕ, suc, List, ◌∷◌, ◌++◌, length, Option, Some, Result, Ok, Err, get_or, take, drop, sym, ap, subst}
use Rattle.std.specs.Prelude.{◌==◌}
use Rattle.std.specs.List.{position}
use Rattle.std.specs.Option.{IfSome}
use Rattle.std.specs.Result.{IfOk, result_ok}
use Rattle.flow_types.specs.declared.plan.Plan.{Plan}
use Rattle.flow_types.specs.declared.numbers.AttemptNo.{AttemptNo}
use Rattle.flow_types.specs.declared.job.Task.{Task}
use Rattle.flow_types.specs.declared.messages.Message.TheVariants as messages
use Rattle.flow_types.specs.declared.records.Record.{Record}
use Rattle.flow_types.specs.Plans.{IsValid}
use Rattle.wq_messages.specs.Spelling.{HasCounts, most_body, spelling}
use Rattle.desk.specs.declared.attempt.Attempt.{Attempt}
use Rattle.desk.specs.Tasks.{task_of}
use Rattle.local_run.proofs.PlacesClosed.{taken_at}
use Rattle.wq_run.proofs.TaskShort.{can_send}

pub ok_as : {A E : Type 0} (r : Result A E) (o : Option A) (Q R : A → Type 0) → o ≡ result_ok r → IfOk r Q → ((x : A) → Q x → R x) → IfSome o R
ok_as (Ok x) o Q R is so step = subst (λ (p : Option _). IfSome p R) (sym is) (step x so)
ok_as (Err why) o Q R is so step = subst (λ (p : Option _). IfSome p R) (sym is) tt

-- Where it is found it is the task of the attempt that has the number.
pub task_found : {E : Type 0} (P : Plan) (H : List Record) (number : AttemptNo) (attempts : List Attempt) (at : ℕ) (a : Attempt) → position (λ (x : Attempt). x.number.0 == number.0) attempts ≡ Some at → a ≡ get_or attempts at a
    → (r : Result Task E) (o : Option Task) → o ≡ result_ok r → IfOk r (λ task. task_of P H a ≡ Some task)
    → IfSome o (λ task. (front : List Attempt) × (x : Attempt) × (back : List Attempt) × (attempts ≡ front ++ (x ∷ back)) × (x.number ≡ number) × (task_of P H x ≡ Some task))
task_found P H number attempts at a found is r o value so =
    let there = taken_at number attempts at a found in
    ok_as r o (λ task. task_of P H a ≡ Some task) (λ task. (front : List Attempt) × (x : Attempt) × (back : List Attempt) × (attempts ≡ front ++ (x ∷ back)) × (x.number ≡ number) × (task_of P H x ≡ Some task)) value so
    (λ task of. (
      take at attempts,
      a,
      drop (suc at) attempts,
      subst (λ (x : Attempt). attempts ≡ take at attempts ++ (x ∷ drop (suc at) attempts)) (sym is) there.1,
      ap (λ (x : Attempt). x.number) is ∙ there.2,
      of,
    ))

-- It can be sent.
pub found_counts : {E : Type 0} (P : Plan) (H : List Record) (a : Attempt) → IsValid P → (r : Result Task E) (o : Option Task) → o ≡ result_ok r → IfOk r (λ task. task_of P H a ≡ Some task) → IfSome o (λ task. HasCounts (messages.Task task))
found_counts P H a valid r o value so = ok_as r o (λ task. task_of P H a ≡ Some task) (λ task. HasCounts (messages.Task task)) value so (λ task of. (can_send P H a task valid of).counts)

pub found_short : {E : Type 0} (P : Plan) (H : List Record) (a : Attempt) → IsValid P → (r : Result Task E) (o : Option Task) → o ≡ result_ok r → IfOk r (λ task. task_of P H a ≡ Some task) → IfSome o (λ task. length (spelling (messages.Task task)) ≤ most_body)
found_short P H a valid r o value so = ok_as r o (λ task. task_of P H a ≡ Some task) (λ task. length (spelling (messages.Task task)) ≤ most_body) value so (λ task of. (can_send P H a task valid of).short)
