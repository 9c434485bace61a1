use Rattle.std.proofs.Common.{rules, ◌≡◌, ◌++◌, ◌∷◌, List, Some, subst}
use Rattle.std.specs.Option.{IfSome}
use Rattle.flow_types.specs.declared.job.Task.{Task}
use Rattle.run_history.specs.Links.{records_of}
use Rattle.desk.specs.declared.attempt.Attempt.{Attempt}
use Rattle.desk.specs.Tasks.{task_of}
use Rattle.wq_run.proofs.seat.Seat.task.Goals as goal

pub returns-clause-of : goal.returns-clause-of
returns-clause-of g c =
    let same : c.as_slice.result.now ≡ c.args.self.now.attempts = search rules in
    subst (λ (xs : List Attempt). IfSome c.task_at.result (λ (task : Task). (front : List Attempt) × (a : Attempt) × (back : List Attempt) × (xs ≡ front ++ (a ∷ back)) × (a.number ≡ c.args.number)
    × (task_of c.args.desk.now.plan (records_of c.args.desk.now.moves) a ≡ Some task))) same c.task_at.ensures.of
