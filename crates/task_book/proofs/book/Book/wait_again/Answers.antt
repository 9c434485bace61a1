use Rattle.std.proofs.Common.{List, sym, ap, subst}
use Rattle.task_book.specs.declared.task.Held.{Held}
use Rattle.task_book.specs.Kept.{Kept}
use Rattle.task_book.specs.declared.task.Stage.TheVariants as stages
use Rattle.task_book.specs.Stages.{EndsOn, RunsOn, Stops}
use Rattle.task_book.proofs.Staging.{place_waits_ends, place_waits_runs}
use Rattle.task_book.proofs.Stopping.{held_once, place_stops}
use Rattle.task_book.proofs.book.Book.wait_again.Goals as goal

pub returns-clause-runs : goal.returns-clause-runs
returns-clause-runs c =
    let held = c.args.self.now.held in
    subst (λ (new : List Held). RunsOn held new) (sym (ap (λ (k : Kept). k.held) c.stage.ensures.held)) (place_waits_runs held c.args.id c.args.attempt)

pub returns-clause-ends : goal.returns-clause-ends
returns-clause-ends c =
    let held = c.args.self.now.held in
    subst (λ (new : List Held). EndsOn held new) (sym (ap (λ (k : Kept). k.held) c.stage.ensures.held)) (place_waits_ends held c.args.id c.args.attempt)

pub returns-clause-stops : goal.returns-clause-stops
returns-clause-stops c =
    let k = c.args.self.now in
    subst (λ (new : List Held). Stops k.held new c.args.id c.args.attempt) (sym (ap (λ (x : Kept). x.held) c.stage.ensures.held))
    (place_stops c.args.id c.args.attempt stages.Waits (λ a is. let wrong : ⊥ = cc in wrong) k.held (held_once k c.stage.ensures.once))
