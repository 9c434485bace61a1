use Rattle.std.proofs.Common.{List, sym, ap, subst}
use Rattle.task_book.specs.declared.task.Held.{Held}
use Rattle.task_book.specs.Kept.{Kept}
use Rattle.task_book.specs.declared.task.Stage.TheVariants as stages
use Rattle.task_book.specs.Stages.{EndsWith, RunsOn, Stops}
use Rattle.task_book.proofs.Staging.{place_ended_ends, place_ended_runs}
use Rattle.task_book.proofs.Stopping.{held_once, place_stops}
use Rattle.task_book.proofs.book.Book.end.Goals as goal

pub returns-clause-runs : goal.returns-clause-runs
returns-clause-runs c =
    let held = c.args.self.now.held in
    subst (λ (new : List Held). RunsOn held new) (sym (ap (λ (k : Kept). k.held) c.stage.ensures.held)) (place_ended_runs held c.args.id c.args.attempt c.args.outcome)

pub returns-clause-ends : goal.returns-clause-ends
returns-clause-ends c =
    let held = c.args.self.now.held in
    subst (λ (new : List Held). EndsWith held new c.args.attempt c.args.outcome) (sym (ap (λ (k : Kept). k.held) c.stage.ensures.held)) (place_ended_ends held c.args.id c.args.attempt c.args.outcome)

pub returns-clause-stops : goal.returns-clause-stops
returns-clause-stops c =
    let k = c.args.self.now in
    subst (λ (new : List Held). Stops k.held new c.args.id c.args.attempt) (sym (ap (λ (x : Kept). x.held) c.stage.ensures.held))
    (place_stops c.args.id c.args.attempt (stages.Ended c.args.attempt c.args.outcome) (λ a is. let wrong : ⊥ = cc in wrong) k.held (held_once k c.stage.ensures.once))
