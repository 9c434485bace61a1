use Rattle.std.proofs.Common.{rules, ◌≡◌, ◌∙◌, Some, ap, sym}
use Rattle.std.specs.Prelude.{◌==◌, slice_get}
use Rattle.task_book.specs.declared.task.Held.{Held}
use Rattle.task_book.specs.Kept.{is_run, is_running, place_running}
use Rattle.task_book.proofs.Positions.{found, same_item}
use Rattle.task_book.proofs.Staging.{both_second, run_is, runs_there}
use Rattle.task_book.proofs.book.Book.running.Goals as goal

pub returns-in-Some-task-clause-runs : goal.returns-in-Some-task-clause-runs
returns-in-Some-task-clause-runs c =
    let held = c.args.self.now.held in
    let attempt = c.args.attempt in
    let id = c.args.id in
    let h = c.in-Some-task.held.now in
    let at = c.in-Some.at in
    let is : place_running id attempt held ≡ Some at = search rules in
    let there : slice_get held at ≡ Some h = search rules in
    let f = found (is_running id attempt) held at is in
    let same = same_item held at f.item h f.is_there there in
    runs_there held at h attempt there (ap (λ (x : Held). x.stage) (sym same) ∙ run_is attempt f.item.stage (both_second (f.item.id.0 == id.0) (is_run attempt f.item.stage) f.passes))
