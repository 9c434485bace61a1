use Rattle.std.proofs.Common.{◌≡◌, ◌≤◌, ◌<◌, ◌∙◌, List, ℕ, Bor, None, arith, inr, length, map, sym}
use Rattle.batch_run.specs.Batch.{bad_line_from}
use Rattle.batch_run.proofs.Texts.{all_tasks, lines_bad, lines_few, lines_many}
use Rattle.batch_run.proofs.lines.tasks_of_lines.Goals as goal

pub returns-in-Some-clause-refused : goal.returns-in-Some-clause-refused
returns-in-Some-clause-refused c = inr (lines_bad (map (λ (line : Bor (List ℕ)). line.now) c.args.lines.now) c.in-Some.line (sym c.bad_line.ensures ∙ c.in-Some.is))

pub returns-then-len-gt-MOST_COMMANDS-clause-refused : goal.returns-then-len-gt-MOST_COMMANDS-clause-refused
returns-then-len-gt-MOST_COMMANDS-clause-refused c =
    let lines = map (λ (line : Bor (List ℕ)). line.now) c.args.lines.now in
    let tasks = c.in-Ok.tasks.items in
    let many : 100000 < length tasks = omega arith in
    inr (lines_many lines tasks (sym c.bad_line.ensures ∙ c.in-None.is) (all_tasks (λ (line : Bor (List ℕ)). line.now) c.args.lines.now tasks c.in-Ok.ensures) many)

pub returns-clause-tasks : goal.returns-clause-tasks
returns-clause-tasks c =
    let lines = map (λ (line : Bor (List ℕ)). line.now) c.args.lines.now in
    let tasks = c.in-Ok.tasks.items in
    let all = all_tasks (λ (line : Bor (List ℕ)). line.now) c.args.lines.now tasks c.in-Ok.ensures in
    let few : length tasks ≤ 100000 = omega arith in
    (lines_few lines tasks (sym c.bad_line.ensures ∙ c.in-None.is) all few, all)
