use Rattle.std.proofs.Common.{◌≤◌, length, sym, subst}
use Rattle.flow_types.specs.declared.job.Task.{Task}
use Rattle.flow_types.specs.declared.messages.Message.TheVariants as messages
use Rattle.wq_messages.specs.Spelling.{HasCounts, most_body, spelling}
use Rattle.wq_seats.proofs.Sizes.{task_counts, task_short}
use Rattle.wq_seats.proofs.copies.task_of.Goals as goal

pub returns-clause-counts : goal.returns-clause-counts
returns-clause-counts c = subst (λ (t : Task). HasCounts (messages.Task t)) (sym c.in_ok-sent.ensures.of) (task_counts c.args.task.now c.args.attempt c.requires)

pub returns-clause-short : goal.returns-clause-short
returns-clause-short c = subst (λ (t : Task). length (spelling (messages.Task t)) ≤ most_body) (sym c.in_ok-sent.ensures.of) (task_short c.args.task.now c.args.attempt c.requires)
