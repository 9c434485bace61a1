use Rattle.std.proofs.Common.{◌∙◌, sym}
use Rattle.run_history.specs.Links.{records_of}
use Rattle.wq_run.proofs.Tasks.{found_counts, found_short, task_found}
use Rattle.wq_run.proofs.seat.asking.task_at.Goals as goal

pub returns-clause-of : goal.returns-clause-of
returns-clause-of g c =
    task_found c.args.desk.now.plan (records_of c.args.desk.now.moves) c.args.number c.args.attempts.now c.in_ok-at.at c.in_ok-attempt.attempt.now (sym c.place.ensures ∙ c.in_ok-at.was) c.in_ok-attempt.ensures.lookup.1
    c.task.result c.ok.result c.ok.ensures.value c.task.ensures

pub returns-clause-counts : goal.returns-clause-counts
returns-clause-counts g c = found_counts c.args.desk.now.plan (records_of c.args.desk.now.moves) c.in_ok-attempt.attempt.now c.requires.valid c.task.result c.ok.result c.ok.ensures.value c.task.ensures

pub returns-clause-short : goal.returns-clause-short
returns-clause-short g c = found_short c.args.desk.now.plan (records_of c.args.desk.now.moves) c.in_ok-attempt.attempt.now c.requires.valid c.task.result c.ok.result c.ok.ensures.value c.task.ensures
