use Rattle.std.proofs.Common.{ap}
use Rattle.wq_submit.specs.Queues.{QueueState}
use Rattle.batch_run.proofs.running.submit_one.Goals as goal

pub returns-in-Ok-clause-ok : goal.returns-in-Ok-clause-ok
returns-in-Ok-clause-ok g c = ap (λ (q : QueueState g.row.H-Way.Denot). q.kept) c.in-Ok.ensures.ok.1

pub returns-in-Ok-clause-files : goal.returns-in-Ok-clause-files
returns-in-Ok-clause-files g c = ap (λ (q : QueueState g.row.H-Way.Denot). q.files) c.in-Ok.ensures.ok.1

pub returns-in-Err-clause-err : goal.returns-in-Err-clause-err
returns-in-Err-clause-err g c = ap (λ (q : QueueState g.row.H-Way.Denot). q.kept) c.in-Err.ensures.err

pub returns-in-Err-clause-files : goal.returns-in-Err-clause-files
returns-in-Err-clause-files g c = ap (λ (q : QueueState g.row.H-Way.Denot). q.files) c.in-Err.ensures.err
