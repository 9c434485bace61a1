use Rattle.log_records.proofs.Whole.{answered_fault}
use Rattle.log_records.proofs.reading.whole_record.Goals as goal

pub returns-in-Err-clause-answer : goal.returns-in-Err-clause-answer
returns-in-Err-clause-answer c = rw c.refusal.ensures (answered_fault c.args.body.now c.in-Err.fault c.in-Err.ensures.read)
