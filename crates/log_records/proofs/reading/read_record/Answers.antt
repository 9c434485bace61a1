use Rattle.std.proofs.Math.Facts.{Fits-lt-pow}
use Rattle.log_records.proofs.Whole.{answer_spelled, answer_refused, answer_again}
use Rattle.log_records.proofs.reading.read_record.Goals as goal

pub returns-clause-spelled : goal.returns-clause-spelled
returns-clause-spelled c = answer_spelled c.args.body.now c.whole_record.result (λ i. Fits-lt-pow (c.type_inv.body i)) c.whole_record.ensures.answer

pub returns-clause-refused : goal.returns-clause-refused
returns-clause-refused c = answer_refused c.args.body.now c.whole_record.result (λ i. Fits-lt-pow (c.type_inv.body i)) c.whole_record.ensures.answer

pub returns-clause-again : goal.returns-clause-again
returns-clause-again c r fits same = answer_again c.args.body.now c.whole_record.result r c.whole_record.ensures.answer fits same
