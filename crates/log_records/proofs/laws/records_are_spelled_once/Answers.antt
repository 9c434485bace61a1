use Rattle.log_records.proofs.Whole.{reads_spellings, refuses_least, spelled_apart}
use Rattle.log_records.proofs.laws.records_are_spelled_once.Goals as goal

pub returns-clause-reads : goal.returns-clause-reads
returns-clause-reads c = reads_spellings

pub returns-clause-refuses : goal.returns-clause-refuses
returns-clause-refuses c = refuses_least

pub returns-clause-apart : goal.returns-clause-apart
returns-clause-apart c = spelled_apart
