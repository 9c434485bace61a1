use Rattle.jx_syntax.proofs.Values.{values-are_written, values-read_back, deep-values_are_refused, long-values_are_refused}
use Rattle.jx_syntax.proofs.laws.values_read_back.Goals as goal

pub returns-clause-written : goal.returns-clause-written
returns-clause-written c = values-are_written

pub returns-clause-read : goal.returns-clause-read
returns-clause-read c = values-read_back

pub returns-clause-deep : goal.returns-clause-deep
returns-clause-deep c = deep-values_are_refused

pub returns-clause-long : goal.returns-clause-long
returns-clause-long c = long-values_are_refused
