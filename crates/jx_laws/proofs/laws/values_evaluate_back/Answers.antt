use Rattle.jx_laws.proofs.Measures.{texts-evaluate_back, values-evaluate_back}
use Rattle.jx_laws.proofs.laws.values_evaluate_back.Goals as goal

pub returns-clause-texts : goal.returns-clause-texts
returns-clause-texts c = texts-evaluate_back c.values_read_back.ensures.read

pub returns-clause-values : goal.returns-clause-values
returns-clause-values c = values-evaluate_back c.values_read_back.ensures.read c.values_read_back.ensures.written
