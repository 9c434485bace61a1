use Rattle.jx_laws.proofs.Measures.{literals-evaluate, nodes-are_counted}
use Rattle.jx_laws.proofs.laws.literals_evaluate.Goals as goal

pub returns-clause-value : goal.returns-clause-value
returns-clause-value c = literals-evaluate

pub returns-clause-nodes : goal.returns-clause-nodes
returns-clause-nodes c = nodes-are_counted
