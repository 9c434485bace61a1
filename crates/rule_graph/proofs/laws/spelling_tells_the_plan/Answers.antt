use Rattle.rule_graph.proofs.Spelled.{spelling_tells}
use Rattle.rule_graph.proofs.laws.spelling_tells_the_plan.Goals as goal

pub returns : goal.returns
returns c = spelling_tells
