use Rattle.std.proofs.Common.{length}
use Rattle.std.proofs.lemmas.Bool.{leb-true}
use Rattle.flow_types.specs.Plans.{most_rules}
use Rattle.task_core.specs.States.{known_in}
use Rattle.task_core.proofs.LinkLoads.{tasks-are, tasks-few, tasks-inside}
use Rattle.task_core.proofs.table.Table.tasks_on.Goals as goal

pub returns-clause-rules : goal.returns-clause-rules
returns-clause-rules c = tasks-are (known_in c.args.self.now) c.tasks.result.now c.args.link.0 c.on.result.now c.tasks.ensures.known c.on.ensures.rules

pub returns-clause-inside : goal.returns-clause-inside
returns-clause-inside c = tasks-inside (known_in c.args.self.now) c.tasks.result.now c.args.link.0 c.on.result.now c.tasks.ensures.known c.on.ensures.rules

pub returns-clause-few : goal.returns-clause-few
returns-clause-few c = tasks-few (known_in c.args.self.now) c.tasks.result.now c.args.link.0 c.on.result.now c.tasks.ensures.known c.on.ensures.rules (leb-true (length c.args.self.now.plan.rules) most_rules c.tasks.ensures.valid.few_rules)
