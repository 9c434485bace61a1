use Rattle.std.proofs.Common.{length}
use Rattle.std.proofs.lemmas.Bool.{leb-true}
use Rattle.flow_types.specs.Plans.{most_rules}
use Rattle.task_core.specs.States.{known_in}
use Rattle.task_core.proofs.Telling.{running-few, running-inside, running-is}
use Rattle.task_core.proofs.table.Table.running_rules.Goals as goal

pub returns-clause-rules : goal.returns-clause-rules
returns-clause-rules c = running-is (known_in c.args.self.now) c.progress.result.now c.running.result.now c.progress.ensures.known c.running.ensures

pub returns-clause-inside : goal.returns-clause-inside
returns-clause-inside c = running-inside (known_in c.args.self.now) c.running.result.now (running-is (known_in c.args.self.now) c.progress.result.now c.running.result.now c.progress.ensures.known c.running.ensures)

pub returns-clause-few : goal.returns-clause-few
returns-clause-few c =
    running-few (known_in c.args.self.now) c.running.result.now (running-is (known_in c.args.self.now) c.progress.result.now c.running.result.now c.progress.ensures.known c.running.ensures)
    (leb-true (length c.args.self.now.plan.rules) most_rules c.progress.ensures.valid.few_rules)
