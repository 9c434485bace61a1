use Rattle.std.proofs.Common.{subst}
use Rattle.flow_types.specs.Plans.{IsValid}
use Rattle.task_core.specs.Accounts.{IsTasksOf}
use Rattle.task_core.specs.States.{TableState, known_in}
use Rattle.task_core.proofs.table.Table.tasks.Goals as goal

pub returns-clause-known : goal.returns-clause-known
returns-clause-known c = subst (λ (t : TableState). IsTasksOf (known_in t) c.self.inside.tasks) c.self.view_is c.self.invariant.4

pub returns-clause-valid : goal.returns-clause-valid
returns-clause-valid c = subst (λ (t : TableState). IsValid t.plan) c.self.view_is c.self.invariant.0.valid
