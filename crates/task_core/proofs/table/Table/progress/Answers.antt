use Rattle.std.proofs.Common.{◌≤◌, ℕ, subst}
use Rattle.flow_types.specs.Plans.{IsValid, most_bytes}
use Rattle.task_core.specs.Accounts.{IsProgressOf}
use Rattle.task_core.specs.Known.{known_bytes}
use Rattle.task_core.specs.States.{TableState, known_in}
use Rattle.task_core.proofs.table.Table.progress.Goals as goal

pub returns-clause-known : goal.returns-clause-known
returns-clause-known c = subst (λ (t : TableState). IsProgressOf (known_in t) c.self.inside.progress) c.self.view_is c.self.invariant.3

pub returns-clause-valid : goal.returns-clause-valid
returns-clause-valid c = subst (λ (t : TableState). IsValid t.plan) c.self.view_is c.self.invariant.0.valid

pub returns-clause-small : goal.returns-clause-small
returns-clause-small c = subst (λ (t : TableState). (f : ℕ) → known_bytes (known_in t) f ≤ most_bytes) c.self.view_is c.self.invariant.0.small
