use Rattle.std.proofs.Common.{◌≤◌, ◌*◌, ◌∙◌, ap, subst}
use Rattle.flow_types.specs.Plans.{IsValid, most_bytes, most_files}
use Rattle.task_core.specs.Accounts.{holdings_of}
use Rattle.task_core.specs.Known.{stored_sum}
use Rattle.task_core.specs.States.{TableState, known_in}
use Rattle.task_core.proofs.Storing.{reserved-most, stored-most}
use Rattle.task_core.proofs.table.Table.account.Goals as goal

pub returns-clause-holds : goal.returns-clause-holds
returns-clause-holds c = c.self.invariant.2 ∙ ap (λ (t : TableState). holdings_of (known_in t)) c.self.view_is

pub returns-clause-stored : goal.returns-clause-stored
returns-clause-stored c =
    subst (λ (t : TableState). stored_sum (known_in t) ≤ most_bytes * most_files) c.self.view_is (stored-most c.self.inside.counts.plan c.self.inside.files c.self.invariant.0.valid c.self.invariant.0.small)

pub returns-clause-reserved : goal.returns-clause-reserved
returns-clause-reserved c = reserved-most c.args.self.now (subst (λ (t : TableState). IsValid t.plan) c.self.view_is c.self.invariant.0.valid)
