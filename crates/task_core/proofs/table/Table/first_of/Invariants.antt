use Rattle.std.proofs.Common.{◌-◌, length}
use Rattle.task_core.specs.Asked.{asks}
use Rattle.task_core.specs.States.{known_in}
use Rattle.task_core.proofs.Looking.{IsLooking}
use Rattle.task_core.proofs.table.Table.first_of.Given as goal

abbrev pub invariant-rules : goal.invariant-rules
invariant-rules l = IsLooking (known_in l.self) (asks (known_in l.self) l.asked) l.from

abbrev pub decreases-rules : goal.decreases-rules
decreases-rules l = length l.self.plan.rules - l.from
